use Rattle.std.proofs.Common.{◌++◌, refl}
use Rattle.std.proofs.lemmas.Result.{err_from_is_err_and}
use Rattle.zone_lookup.proofs.Adding.{additional, with_additional, records_more, records_refused, records_done}
use Rattle.zone_lookup.proofs.sections.push_records.Goals as goal

pub records-init : goal.records-init
records-init c = λ m stands. record { done = m.additional; stands = stands; limit = refl; whole = refl }

pub records-preserved : goal.records-preserved
records-preserved c =
    λ m stands. records_more 10 _ (with_additional m) c.records.rest.now c.in-Some.behind.now c.in-Some.item.now (m.additional ++ c.args.records.now)
    c.records.section c.args.section.now c.push.new.self _ (additional m) c.in-Some.ensures.cases.0 (c.records.invariant m stands) c.in_ok-push.ensures.adds

pub returns-in_err-push : goal.returns-in_err-push
returns-in_err-push c =
    let from = err_from_is_err_and c.from_residual.result c.from_residual.ensures.1 in
    rw (from.1, from.2) (λ m stands. records_refused 10 _ (with_additional m) c.records.rest.now c.in-Some.behind.now c.in-Some.item.now (m.additional ++ c.args.records.now)
    c.records.section c.args.section.now c.push.new.self _ _ (additional m) c.in-Some.ensures.cases.0 (c.records.invariant m stands) c.in_err-push.ensures.adds)

pub returns : goal.returns
returns c =
    λ m stands. records_done (with_additional m) c.records.rest.now (m.additional ++ c.args.records.now) c.records.section c.args.section.now _ c.in_default.ensures.cases (c.records.invariant m stands)
