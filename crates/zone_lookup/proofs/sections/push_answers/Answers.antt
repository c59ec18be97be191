use Rattle.std.proofs.Common.{◌≡◌, [], refl, ◌∙◌}
use Rattle.std.proofs.lemmas.Result.{err_from_is_err_and}
use Rattle.dns_rdata.specs.ZoneData.{rtype_of, data_fields}
use Rattle.dns_wire.specs.Wire.{in_answer}
use Rattle.zone_lookup.specs.Sending.{set_at_name}
use Rattle.zone_lookup.proofs.Adding.{answers, record_with, typed_rest, set_is, set_more, set_refused, set_done}
use Rattle.zone_lookup.proofs.sections.push_answers.Goals as goal

pub records-init : goal.records-init
records-init c =
    let a = c.args in
    record {
      types = c.data-rest.ensures.types;
      kept = λ h qs stands. record {
        done = [];
        stands = stands;
        limit = refl;
        whole = set_is data_fields a.owner.now a.class c.ttl-ttl.result c.data-rest.result.now a.set.now c.ttl-ttl.ensures c.data-rest.ensures.fields;
      };
    }

pub records-preserved : goal.records-preserved
records-preserved c =
    let a = c.args in
    let typed = typed_rest rtype_of a.set.now.rtype c.records.rest.now c.in-Some.behind.now c.in-Some.rdata.now c.in-Some.ensures.cases.0 c.records.invariant.types in
    let is : c.new.result ≡ record_with a.owner.now a.set.now.rtype a.class c.ttl-ttl.result (data_fields c.in-Some.rdata.now) = c.new.ensures ∙ rw (c.borrowed.ensures.value, typed.0) refl in
    record {
      types = typed.1;
      kept = λ h qs stands. set_more data_fields a.owner.now a.set.now.rtype a.class c.ttl-ttl.result c.records.rest.now c.in-Some.behind.now c.in-Some.rdata.now c.new.result 6 _ (λ rs. in_answer h qs rs)
          (set_at_name a.owner.now a.class a.set.now) c.records.section a.section.now c.push.new.self _ (answers h qs) c.in-Some.ensures.cases.0 is (c.records.invariant.kept h qs stands) c.in_ok-push.ensures.adds;
    }

pub returns-in_err-push : goal.returns-in_err-push
returns-in_err-push c =
    let from = err_from_is_err_and c.from_residual.result c.from_residual.ensures.1 in
    let a = c.args in
    let typed = typed_rest rtype_of a.set.now.rtype c.records.rest.now c.in-Some.behind.now c.in-Some.rdata.now c.in-Some.ensures.cases.0 c.records.invariant.types in
    let is : c.new.result ≡ record_with a.owner.now a.set.now.rtype a.class c.ttl-ttl.result (data_fields c.in-Some.rdata.now) = c.new.ensures ∙ rw (c.borrowed.ensures.value, typed.0) refl in
    rw (from.1, from.2) (λ h qs stands. set_refused data_fields a.owner.now a.set.now.rtype a.class c.ttl-ttl.result c.records.rest.now c.in-Some.behind.now c.in-Some.rdata.now c.new.result 6 _ (λ rs. in_answer h qs rs)
    (set_at_name a.owner.now a.class a.set.now) c.records.section a.section.now c.push.new.self _ _ (answers h qs) c.in-Some.ensures.cases.0 is (c.records.invariant.kept h qs stands) c.in_err-push.ensures.adds)

pub returns : goal.returns
returns c =
    let a = c.args in
    λ h qs stands. set_done data_fields a.owner.now a.set.now.rtype a.class c.ttl-ttl.result c.records.rest.now (λ rs. in_answer h qs rs) (set_at_name a.owner.now a.class a.set.now) c.records.section a.section.now _
    c.in_default.ensures.cases (c.records.invariant.kept h qs stands)
