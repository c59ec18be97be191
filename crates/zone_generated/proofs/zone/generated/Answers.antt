use Rattle.std.proofs.Common.{◌≡◌, ap, ◌∙◌, subst, arith}
use Rattle.std.specs.Prelude.{IfOk}
use Rattle.zone_model.specs.Version.{Version}
use Rattle.zone_model.specs.Edits.{close}
use Rattle.zone_model.specs.Commits.{Commit}
use Rattle.zone_model.specs.Classify.{opened_with}
use Rattle.zone_generated.specs.Generated.{draws, empty, soa_record, ns_record}
use Rattle.zone_generated.proofs.Opened.{with_hosts, opens}
use Rattle.zone_generated.proofs.AnyOrder.{same_hosts}
use Rattle.zone_generated.proofs.zone.generated.Goals as goal

-- The draws in the order of their owners make what they make as they were drawn.
pub returns : goal.returns
returns c =
    let begun : Version = opened_with (opened_with empty soa_record) ns_record in
    subst (λ (v : Version). IfOk c.zone_of-zone.result (λ (z : Commit). z ≡ record { number = 0; version = v }))
    (ap (λ xs. close (with_hosts c.args.count begun xs)) c.as_slice.ensures.value
    ∙ ap close (same_hosts c.args.count (omega (arith, c.requires)) c.ranges.count.fits (draws c.args.count c.args.seed) c.in_ok-drawn.drawn.items c.in_ok-drawn.ensures.stable begun)
    ∙ opens c.args.count c.args.seed) c.zone_of-zone.ensures
