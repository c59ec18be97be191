use Rattle.std.proofs.Common.{ℕ, not, ◌==◌, length, sym, ap, ◌∙◌}
use Rattle.dns_name.specs.Names.{Name, fold}
use Rattle.dns_numbers.specs.Codes.{type_soa}
use Rattle.zone_values.specs.TypedSets.{TypedSet}
use Rattle.xfr_replies.proofs.Reading.{soa_count, no_soas}
use Rattle.xfr_replies.proofs.of_difference.has_soas.Goals as goal

pub returns-in-Some : goal.returns-in-Some
returns-in-Some c =
    let key = c.new.ensures ∙ ap (λ (n : Name). (fold n, type_soa)) c.apex_name.ensures in
    let count = soa_count c.args.zone.now.version c.args.sets.now c.new.result c.in-Some.set.now key c.in-Some.ensures in
    ap not (c.is_empty.ensures ∙ ap (λ (s : TypedSet). length s.contents.items == 0) c.as_rrset.ensures ∙ ap (λ (n : ℕ). n == 0) (sym count))

pub returns-in-None : goal.returns-in-None
returns-in-None c =
    let key = c.new.ensures ∙ ap (λ (n : Name). (fold n, type_soa)) c.apex_name.ensures in
    ap (λ (n : ℕ). not (n == 0)) (sym (no_soas c.args.zone.now.version c.args.sets.now c.new.result key c.in-None.ensures))
