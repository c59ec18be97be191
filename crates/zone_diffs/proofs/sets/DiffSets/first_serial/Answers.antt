use Rattle.std.proofs.Common.{◌≡◌, ◌==◌, ◌∙◌, sym, ap, ℕ, true, Some}
use Rattle.dns_numbers.specs.Codes.{type_soa}
use Rattle.zone_values.specs.TypedSets.{TypedSet}
use Rattle.zone_diffs.specs.Building.{set_serial}
use Rattle.zone_diffs.proofs.Finding.{first_typed, first_of_items, first_here}
use Rattle.zone_diffs.proofs.sets.DiffSets.first_serial.Goals as goal

-- The first SOA set of what is left is this one.
pub returns-then-eq : goal.returns-then-eq
returns-then-eq c =
    let is_soa : (c.in-Some.key.now.1 == type_soa) ≡ true = ap (λ (n : ℕ). n == type_soa) (sym c.rtype.ensures) ∙ sym c.eq.ensures ∙ c.if-eq.true in
    ap Some (c.serial_in.ensures ∙ ap (λ (s : TypedSet). set_serial s.contents) c.as_rrset.ensures)
    ∙ sym (first_here c.items.items c.next.new.self c.in-Some.key.now c.in-Some.set.now c.in-Some.ensures.steps is_soa)
    ∙ c.items.invariant.2 ∙ ap first_typed c.iter-items.ensures ∙ first_of_items c.args.self.now

-- Nothing is left.
pub returns : goal.returns
returns c = sym (ap first_typed c.in_default.ensures.steps.0) ∙ c.items.invariant.2 ∙ ap first_typed c.iter-items.ensures ∙ first_of_items c.args.self.now
