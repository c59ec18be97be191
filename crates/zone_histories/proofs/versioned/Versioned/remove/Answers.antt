use Rattle.std.proofs.Common.{sym, ap, ◌∙◌, ◌≡◌, ◌==◌, length, not, true, None}
use Rattle.zone_histories.specs.Histories.{ascends, before, written, removed}
use Rattle.zone_histories.proofs.Writes.{either, on_ok, taken_away, written_ascends}
use Rattle.zone_histories.proofs.versioned.Versioned.remove.Goals as goal

pub invariant_of-self : goal.invariant_of-self
invariant_of-self g c = ap ascends c.clear.ensures.items

pub invariant_of-self-2 : goal.invariant_of-self-2
invariant_of-self-2 g c =
    either (λ l. ascends l ≡ true) c.write.result c.write.new.writes.items (written c.self.inside.data.items c.args.version None) c.self.inside.data.items c.write.ensures.ok c.write.ensures.err
    (written_ascends c.self.inside.data.items c.args.version None c.self.invariant) c.self.invariant

pub returns-clause-ok : goal.returns-clause-ok
returns-clause-ok g c =
    let v = c.args.version in
    let there = sym c.has_value.ensures ∙ c.if-not-has_value.false in
    let some = ap (λ l. not (length (before l v) == 0)) (sym (c.deref.ensures.value ∙ c.self.view_is)) ∙ sym c.has_before.ensures ∙ c.if-not-has_before.false in
    on_ok c.write.result c.write.new.writes.items (written c.self.inside.data.items v None) (removed c.args.self.now v) c.write.ensures.ok
    (ap (λ l. written l v None) c.self.view_is ∙ taken_away c.args.self.now v there some)
