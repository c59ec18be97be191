use Rattle.std.proofs.Common.{sym, ap, ◌∙◌, ◌≡◌, true, Some}
use Rattle.zone_histories.specs.Histories.{ascends, written}
use Rattle.zone_histories.proofs.Writes.{either, written_ascends}
use Rattle.zone_histories.proofs.versioned.Versioned.update.Goals as goal

pub invariant_of-self : goal.invariant_of-self
invariant_of-self g c =
    either (λ l. ascends l ≡ true) c.write.result c.write.new.writes.items (written c.self.inside.data.items c.args.version (Some c.args.value)) c.self.inside.data.items c.write.ensures.ok c.write.ensures.err
    (written_ascends c.self.inside.data.items c.args.version (Some c.args.value) c.self.invariant) c.self.invariant
