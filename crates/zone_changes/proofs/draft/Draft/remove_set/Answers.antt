use Rattle.std.proofs.Common.{refl}
use Rattle.dns_name.specs.Names.{fold}
use Rattle.zone_model.specs.Edits.{remove_set}
use Rattle.zone_changes.proofs.Covering.{covers_remove_set}
use Rattle.zone_changes.proofs.Drafting.{covers_edit, began_either}
use Rattle.zone_changes.proofs.draft.Draft.remove_set.Goals as goal

-- An edit at a noted key.
pub invariant_of-self-2 : goal.invariant_of-self-2
invariant_of-self-2 c =
    let v = c.self.inside.version.value in
    let base = c.self.inside.base.value.sets in (
      covers_edit c.remove_set.result c.self.inside.touched c.note.new.self c.new.result (fold c.args.owner.now, c.args.rtype) base v c.remove_set.new.pending.value _ c.new.ensures c.in_ok-note.ensures.ok c.remove_set.ensures.ok c.remove_set.ensures.err
          (λ all t h. covers_remove_set all base v c.args.owner.now c.args.rtype t h) c.self.invariant.0,
      began_either c.remove_set.result c.self.inside.base.value v c.remove_set.new.pending.value (remove_set v c.args.owner.now c.args.rtype) c.remove_set.ensures.ok c.remove_set.ensures.err refl c.self.invariant.1,
    )
