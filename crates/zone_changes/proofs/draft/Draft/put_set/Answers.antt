use Rattle.std.proofs.Common.{ap, ◌∙◌}
use Rattle.dns_name.specs.Names.{fold}
use Rattle.zone_changes.proofs.Drafting.{covers_edit, covers_put, began_either, put_apex}
use Rattle.zone_changes.proofs.draft.Draft.put_set.Goals as goal

-- An edit at a noted key.
pub invariant_of-self-2 : goal.invariant_of-self-2
invariant_of-self-2 c =
    let v = c.self.inside.version.value in
    let base = c.self.inside.base.value.sets in (
      covers_edit c.put_set.result c.self.inside.touched c.note.new.self c.new.result (fold c.args.owner.now, c.args.set.rtype) base v c.put_set.new.pending.value _ (c.new.ensures ∙ ap (λ t. (fold c.args.owner.now, t)) c.rtype.ensures) c.in_ok-note.ensures.ok c.put_set.ensures.ok c.put_set.ensures.err
          (λ all t h. covers_put all base v c.args.owner.now c.args.set.rtype c.args.set.contents t h) c.self.invariant.0,
      began_either c.put_set.result c.self.inside.base.value v c.put_set.new.pending.value _ c.put_set.ensures.ok c.put_set.ensures.err (put_apex v c.args.owner.now c.args.set.rtype c.args.set.contents) c.self.invariant.1,
    )
