use Rattle.std.proofs.Common.{◌∙◌}
use Rattle.dns_name.specs.Names.{fold}
use Rattle.zone_model.specs.Edits.{add_glue}
use Rattle.zone_changes.proofs.Drafting.{covers_edit, covers_glue, began_either, glue_apex}
use Rattle.zone_changes.proofs.draft.Draft.add_glue.Goals as goal

-- An edit at a noted key.
pub invariant_of-self : goal.invariant_of-self
invariant_of-self c =
    let v = c.self.inside.version.value in
    let base = c.self.inside.base.value.sets in (
      covers_edit c.add_glue.result c.self.inside.touched c.note.new.self c.new-key.result (fold c.args.added.owner, c.args.added.rtype) base v c.add_glue.new.pending.value (add_glue v c.args.added) (c.new-key.ensures ∙ (λ i. (fold (c.owner.ensures i), c.rtype.ensures i))) c.in-Ok.ensures.ok c.add_glue.ensures.ok c.add_glue.ensures.err
          (λ all t h. covers_glue all base v c.args.added t h) c.self.invariant.0,
      began_either c.add_glue.result c.self.inside.base.value v c.add_glue.new.pending.value (add_glue v c.args.added) c.add_glue.ensures.ok c.add_glue.ensures.err (glue_apex v c.args.added) c.self.invariant.1,
    )
