use Rattle.std.proofs.Common.{◌∙◌}
use Rattle.dns_name.specs.Names.{fold}
use Rattle.zone_versions.specs.Puts.{without}
use Rattle.zone_changes.proofs.Drafting.{covers_edit, covers_put, began_either, put_apex}
use Rattle.zone_changes.proofs.draft.Draft.remove.Goals as goal

-- An edit at a noted key.
pub invariant_of-self-2 : goal.invariant_of-self-2
invariant_of-self-2 c =
    let v = c.self.inside.version.value in
    let base = c.self.inside.base.value.sets in (
      covers_edit c.remove.result c.self.inside.touched c.note.new.self c.new.result (fold c.args.deleted.now.owner, c.args.deleted.now.rtype) base v c.remove.new.pending.value (without v c.args.deleted.now) (c.new.ensures ∙ (λ i. (fold (c.owner.ensures i), c.rtype.ensures i))) c.in_ok-note.ensures.ok c.remove.ensures.ok c.remove.ensures.err
          (λ all t h. covers_put all base v c.args.deleted.now.owner c.args.deleted.now.rtype _ t h) c.self.invariant.0,
      began_either c.remove.result c.self.inside.base.value v c.remove.new.pending.value (without v c.args.deleted.now) c.remove.ensures.ok c.remove.ensures.err (put_apex v c.args.deleted.now.owner c.args.deleted.now.rtype _) c.self.invariant.1,
    )
