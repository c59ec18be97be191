use Rattle.std.proofs.Common.{◌≡◌, ℕ, sym, ap, ◌∙◌}
use Rattle.dns_name.specs.Names.{Name}
use Rattle.zone_model.specs.Edits.{put_set, distinct_set}
use Rattle.zone_sessions.proofs.KeptApex.{place, put_place, kept}
use Rattle.zone_sessions.proofs.opening.Opening.replace_set.Goals as goal

-- An edit keeps the apex and the class.
pub keep-requires-clause-apex : goal.keep-requires-clause-apex
keep-requires-clause-apex c =
    let v = c.in_ok-version.version in
    ap (λ (p : Name × ℕ). p.0) (kept c.replace_set-put.result c.args.self.now v c.replace_set-put.new.version (put_set v c.args.owner.now c.args.set.now.rtype (distinct_set c.args.set.now.contents)) c.in_ok-version.ensures.ok c.replace_set-put.ensures.ok c.replace_set-put.ensures.err (put_place v c.args.owner.now c.args.set.now.rtype (distinct_set c.args.set.now.contents)) ∙ sym (ap place c.in_ok-version.ensures.rest))

pub keep-requires-clause-class : goal.keep-requires-clause-class
keep-requires-clause-class c =
    let v = c.in_ok-version.version in
    ap (λ (p : Name × ℕ). p.1) (kept c.replace_set-put.result c.args.self.now v c.replace_set-put.new.version (put_set v c.args.owner.now c.args.set.now.rtype (distinct_set c.args.set.now.contents)) c.in_ok-version.ensures.ok c.replace_set-put.ensures.ok c.replace_set-put.ensures.err (put_place v c.args.owner.now c.args.set.now.rtype (distinct_set c.args.set.now.contents)) ∙ sym (ap place c.in_ok-version.ensures.rest))
