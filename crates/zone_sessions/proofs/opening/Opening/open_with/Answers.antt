use Rattle.std.proofs.Common.{◌≡◌, ℕ, sym, ap, ◌∙◌}
use Rattle.dns_name.specs.Names.{Name}
use Rattle.zone_model.specs.Classify.{opened_with}
use Rattle.zone_sessions.proofs.KeptApex.{place, put_place, kept}
use Rattle.zone_sessions.proofs.opening.Opening.open_with.Goals as goal

-- An edit keeps the apex and the class.
pub keep-requires-clause-apex : goal.keep-requires-clause-apex
keep-requires-clause-apex c =
    let v = c.in-Ok.version in
    ap (λ (p : Name × ℕ). p.0) (kept c.open_with-put.result c.args.self.now v c.open_with-put.new.self (opened_with v c.args.added) c.in-Ok.ensures.ok c.open_with-put.ensures.ok c.open_with-put.ensures.err (put_place v c.args.added.owner c.args.added.rtype _) ∙ sym (ap place c.in-Ok.ensures.rest))

pub keep-requires-clause-class : goal.keep-requires-clause-class
keep-requires-clause-class c =
    let v = c.in-Ok.version in
    ap (λ (p : Name × ℕ). p.1) (kept c.open_with-put.result c.args.self.now v c.open_with-put.new.self (opened_with v c.args.added) c.in-Ok.ensures.ok c.open_with-put.ensures.ok c.open_with-put.ensures.err (put_place v c.args.added.owner c.args.added.rtype _) ∙ sym (ap place c.in-Ok.ensures.rest))
