use Rattle.std.proofs.Common.{◌≡◌, ℕ, [], ◌∷◌, sym, ap, ◌∙◌}
use Rattle.dns_name.specs.Names.{Name}
use Rattle.dns_numbers.specs.Codes.{type_cname}
use Rattle.zone_model.specs.Edits.{make_alias}
use Rattle.zone_sessions.proofs.KeptApex.{place, put_place, kept}
use Rattle.zone_sessions.proofs.opening.Opening.make_alias.Goals as goal

-- An edit keeps the apex and the class.
pub keep-requires-clause-apex : goal.keep-requires-clause-apex
keep-requires-clause-apex c =
    let v = c.in_ok-version.version in
    ap (λ (p : Name × ℕ). p.0) (kept c.make_alias-put.result c.args.self.now v c.make_alias-put.new.version (make_alias v c.args.owner.now c.args.alias.now.ttl c.args.alias.now.fields) c.in_ok-version.ensures.ok c.make_alias-put.ensures.ok c.make_alias-put.ensures.err (put_place v c.args.owner.now type_cname (record { ttl = c.args.alias.now.ttl; items = c.args.alias.now.fields ∷ [] })) ∙ sym (ap place c.in_ok-version.ensures.rest))

pub keep-requires-clause-class : goal.keep-requires-clause-class
keep-requires-clause-class c =
    let v = c.in_ok-version.version in
    ap (λ (p : Name × ℕ). p.1) (kept c.make_alias-put.result c.args.self.now v c.make_alias-put.new.version (make_alias v c.args.owner.now c.args.alias.now.ttl c.args.alias.now.fields) c.in_ok-version.ensures.ok c.make_alias-put.ensures.ok c.make_alias-put.ensures.err (put_place v c.args.owner.now type_cname (record { ttl = c.args.alias.now.ttl; items = c.args.alias.now.fields ∷ [] })) ∙ sym (ap place c.in_ok-version.ensures.rest))
