use Rattle.std.proofs.Common.{◌≡◌, true, false, if◌then◌else◌, sym, ap, ◌∙◌, is_eq}
use Rattle.dns_name.specs.Names.{canonical_cmp}
use Rattle.name_keys.specs.NameKeys.{name_of_key}
use Rattle.paged_map.specs.Octets.{octets_cmp}
use Rattle.zone_versions.specs.Held.{told_at, typed_sets, after_type}
use Rattle.zone_versions.proofs.Named.{compared}
use Rattle.zone_versions.proofs.tree_walk.NodeRest.after.Goals as goal

pub returns-then-is_same : goal.returns-then-is_same
returns-then-is_same c =
    let same : true ≡ is_eq (canonical_cmp c.args.name.now (name_of_key c.args.key.now))
    = sym c.if-is_same.true ∙ c.is_same.ensures ∙ ap (λ k. is_eq (octets_cmp k c.args.key.now)) c.as_slice.ensures.value ∙ ap is_eq (compared c.args.name.now c.args.key.now c.requires) in
    ap (told_at (name_of_key c.args.key.now)) (c.after.ensures ∙ ap (λ b. typed_sets (if b then after_type c.args.rtype c.args.node.now else c.args.node.now)) same)

pub returns : goal.returns
returns c =
    let apart : false ≡ is_eq (canonical_cmp c.args.name.now (name_of_key c.args.key.now))
    = sym c.if-is_same.false ∙ c.is_same.ensures ∙ ap (λ k. is_eq (octets_cmp k c.args.key.now)) c.as_slice.ensures.value ∙ ap is_eq (compared c.args.name.now c.args.key.now c.requires) in
    c.of.ensures ∙ ap (λ b. told_at (name_of_key c.args.key.now) (typed_sets (if b then after_type c.args.rtype c.args.node.now else c.args.node.now))) apart
