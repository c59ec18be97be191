use Rattle.std.proofs.Common.{◌≡◌, true, ◌++◌, map, filter, sym, ap, ◌∙◌, subst, is_le}
use Rattle.std.specs.List.{AllByRecursion}
use Rattle.std.specs.List.Sorted.{IsStrictlySortedBy}
use Rattle.std.specs.Map.{keys_of}
use Rattle.dns_name.specs.Names.{Name, canonical_cmp}
use Rattle.name_keys.specs.NameKeys.{name_of_key}
use Rattle.zone_versions.specs.Held.{told}
use Rattle.zone_versions.specs.Keyed.{Keyed, named}
use Rattle.zone_versions.specs.Trees.{sets_of}
use Rattle.zone_versions.proofs.Walked.{is_after, after_nodes}
use Rattle.zone_versions.proofs.tree_walk.TreeSets.after.Goals as goal

pub returns-in-Some : goal.returns-in-Some
returns-in-Some c =
    ap (λ l. l ++ map told (sets_of (named c.next.new.self))) c.after.ensures
    ∙ after_nodes c.args.name.now c.args.rtype (name_of_key c.in-Some.key.now) c.in-Some.node.now (named c.next.new.self)
    (subst (λ (es : Keyed). IsStrictlySortedBy canonical_cmp (keys_of (named es))) c.in-Some.ensures.steps c.requires.sorted)
    (subst (λ (es : Keyed). AllByRecursion (λ (n : Name). is_le (canonical_cmp c.args.name.now n) ≡ true) (keys_of (named es))) c.in-Some.ensures.steps c.requires.from).0
    ∙ ap (λ (es : Keyed). map told (filter (is_after c.args.name.now c.args.rtype) (sets_of (named es)))) (sym c.in-Some.ensures.steps)
