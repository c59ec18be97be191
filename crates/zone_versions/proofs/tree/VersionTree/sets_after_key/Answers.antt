use Rattle.std.proofs.Common.{◌≡◌, true, map, filter, sym, ap, ◌∙◌, subst, is_le}
use Rattle.std.specs.List.{AllByRecursion}
use Rattle.std.specs.List.Sorted.{IsStrictlySortedBy}
use Rattle.std.specs.Map.{keys_of}
use Rattle.dns_name.specs.Names.{Name, canonical_cmp}
use Rattle.zone_model.specs.Version.{Version}
use Rattle.zone_versions.specs.Held.{told}
use Rattle.zone_versions.specs.Trees.{Nodes, sets_of}
use Rattle.zone_versions.proofs.Kept.{nodes_filter}
use Rattle.zone_versions.proofs.Walked.{is_after, after_filtered, kept_pass}
use Rattle.zone_versions.proofs.tree.VersionTree.sets_after_key.Goals as goal

pub after-requires-clause-sorted : goal.after-requires-clause-sorted
after-requires-clause-sorted c =
    subst (λ (ns : Nodes). IsStrictlySortedBy canonical_cmp (keys_of ns)) (sym c.entries_from.ensures.is)
    (nodes_filter (λ e. is_le (canonical_cmp c.args.name.now e.0)) c.self.inside.nodes c.self.invariant.are_nodes).ordered

pub after-requires-clause-from : goal.after-requires-clause-from
after-requires-clause-from c =
    subst (λ (ns : Nodes). AllByRecursion (λ (n : Name). is_le (canonical_cmp c.args.name.now n) ≡ true) (keys_of ns)) (sym c.entries_from.ensures.is)
    (kept_pass (λ n. is_le (canonical_cmp c.args.name.now n)) c.self.inside.nodes)

pub returns : goal.returns
returns c =
    c.after.ensures ∙ ap (λ (ns : Nodes). map told (filter (is_after c.args.name.now c.args.rtype) (sets_of ns))) c.entries_from.ensures.is
    ∙ ap (map told) (after_filtered c.args.name.now c.args.rtype c.self.inside.nodes)
    ∙ ap (λ (v : Version). map told (filter (is_after c.args.name.now c.args.rtype) v.sets)) c.self.view_is
