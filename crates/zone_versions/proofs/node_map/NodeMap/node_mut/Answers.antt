use Rattle.std.proofs.Common.{ap, ◌∙◌, sym, subst, refl, is_ok, is_some}
use Rattle.std.specs.BTreeMap.{insert_entry, is_at}
use Rattle.std.specs.Map.{lookup, keys_of}
use Rattle.std.specs.List.Sorted.{IsStrictlySortedBy}
use Rattle.paged_map.specs.Octets.{octets_cmp}
use Rattle.zone_versions.specs.Trees.{node_at}
use Rattle.zone_versions.specs.Ways.{put_node}
use Rattle.zone_versions.specs.Keyed.{named, AreKeys, Keyed}
use Rattle.zone_versions.proofs.Named.{get_named, insert_named, keys_insert, sorted_insert}
use Rattle.paged_map.proofs.MarkOrder.{octets_total}
use Rattle.zone_versions.proofs.Written.{insert_same}
use Rattle.zone_versions.proofs.node_map.NodeMap.node_mut.Goals as goal

pub value_mut-requires : goal.value_mut-requires
value_mut-requires c =
    ap is_some (ap (λ k. lookup (is_at (octets_cmp k)) c.self.inside.pages) c.as_slice.ensures.value ∙ get_named c.self.inside.pages c.args.name.now c.self.invariant.0 ∙ ap (λ m. node_at m c.args.name.now) c.self.view_is)
    ∙ c.requires

pub invariant_of-self-lent : goal.invariant_of-self-lent
invariant_of-self-lent c w =
    subst (λ (es : Keyed). AreKeys es × IsStrictlySortedBy octets_cmp (keys_of es)) (sym (c.value_mut.follows.holds w (ap is_ok c.in_ok-value_mut.was)))
    (subst (λ k. AreKeys (insert_entry octets_cmp c.self.inside.pages k w)) (sym c.as_slice.ensures.value) (keys_insert c.self.inside.pages c.args.name.now w c.as_slice.ensures.name c.self.invariant.0), sorted_insert c.self.inside.pages c.as_slice.result.now w c.self.invariant.1)

pub returns : goal.returns
returns c =
    let pages = c.self.inside.pages in
    let name = c.args.name.now in
    let read = ap (λ k. lookup (is_at (octets_cmp k)) pages) c.as_slice.ensures.value ∙ get_named pages name c.self.invariant.0 ∙ ap (λ m. node_at m name) c.self.view_is in (
      (
        refl,
        (λ w ok.
            let is = c.value_mut.follows.holds w (ap is_ok c.in_ok-value_mut.was) in (
              ap named (is ∙ ap (λ k. insert_entry octets_cmp pages k w) c.as_slice.ensures.value) ∙ insert_named pages name w c.as_slice.ensures.folded c.self.invariant.0 ∙ ap (λ m. put_node m name w) c.self.view_is,
              (λ same. ap named (is ∙ insert_same octets_total pages c.as_slice.result.now w c.self.invariant.1 (read ∙ same)) ∙ c.self.view_is),
            )),
        tt,
      ),
      record { writes_back = tt; value = sym read ∙ c.in_ok-value_mut.ensures.value },
    )
