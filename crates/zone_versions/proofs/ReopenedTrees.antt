-- A tree in a version of the same sets and an apex that is the same name up to case.
use Rattle.std.proofs.Common.{◌≡◌, ℕ, true, ◌&&◌, ◌||◌, refl, sym, ap, ◌∙◌, subst}
use Rattle.std.specs.List.{list_any}
use Rattle.dns_name.specs.Names.{Name, fold, same_name, under}
use Rattle.zone_model.specs.Version.{RecordSet, Key, Version}
use Rattle.zone_model.proofs.Folded.{same_name-Decides, under_alike, same_name_alike}
use Rattle.zone_versions.specs.Trees.{Nodes, sets_of, in_tree, IsTree}
use Rattle.zone_versions.specs.Ways.{version_of}

module _ (apex was : Name) (class before : ℕ) (nodes : Nodes) (h : same_name apex was ≡ true) where
  -- the same names exist
  in_tree_again : (n : Name) → in_tree (version_of was before nodes) n ≡ in_tree (version_of apex class nodes) n
  in_tree_again n =
      let e : fold was ≡ fold apex = sym ((same_name-Decides apex was).0 h) in
      λ i. under_alike n n was apex refl e i && (same_name_alike n n was apex refl e i || list_any (λ (f : Key × RecordSet). under f.0.0 n) (sets_of nodes))

  pub tree_again : IsTree (version_of was before nodes) nodes → IsTree (version_of apex class nodes) nodes
  tree_again tree = record { are_nodes = tree.are_nodes; sets = refl; names = λ n. tree.names n ∙ in_tree_again n }

-- .. of nodes that are the same
pub reopened_tree : (apex : Name) (class : ℕ) (v : Version) (was : Name) (before : ℕ) (nodes copied : Nodes) → version_of was before nodes ≡ v → same_name apex v.apex ≡ true → IsTree (version_of was before nodes) nodes → copied ≡ nodes
    → IsTree (version_of apex class copied) copied
reopened_tree apex class v was before nodes copied is h tree e =
    subst (λ ns. IsTree (version_of apex class ns) ns) (sym e) (tree_again apex was class before nodes (ap (λ (w : Version). same_name apex w.apex) is ∙ h) tree)
