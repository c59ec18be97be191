-- Steps of a walk upwards, and the count of nodes.
use Rattle.std.proofs.Common.{◌≡◌, ℕ, ◌+◌, ◌-◌, ◌^◌, ◌≤◌, true, false, if◌then◌else◌, List, [], ◌∷◌, refl, sym, ap, ◌∙◌, is_some, arith, Result, Ok, Err, OnOk}
use Rattle.dns_name.specs.Names.{Name}
use Rattle.zone_versions.specs.Held.{counted}
use Rattle.zone_versions.specs.Trees.{NodeSets, Nodes, node_at}
use Rattle.zone_versions.specs.Ways.{put_node, add_upwards, lacking_upwards, add_above, lacking_above}
use Rattle.zone_versions.proofs.Grown.{put_some}

-- ---- the count

pub counted_more : (s k : ℕ) → counted (counted s 1) k ≡ counted s (1 + k)
counted_more s k = omega arith

pub counted_after : (s t u k : ℕ) → t ≡ counted s 1 → u ≡ counted t k → u ≡ counted s (1 + k)
counted_after s t u k h g = g ∙ ap (λ x. counted x k) h ∙ counted_more s k

pub counted_none : (s : ℕ) → s ≤ 2 ^ 64 - 1 → counted s 0 ≡ s
counted_none s h = omega arith

pub counted_le : (s j k : ℕ) → j ≤ k → counted s j ≤ counted s k
counted_le s j k h = omega arith

pub not_more : (s k : ℕ) → s ≤ 2 ^ 64 - 1 → s ≤ counted s k
not_more s k h = omega arith

pub counted_low : (s k : ℕ) → counted s k ≤ 2 ^ 64 - 1
counted_low s k = omega arith

-- ---- upwards

pub found_add : (nodes : Nodes) (n : Name) → is_some (node_at nodes n) ≡ true → add_upwards nodes n ≡ nodes
found_add nodes [] h = ap (λ b. if b then nodes else put_node nodes [] []) h
found_add nodes (l ∷ n) h = ap (λ b. if b then nodes else add_upwards (put_node nodes (l ∷ n) []) n) h

pub found_lacking : (nodes : Nodes) (n : Name) → is_some (node_at nodes n) ≡ true → lacking_upwards nodes n ≡ 0
found_lacking nodes [] h = ap (λ b. if b then 0 else 1) h
found_lacking nodes (l ∷ n) h = ap (λ b. if b then 0 else 1 + lacking_upwards (put_node nodes (l ∷ n) []) n) h

pub next_add : (nodes : Nodes) (n p : Name) (l : List ℕ) → n ≡ l ∷ p → is_some (node_at nodes n) ≡ false → add_upwards nodes n ≡ add_upwards (put_node nodes n []) p
next_add nodes n p l e h = ap (add_upwards nodes) e ∙ ap (λ b. if b then nodes else add_upwards (put_node nodes (l ∷ p) []) p) (ap (λ m. is_some (node_at nodes m)) (sym e) ∙ h) ∙ ap (λ m. add_upwards (put_node nodes m []) p) (sym e)

pub next_lacking : (nodes : Nodes) (n p : Name) (l : List ℕ) → n ≡ l ∷ p → is_some (node_at nodes n) ≡ false → lacking_upwards nodes n ≡ 1 + lacking_upwards (put_node nodes n []) p
next_lacking nodes n p l e h =
    ap (lacking_upwards nodes) e ∙ ap (λ b. if b then 0 else 1 + lacking_upwards (put_node nodes (l ∷ p) []) p) (ap (λ m. is_some (node_at nodes m)) (sym e) ∙ h) ∙ ap (λ m. 1 + lacking_upwards (put_node nodes m []) p) (sym e)

pub root_add : (nodes : Nodes) (n : Name) → n ≡ [] → is_some (node_at nodes n) ≡ false → add_upwards nodes n ≡ put_node nodes n []
root_add nodes n e h = ap (add_upwards nodes) e ∙ ap (λ b. if b then nodes else put_node nodes [] []) (ap (λ m. is_some (node_at nodes m)) (sym e) ∙ h) ∙ ap (λ m. put_node nodes m []) (sym e)

pub root_lacking : (nodes : Nodes) (n : Name) → n ≡ [] → is_some (node_at nodes n) ≡ false → lacking_upwards nodes n ≡ 1
root_lacking nodes n e h = ap (lacking_upwards nodes) e ∙ ap (λ b. if b then 0 else 1) (ap (λ m. is_some (node_at nodes m)) (sym e) ∙ h)

-- some are lacking where the first is
pub some_lacking : (nodes : Nodes) (n : Name) → is_some (node_at nodes n) ≡ false → 1 ≤ lacking_upwards nodes n
some_lacking nodes [] h = let e = root_lacking nodes [] refl h in omega (arith, e)
some_lacking nodes (l ∷ n) h = let e = next_lacking nodes (l ∷ n) n l refl h in omega (arith, e)

-- ---- where the name above has a node

pub parent_add : (nodes : Nodes) (n p : Name) (l : List ℕ) (held : NodeSets) → n ≡ l ∷ p → is_some (node_at nodes p) ≡ true → add_above (put_node nodes n held) n ≡ put_node nodes n held
parent_add nodes n p l held e h = ap (add_above (put_node nodes n held)) e ∙ found_add (put_node nodes n held) p (put_some nodes n held p h)

pub parent_lacking : (nodes : Nodes) (n p : Name) (l : List ℕ) (held : NodeSets) → n ≡ l ∷ p → is_some (node_at nodes p) ≡ true → lacking_above (put_node nodes n held) n ≡ 0
parent_lacking nodes n p l held e h = ap (lacking_above (put_node nodes n held)) e ∙ found_lacking (put_node nodes n held) p (put_some nodes n held p h)

pub ok_so : {T E : Type 0} {P : Type 0} (r : Result T E) → P → OnOk r P
ok_so (Ok x) h = h
ok_so (Err e) h = tt
