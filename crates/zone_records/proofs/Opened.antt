-- Sets in trees of one apex and another.
use Rattle.std.proofs.Common.{◌≡◌, ℕ, Bool, true, false, true≢false, cond, Option, Some, None, is_some, is_eq, ◌&&◌, List, [], ◌∷◌, ◌++◌, length, length-append, map, nat_le, refl, sym, ap, subst, ◌∙◌, arith, append-nil, bytes_eq}
use Rattle.std.specs.List.{list_all}
use Rattle.std.specs.List.Sorted.{IsStrictlySortedBy}
use Rattle.std.specs.Map.{keys_of}
use Rattle.std.specs.Cmp.{first_so, second_so, tied_itself}
use Rattle.std.specs.Cmp.Derive.{both_true}
use Rattle.std.specs.Cmp.Lexicographic.{bytes_decides, pointwise_decides}
use mathlib.Core.List.{append_assoc}
use Rattle.dns_name.specs.Names.{Name, name_wire, is_name, fold, labels_eq, labels_in, under}
use Rattle.dns_name.proofs.WireForms.{first_wire, labels_of_wire}
use Rattle.dns_name.proofs.FoldedLabels.{names_under}
use Rattle.zone_model.specs.Version.{Key, Sets, Version, key_cmp, has_key, set_in, all_differ, exists}
use Rattle.zone_model.proofs.Folded.{key_total}
use Rattle.zone_values.specs.TypedSets.{TypedSet}
use Rattle.zone_values.specs.SetEdits.{put_all}
use Rattle.zone_versions.specs.Held.{told}
use Rattle.zone_versions.specs.Trees.{NodeSets, Nodes, IsTree, node_at, type_in}
use Rattle.zone_versions.proofs.Told.{set_told}
use Rattle.zone_versions.specs.Stops.{key_told}
use Rattle.zone_versions.proofs.Moving.{put_last}
use Rattle.zone_records.specs.Parsed.{is_tidy_at}
use Rattle.zone_records.specs.OpeningSets.{is_put_at}

-- ---- names

-- a name whose wire form is one octet is the root
pub root_of_length : (n : Name) → length (name_wire n) ≡ 1 → n ≡ []
root_of_length [] h = refl
root_of_length (l ∷ n) h = absurd (nothing n (omega (arith, h, ap length (first_wire l n), length-append l (name_wire n))))
  where
    nothing : (m : Name) → length (name_wire m) ≡ 0 → ⊥
    nothing [] e = absurd (omega (arith, e))
    nothing (k ∷ m) e = absurd (omega (arith, e, ap length (first_wire k m)))

-- every name is at or below the root
pub under_root : (n : Name) → under n [] ≡ true
under_root n = (names_under n []).1 (fold n, sym (append-nil (fold n)))

-- names are the same where their wire forms are
pub spelled_so : (a b : Name) (w u : List ℕ) → w ≡ name_wire a → u ≡ name_wire b → is_name a ≡ true → is_name b ≡ true → bytes_eq w u ≡ true → a ≡ b
spelled_so a b w u e f m n h = sym (labels_of_wire w a e m) ∙ ap labels_in ((bytes_decides w u).0 h) ∙ labels_of_wire u b f n

-- ---- sets that may be put

-- tidy sets whose owners are in a zone may be put in it
pub tidy_put : (apex : Name) (sets : Sets) → list_all is_tidy_at sets ≡ true → list_all (λ (k : Key). under k.0 apex) (keys_of sets) ≡ true → list_all (is_put_at apex) (map told sets) ≡ true
tidy_put apex [] t h = refl
tidy_put apex (e ∷ sets) t h =
    let here = first_so (is_tidy_at e) (list_all is_tidy_at sets) t in
    both_true (both_true (first_so (under e.0.0 apex) (list_all (λ (k : Key). under k.0 apex) (keys_of sets)) h)
    (second_so (labels_eq e.0.0 (fold e.0.0)) (nat_le 1 (length e.1.items)) (first_so (labels_eq e.0.0 (fold e.0.0) && nat_le 1 (length e.1.items)) (all_differ e.1.items) here)))
    (tidy_put apex sets (second_so (is_tidy_at e) (list_all is_tidy_at sets) t) (second_so (under e.0.0 apex) (list_all (λ (k : Key). under k.0 apex) (keys_of sets)) h))

-- .. in the root's all
all_under_root : (ks : List Key) → list_all (λ (k : Key). under k.0 []) ks ≡ true
all_under_root [] = refl
all_under_root (k ∷ ks) = both_true (under_root k.0) (all_under_root ks)

pub tidy_put_root : (apex : Name) (sets : Sets) → apex ≡ [] → list_all is_tidy_at sets ≡ true → list_all (is_put_at apex) (map told sets) ≡ true
tidy_put_root apex sets e t = tidy_put apex sets t (subst (λ (n : Name). list_all (λ (k : Key). under k.0 n) (keys_of sets) ≡ true) (sym e) (all_under_root (keys_of sets)))

-- ---- sets put in order

put_behind : (es rest : Sets) → IsStrictlySortedBy key_cmp (keys_of (es ++ rest)) → put_all es rest ≡ es ++ rest
put_behind es [] s = sym (append-nil es)
put_behind es (e ∷ rest) s =
    let again : (es ++ e ∷ []) ++ rest ≡ es ++ e ∷ rest = append_assoc es (e ∷ []) rest in
    ap (λ (l : Sets). put_all l rest) (put_last es e rest s)
    ∙ put_behind (es ++ e ∷ []) rest (subst (λ (l : Sets). IsStrictlySortedBy key_cmp (keys_of l)) (sym again) s) ∙ again

-- .. to none are these
pub put_in_order : (sets : Sets) → IsStrictlySortedBy key_cmp (keys_of sets) → put_all [] sets ≡ sets
put_in_order sets s = put_behind [] sets s

-- ---- keys of a walk

pub all_told : (test : Key → Bool) (xs : List (Name × TypedSet)) (es : Sets) → xs ≡ map told es → list_all (λ (s : Name × TypedSet). test (key_told s)) xs ≡ list_all test (keys_of es)
all_told test xs es e = ap (list_all (λ (s : Name × TypedSet). test (key_told s))) e ∙ by es
  where
    by : (fs : Sets) → list_all (λ (s : Name × TypedSet). test (key_told s)) (map told fs) ≡ list_all test (keys_of fs)
    by [] = refl
    by (f ∷ fs) = ap (λ b. test f.0 && b) (by fs)

-- ---- the owners of a tree

module _ (v : Version) (nodes : Nodes) (t : IsTree v nodes) where
  -- a set's owner has a node, and that is in the zone
  inside : (k : Key) → fold k.0 ≡ k.0 → is_some (set_in v.sets k) ≡ true → under k.0 v.apex ≡ true
  inside k f s =
      let held : type_in (node_at nodes k.0) k.1 ≡ set_in v.sets k = set_told v nodes k.0 k.1 t ∙ ap (λ (n : Name). set_in v.sets (n, k.1)) f in
      first_so (under k.0 v.apex) (exists v k.0) (sym (t.names k.0) ∙ some (node_at nodes k.0) (ap is_some held ∙ s))
    where
      some : (o : Option NodeSets) → is_some (type_in o k.1) ≡ true → is_some o ≡ true
      some None h = absurd (true≢false (sym h))
      some (Some held) h = refl

  each : (es : Sets) → ((k : Key) → is_some (set_in es k) ≡ true → is_some (set_in v.sets k) ≡ true) → list_all is_tidy_at es ≡ true → list_all (λ (k : Key). under k.0 v.apex) (keys_of es) ≡ true
  each [] w h = refl
  each (e ∷ es) w h =
      let tidy = first_so (is_tidy_at e) (list_all is_tidy_at es) h in
      let lower = first_so (labels_eq e.0.0 (fold e.0.0)) (nat_le 1 (length e.1.items)) (first_so (labels_eq e.0.0 (fold e.0.0) && nat_le 1 (length e.1.items)) (all_differ e.1.items) tidy) in
      let here : is_some (set_in (e ∷ es) e.0) ≡ true = ap (λ b. is_some (cond b (Some e.1) (set_in es e.0))) (ap is_eq (tied_itself key_total e.0)) in
      both_true (inside e.0 (sym ((pointwise_decides bytes_decides e.0.0 (fold e.0.0)).0 lower)) (w e.0 here)) (each es (λ k g. w k (later k (has_key k e.0) g)) (second_so (is_tidy_at e) (list_all is_tidy_at es) h))
    where
      later : (k : Key) (b : Bool) → is_some (set_in es k) ≡ true → is_some (cond b (Some e.1) (set_in es k)) ≡ true
      later k true g = refl
      later k false g = g

  pub all_inside : list_all is_tidy_at v.sets ≡ true → list_all (λ (k : Key). under k.0 v.apex) (keys_of v.sets) ≡ true
  all_inside h = each v.sets (λ k g. g) h
