-- Versions that are the same: as look-ups, and back.
use Rattle.std.proofs.Common.{◌≡◌, ℕ, Bool, true, false, ◌||◌, ◌==◌, List, [], ◌∷◌, refl, sym, ap, ◌∙◌, subst, Equal, Option, Some, None, bytes_eq, nat_cmp, eq-eqb}
use Rattle.std.specs.List.{list_all, list_any, AllByRecursion}
use Rattle.std.specs.Ordering.{ordering_then}
use Rattle.std.specs.Cmp.{tied_itself}
use Rattle.std.specs.Cmp.Derive.{both_true}
use Rattle.std.specs.Cmp.Lexicographic.{pointwise, pointwise_decides, bytes_decides}
use Rattle.std.specs.Map.{keys_of}
use Rattle.dns_name.specs.Names.{Name, fold, spelling_cmp}
use Rattle.dns_name.specs.Records.{Field, same_data}
use Rattle.zone_model.specs.Version.{RecordSet, Key, Sets, Version, key_cmp, set_in, same_items, same_entry, Same}
use Rattle.dns_name.specs.SameData.{same_data_equiv}
use Rattle.zone_model.proofs.Folded.{IsFolded, key_total, same_key}
use Rattle.zone_model.proofs.Ordered.{Alike, AllAlike, all_alike}
use Rattle.zone_model.proofs.Steps.{Good}

pub tie_from : (k l : Key) → fold k.0 ≡ fold l.0 → k.1 ≡ l.1 → key_cmp k l ≡ Equal
tie_from k l e f = (λ i. ordering_then (spelling_cmp (fold k.0) (sym e i)) (nat_cmp k.1 (sym f i))) ∙ tied_itself key_total k

-- equal look-ups, equal entries
abbrev pub Equals : RecordSet → RecordSet → Type 0
Equals x y = x ≡ y

alike_itself : (o : Option RecordSet) → Alike key_total Equals o o
alike_itself None = tt
alike_itself (Some s) = refl

entries_equal : (es fs : Sets) → AllByRecursion IsFolded (keys_of es) → AllByRecursion IsFolded (keys_of fs) → AllAlike key_total Equals es fs → es ≡ fs
entries_equal [] [] f g a = refl
entries_equal [] (y ∷ fs) f g a = absurd a
entries_equal (x ∷ es) [] f g a = absurd a
entries_equal (x ∷ es) (y ∷ fs) f g a = let r = entries_equal es fs f.1 g.1 a.2 in λ i. (same_key x.0 y.0 f.0 g.0 a.0 i, a.1 i) ∷ r i

pub equal_from_found : (es fs : Sets) → Good es → Good fs → ((q : Key) → set_in es q ≡ set_in fs q) → es ≡ fs
equal_from_found es fs g h e =
    entries_equal es fs g.folded h.folded (all_alike key_total Equals es fs g.sorted h.sorted (λ q. subst (λ z. Alike key_total Equals (set_in es q) z) (e q) (alike_itself (set_in es q))))

-- a version is the same as itself
any_itself : (x : List Field) (ys : List (List Field)) → list_any (same_data x) (x ∷ ys) ≡ true
any_itself x ys = ap (λ b. b || list_any (same_data x) ys) (same_data_equiv.refl x)

pub all_within : (xs ys : List (List Field)) → ((x : List Field) → list_any (same_data x) xs ≡ true → list_any (same_data x) ys ≡ true) → list_all (λ x. list_any (same_data x) ys) xs ≡ true
all_within [] ys h = refl
all_within (x ∷ xs) ys h = both_true (h x (any_itself x xs)) (all_within xs ys (λ y e. h y (later (same_data y x) _ e)))
  where
    later : (a b : Bool) → b ≡ true → (a || b) ≡ true
    later true b e = refl
    later false b e = e

pub same_items-itself : (xs : List (List Field)) → same_items xs xs ≡ true
same_items-itself xs = let a = all_within xs xs (λ x e. e) in both_true a a

entry_itself : (e : Key × RecordSet) → same_entry e e ≡ true
entry_itself e = both_true (both_true (both_true ((bytes_names e.0.0)) (number e.0.1)) (number e.1.ttl)) (same_items-itself e.1.items)
  where
    bytes_names : (n : Name) → pointwise bytes_eq n n ≡ true
    bytes_names n = (pointwise_decides bytes_decides n n).1 refl

    number : (n : ℕ) → (n == n) ≡ true
    number n = eq-eqb n n refl

entries_themselves : (es : Sets) → pointwise same_entry es es ≡ true
entries_themselves [] = refl
entries_themselves (e ∷ es) = both_true (entry_itself e) (entries_themselves es)

pub same_itself : (v w : Version) → v.sets ≡ w.sets → Same v w
same_itself v w e = subst (λ l. pointwise same_entry v.sets l ≡ true) e (entries_themselves v.sets)
