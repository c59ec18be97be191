-- The stops of a version as a walk of its tree shows them.
use Rattle.std.proofs.Common.{◌≡◌, ℕ, zero, suc, Bool, true, false, cond, if◌then◌else◌, List, [], ◌∷◌, map, refl, sym, ap, ◌∙◌, arith, Ordering, Less, Equal, Greater, is_gt, is_le, is_lt, Option, Some, None, is_some, option_map}
use Rattle.std.specs.List.{find, list_any}
use Rattle.std.specs.Map.{keys_of}
use Rattle.std.specs.Ordering.{ordering_reverse}
use Rattle.std.specs.Cmp.{nat_cmp_is}
use Rattle.dns_name.specs.Names.{Name, fold, same_name, spelling_cmp, canonical_cmp}
use Rattle.std.specs.Ordering.{ordering_then, nat_cmp}
use Rattle.zone_model.specs.Version.{RecordSet, Key, Sets, Version, key_cmp}
use Rattle.zone_model.specs.Answer.{highest_cut}
use Rattle.zone_model.specs.Walk.{Stop, shown_owner, walk}
use Rattle.zone_model.proofs.Folded.{fold-fold, key_total, same_name-Decides}
use Rattle.zone_values.specs.TypedSets.{TypedSet}
use Rattle.zone_values.proofs.Equality.{list_any_map}
use Rattle.zone_versions.specs.Held.{told}
use Rattle.zone_versions.specs.Stops.{stop_of, first_of, first_stop, entry_told, key_told}
use Rattle.zone_versions.proofs.Cuts.{below_alike}

turned : (r : Ordering) → is_gt (ordering_reverse r) ≡ is_lt r
turned Less = refl
turned Equal = refl
turned Greater = refl

-- an owner is shown up to its case
shown_alike : (v : Version) (n : Name) → fold (shown_owner v n) ≡ fold n
shown_alike v n = by (same_name n v.apex) refl
  where
    by : (b : Bool) → same_name n v.apex ≡ b → fold (if b then v.apex else n) ≡ fold n
    by true h = sym ((same_name-Decides n v.apex).0 h)
    by false h = refl

shown_folds : (v : Version) (n : Name) → fold (fold (shown_owner v n)) ≡ fold n
shown_folds v n = fold-fold (shown_owner v n) ∙ shown_alike v n

-- .. so a stop is below a cut where its owner, as it is shown, is
pub cut_shown : (v : Version) (e : Key × RecordSet) (owner : Name) → owner ≡ (stop_of v e).owner → is_some (highest_cut v owner) ≡ (stop_of v e).below_cut
cut_shown v e owner h = below_alike v owner e.0.0 (ap fold h ∙ shown_alike v e.0.0)

-- a stop is after a key where its entry is
behind : (v : Version) (k : Key) (e : Key × RecordSet) → is_gt (key_cmp (fold (stop_of v e).owner, (stop_of v e).rtype) k) ≡ is_lt (key_cmp k e.0)
behind v k e =
    ap (λ n. is_gt (ordering_then (spelling_cmp n (fold k.0)) (nat_cmp e.0.1 k.1))) (shown_folds v e.0.0) ∙ ap is_gt (key_total.antisymm e.0 k) ∙ turned (key_cmp k e.0)

-- .. and so is the first one
pub first_behind : (v : Version) (k : Key) (es : Sets) → find (λ (s : Stop). is_gt (key_cmp (fold s.owner, s.rtype) k)) (map (stop_of v) es) ≡ option_map (stop_of v) (find (λ (e : Key × RecordSet). is_lt (key_cmp k e.0)) es)
first_behind v k [] = refl
first_behind v k (e ∷ es) =
    ap (λ b. cond b (Some (stop_of v e)) (find (λ (s : Stop). is_gt (key_cmp (fold s.owner, s.rtype) k)) (map (stop_of v) es))) (behind v k e)
    ∙ by (is_lt (key_cmp k e.0)) (first_behind v k es)
  where
    by : (b : Bool) → find (λ (s : Stop). is_gt (key_cmp (fold s.owner, s.rtype) k)) (map (stop_of v) es) ≡ option_map (stop_of v) (find (λ (f : Key × RecordSet). is_lt (key_cmp k f.0)) es)
        → cond b (Some (stop_of v e)) (find (λ (s : Stop). is_gt (key_cmp (fold s.owner, s.rtype) k)) (map (stop_of v) es)) ≡ option_map (stop_of v) (cond b (Some e) (find (λ (f : Key × RecordSet). is_lt (key_cmp k f.0)) es))
    by true h = refl
    by false h = h

-- ---- a walk of the tree shows the entries

pub entries_told : (es : Sets) → map entry_told (map told es) ≡ es
entries_told [] = refl
entries_told (e ∷ es) = ap (λ l. e ∷ l) (entries_told es)

pub keys_told : (es : Sets) → map key_told (map told es) ≡ keys_of es
keys_told [] = refl
keys_told (e ∷ es) = ap (λ l. e.0 ∷ l) (keys_told es)

-- whether a key of a walk of the tree passes a test
pub any_told : (test : Key → Bool) (xs : List (Name × TypedSet)) (es : Sets) → xs ≡ map told es → list_any (λ (s : Name × TypedSet). test (key_told s)) xs ≡ list_any test (keys_of es)
any_told test xs es e = sym (list_any_map test key_told xs) ∙ ap (λ (ys : List (Name × TypedSet)). list_any test (map key_told ys)) e ∙ ap (list_any test) (keys_told es)

-- what a look finds, as an entry
pub found_told : (r : Option (Name × TypedSet)) (o : Option (Key × RecordSet)) → r ≡ option_map told o → option_map entry_told r ≡ o
found_told r o e = ap (option_map entry_told) e ∙ by o
  where
    by : (p : Option (Key × RecordSet)) → option_map entry_told (option_map told p) ≡ p
    by None = refl
    by (Some f) = refl

-- the stops of a walk of the tree are those of the version
pub stops_told : (v : Version) (xs : List (Name × TypedSet)) → xs ≡ map told v.sets → map (stop_of v) (map entry_told xs) ≡ walk v
stops_told v xs e = ap (λ (ys : List (Name × TypedSet)). map (stop_of v) (map entry_told ys)) e ∙ ap (map (stop_of v)) (entries_told v.sets)

-- the first set is the first stop
pub first_shown : (v : Version) (xs ys : List (Name × TypedSet)) → xs ≡ map told v.sets → xs ≡ ys → first_of (map (stop_of v) (map entry_told ys)) ≡ first_stop v
first_shown v xs ys e f = ap (λ (zs : List (Name × TypedSet)). first_of (map (stop_of v) (map entry_told zs))) (sym f) ∙ ap first_of (stops_told v xs e)

-- the first set after a key is the first stop after it
pub behind_shown : (v : Version) (k : Key) (r : Option (Name × TypedSet)) → r ≡ option_map told (find (λ (e : Key × RecordSet). is_lt (key_cmp k e.0)) v.sets)
    → option_map (stop_of v) (option_map entry_told r) ≡ find (λ (s : Stop). is_gt (key_cmp (fold s.owner, s.rtype) k)) (walk v)
behind_shown v k r e = ap (option_map (stop_of v)) (found_told r _ e) ∙ sym (first_behind v k v.sets)

-- ---- from a name on

-- an owner isn't before a name, whatever its type
from_owner : (n : Name) (k : Key) → is_le (canonical_cmp n k.0) ≡ is_le (key_cmp (fold n, 0) k)
from_owner n k =
    by (canonical_cmp n k.0) ∙ ap (λ (m : Name). is_le (ordering_then (spelling_cmp m (fold k.0)) (nat_cmp 0 k.1))) (sym (fold-fold n))
  where
    least : (t : ℕ) → true ≡ is_le (nat_cmp 0 t)
    least zero = refl
    least (suc t) = ap is_le (nat_cmp_is 0 (suc t) Less (omega arith))

    by : (o : Ordering) → is_le o ≡ is_le (ordering_then o (nat_cmp 0 k.1))
    by Less = refl
    by Equal = least k.1
    by Greater = refl

pub first_owner : (n : Name) (es : Sets) → find (λ (e : Key × RecordSet). is_le (canonical_cmp n e.0.0)) es ≡ find (λ (e : Key × RecordSet). is_le (key_cmp (fold n, 0) e.0)) es
first_owner n [] = refl
first_owner n (e ∷ es) = λ i. cond (from_owner n e.0 i) (Some e) (first_owner n es i)
