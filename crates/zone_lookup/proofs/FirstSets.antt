-- The first set of an owner is the first entry from it on, where that is the owner's.
use Rattle.std.proofs.Common.{◌≡◌, Bool, true, false, cond, [], ◌∷◌, refl, sym, ap, ◌∙◌, true≢false, is_le, bytes_eq, Option, Some, None}
use Rattle.std.specs.Prelude.{if◌then◌else◌, filter}
use Rattle.std.specs.List.{AllByRecursion, find}
use Rattle.std.specs.List.Sorted.{IsStrictlySortedBy}
use Rattle.std.specs.Map.{keys_of}
use Rattle.std.specs.Cmp.Lexicographic.{pointwise}
use Rattle.std.proofs.lemmas.Map.Keys.{sorted_head, sorted_tail}
use Rattle.dns_name.specs.Names.{Name, fold, same_name}
use Rattle.zone_model.specs.Version.{RecordSet, Key, Sets, Version, IsValid, key_cmp}
use Rattle.zone_model.proofs.Valid.{valid_good}
use Rattle.zone_versions.specs.Stops.{first_from}
use Rattle.zone_model.specs.Answer.{Answer, first_set, sets_of}
use Rattle.zone_model.specs.Answer.Answer.{Found, NoData}
use Rattle.zone_model.proofs.Folded.{IsFolded}
use Rattle.zone_reads.proofs.Existence.{turned_labels, from_name, not_so}
use Rattle.zone_reads.proofs.NameSets.{is_owner, same_turned, le_itself, none_own}

-- what the first entry from a name on says of the name's own sets
abbrev pub own_first : Name → Option (Key × RecordSet) → Answer
own_first n None = NoData
own_first n (Some e) = if same_name e.0.0 n then Found e.0.1 e.1 else NoData

pub first_own : (n : Name) (es : Sets) → IsStrictlySortedBy key_cmp (keys_of es) → AllByRecursion IsFolded (keys_of es)
    → first_set (filter (λ (e : Key × RecordSet). pointwise bytes_eq e.0.0 (fold n)) es) ≡ own_first n (find (λ (e : Key × RecordSet). is_le (key_cmp (fold n, 0) e.0)) es)
first_own n [] s fs = refl
first_own n (e ∷ es) s fs = by (is_le (key_cmp (fold n, 0) e.0)) refl (first_own n es (sorted_tail key_cmp e.0 (keys_of es) s) fs.1)
  where
    here : (b : Bool) → same_name e.0.0 n ≡ b → is_le (key_cmp (fold n, 0) e.0) ≡ true
        → first_set (cond b (e ∷ filter (λ (f : Key × RecordSet). pointwise bytes_eq f.0.0 (fold n)) es) (filter (λ (f : Key × RecordSet). pointwise bytes_eq f.0.0 (fold n)) es)) ≡ cond b (Found e.0.1 e.1) NoData
    here true u h = refl
    here false u h = ap first_set (none_own n e.0 es (sym (from_name n e.0) ∙ h) u (sorted_head key_cmp e.0 (keys_of es) s) fs.1)

    before : is_le (key_cmp (fold n, 0) e.0) ≡ false → pointwise bytes_eq e.0.0 (fold n) ≡ false
    before h = is_owner n e.0 fs.0 ∙ not_so (same_name e.0.0 n) (λ t.
        true≢false (sym (le_itself (turned_labels n) (turned_labels e.0.0) (sym (same_turned e.0.0 n t))) ∙ sym (from_name n e.0) ∙ h))

    by : (b : Bool) → is_le (key_cmp (fold n, 0) e.0) ≡ b
        → first_set (filter (λ (f : Key × RecordSet). pointwise bytes_eq f.0.0 (fold n)) es) ≡ own_first n (find (λ (f : Key × RecordSet). is_le (key_cmp (fold n, 0) f.0)) es)
        → first_set (cond (pointwise bytes_eq e.0.0 (fold n)) (e ∷ filter (λ (f : Key × RecordSet). pointwise bytes_eq f.0.0 (fold n)) es) (filter (λ (f : Key × RecordSet). pointwise bytes_eq f.0.0 (fold n)) es))
        ≡ own_first n (cond b (Some e) (find (λ (f : Key × RecordSet). is_le (key_cmp (fold n, 0) f.0)) es))
    by true h ih =
        ap (λ b. first_set (cond b (e ∷ filter (λ (f : Key × RecordSet). pointwise bytes_eq f.0.0 (fold n)) es) (filter (λ (f : Key × RecordSet). pointwise bytes_eq f.0.0 (fold n)) es))) (is_owner n e.0 fs.0)
        ∙ here (same_name e.0.0 n) refl h
    by false h ih =
        ap (λ b. first_set (cond b (e ∷ filter (λ (f : Key × RecordSet). pointwise bytes_eq f.0.0 (fold n)) es) (filter (λ (f : Key × RecordSet). pointwise bytes_eq f.0.0 (fold n)) es))) (before h) ∙ ih

pub first_is : (v : Version) (n : Name) (found : Option (Key × RecordSet)) → IsValid v → found ≡ first_from v n → first_set (sets_of v n) ≡ own_first n found
first_is v n found h e = first_own n v.sets (valid_good v h).sorted (valid_good v h).folded ∙ ap (own_first n) (sym e)

pub own_then : (n : Name) (k : Key) (s : RecordSet) → true ≡ same_name k.0 n → own_first n (Some (k, s)) ≡ Found k.1 s
own_then n k s h = ap (λ b. cond b (Found k.1 s) NoData) (sym h)

pub own_else : (n : Name) (k : Key) (s : RecordSet) → false ≡ same_name k.0 n → own_first n (Some (k, s)) ≡ NoData
own_else n k s h = ap (λ b. cond b (Found k.1 s) NoData) (sym h)
