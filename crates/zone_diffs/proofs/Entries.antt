-- Entries of a difference, whose sets are of their key's type and have data.
use Rattle.std.proofs.Common.{◌≡◌, ◌==◌, Bool, true, false, not, if◌then◌else◌, [], ◌∷◌, map, length, refl, sym, ap, ◌∙◌, true≢false, None, is_some, eq-eqb}
use Rattle.std.specs.List.{list_all}
use Rattle.std.specs.Cmp.{first_so, second_so}
use Rattle.std.specs.Cmp.Derive.{both_true}
use Rattle.std.specs.BTreeMap.{insert_entry}
use Rattle.std.specs.Map.{lookup, remove_entry}
use Rattle.zone_model.specs.Version.{RecordSet, Key, Sets, key_cmp, has_key, set_in}
use Rattle.zone_model.proofs.Folded.{key_from_tie}
use Rattle.zone_values.specs.TypedSets.{TypedSet}
use Rattle.zone_values.specs.TypedEntries.{entry_of, has_own_type}
use Rattle.zone_values.proofs.KeptTypes.{TypedEntries, absent_seen, all_insert, all_remove}
use Rattle.zone_diffs.specs.Building.{put_at}
use Rattle.zone_diffs.specs.Kept.{is_kept, holds_data}

pub kept_own : (es : TypedEntries) → list_all is_kept es ≡ true → list_all has_own_type es ≡ true
kept_own [] h = refl
kept_own (e ∷ es) h =
    both_true (first_so (has_own_type e) (not (length e.1.contents.items == 0)) (first_so (is_kept e) (list_all is_kept es) h)) (kept_own es (second_so (is_kept e) (list_all is_kept es) h))

pub full_seen : (es : TypedEntries) → list_all is_kept es ≡ true → list_all holds_data (map entry_of es) ≡ true
full_seen [] h = refl
full_seen (e ∷ es) h =
    both_true (second_so (has_own_type e) (not (length e.1.contents.items == 0)) (first_so (is_kept e) (list_all is_kept es) h)) (full_seen es (second_so (is_kept e) (list_all is_kept es) h))

kept_is : (k : Key) (s : TypedSet) → s.rtype ≡ k.1 → (length s.contents.items == 0) ≡ false → is_kept (k, s) ≡ true
kept_is k s e n = both_true (eq-eqb s.rtype k.1 e) (ap not n)

pub insert_kept : (es : TypedEntries) (k : Key) (s : TypedSet) → s.rtype ≡ k.1 → (length s.contents.items == 0) ≡ false → list_all is_kept es ≡ true → list_all is_kept (insert_entry key_cmp es k s) ≡ true
insert_kept es k s type full h = all_insert is_kept es k s (kept_is k s type full) (λ e g q. kept_is e.0 s (type ∙ (key_from_tie k e.0 q).1) full) h

pub remove_kept : (test : Key → Bool) (es : TypedEntries) → list_all is_kept es ≡ true → list_all is_kept (remove_entry test es) ≡ true
remove_kept test es h = all_remove is_kept test es h

-- what isn't there can't be found
pub never_found : (es : TypedEntries) (k : Key) → lookup (has_key k) es ≡ None → is_some (set_in (map entry_of es) k) ≡ true → ⊥
never_found es k none some = true≢false (sym some ∙ ap is_some (absent_seen es k none))

-- a set put at a key
pub put_empty : (sets : Sets) (k : Key) (s : RecordSet) → (length s.items == 0) ≡ true → put_at sets k s ≡ remove_entry (has_key k) sets
put_empty sets k s e = ap (λ b. if b then remove_entry (has_key k) sets else insert_entry key_cmp sets k s) e

pub put_full : (sets : Sets) (k : Key) (s : RecordSet) → (length s.items == 0) ≡ false → put_at sets k s ≡ insert_entry key_cmp sets k s
put_full sets k s e = ap (λ b. if b then remove_entry (has_key k) sets else insert_entry key_cmp sets k s) e
