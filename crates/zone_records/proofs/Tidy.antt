-- Sets stay tidy as records are put to them, and a record is put as a zone opens.
use Rattle.std.proofs.Common.{◌≡◌, ℕ, zero, suc, ◌==◌, Bool, true, false, cond, ◌&&◌, if◌then◌else◌, List, [], ◌∷◌, ◌++◌, length, min, nat_le, refl, sym, ap, subst, ◌∙◌, true≢false, Option, Some, None, le-leb, arith}
use Rattle.std.specs.Option.{option_map_or}
use Rattle.std.specs.List.{list_any, list_all}
use Rattle.std.specs.Cmp.{first_so, second_so}
use Rattle.std.specs.Cmp.Derive.{both_true}
use Rattle.std.specs.Cmp.Lexicographic.{pointwise_decides, bytes_decides}
use Rattle.std.specs.BTreeMap.{insert_entry}
use Rattle.dns_name.specs.Names.{fold, labels_eq}
use Rattle.dns_name.specs.Records.{Field, Record, same_data}
use Rattle.zone_model.specs.Version.{RecordSet, Key, Sets, key_cmp, has_key, set_in, all_differ}
use Rattle.zone_model.specs.Edits.{distinct}
use Rattle.zone_model.proofs.Folded.{key_total, fold-fold}
use Rattle.zone_model.proofs.Ordered.{sorted_none, sorted-insert_entry}
use Rattle.zone_values.specs.SetEdits.{items_at, put_with, opening_set}
use Rattle.zone_values.proofs.FirstData.{distinct_last, distinct_same, distinct_differ}
use Rattle.zone_values.proofs.KeptTypes.{all_insert}
use Rattle.zone_records.specs.Parsed.{is_tidy_at, IsTidy}
use Rattle.zone_records.specs.Taking.{put_to}
use Rattle.zone_records.proofs.Putting.{key_of, set_with, put_record, put_is, holds_some}

pub none_tidy : IsTidy []
none_tidy = record { ordered = sorted_none key_cmp; each = refl }

some : (n : ℕ) → (n == 0) ≡ false → nat_le 1 n ≡ true
some zero h = absurd (true≢false h)
some (suc n) h = le-leb 1 (suc n) (omega arith)

-- the set that a record makes is tidy
set_tidy : (r : Record) (o : Option RecordSet) → (nat_le 1 (length (set_with r o).items) ≡ true) × (all_differ (set_with r o).items ≡ true)
set_tidy r o =
    let before : List (List Field) = option_map_or (λ (s : RecordSet). s.items) o [] in
    (some (length (distinct (before ++ r.fields ∷ []))) (holds_some before r.fields), distinct_differ (before ++ r.fields ∷ []))

tidy_at : (k : Key) (s : RecordSet) → labels_eq k.0 (fold k.0) ≡ true → (nat_le 1 (length s.items) ≡ true) × (all_differ s.items ≡ true) → is_tidy_at (k, s) ≡ true
tidy_at k s n h = both_true (both_true n h.0) h.1

pub record_tidy : (sets : Sets) (r : Record) → IsTidy sets → IsTidy (put_record sets r)
record_tidy sets r h =
    let s = set_with r (set_in sets (key_of r)) in
    let t = set_tidy r (set_in sets (key_of r)) in
    let lower : labels_eq (fold r.owner) (fold (fold r.owner)) ≡ true = (pointwise_decides bytes_decides (fold r.owner) (fold (fold r.owner))).1 (sym (fold-fold r.owner)) in
    record {
      ordered = sorted-insert_entry key_total sets (key_of r) s h.ordered;
      each = all_insert is_tidy_at sets (key_of r) s (tidy_at (key_of r) s lower t)
          (λ e p q. tidy_at e.0 s (first_so (labels_eq e.0.0 (fold e.0.0)) (nat_le 1 (length e.1.items)) (first_so (labels_eq e.0.0 (fold e.0.0) && nat_le 1 (length e.1.items)) (all_differ e.1.items) p)) t) h.each;
    }

pub put_tidy : (sets : Sets) (r : Record) → IsTidy sets → IsTidy (put_to sets r)
put_tidy sets r h = subst (λ (l : Sets). IsTidy l) (sym (put_is sets r)) (record_tidy sets r h)

-- ---- a record is put where its set stands

differ_at : (sets : Sets) (k : Key) → list_all is_tidy_at sets ≡ true → all_differ (items_at sets k) ≡ true
differ_at [] k h = refl
differ_at (e ∷ es) k h = by (has_key k e.0) (differ_at es k (second_so (is_tidy_at e) (list_all is_tidy_at es) h))
  where
    by : (b : Bool) → all_differ (items_at es k) ≡ true → all_differ (option_map_or (λ (s : RecordSet). s.items) (cond b (Some e.1) (set_in es k)) []) ≡ true
    by true later = second_so (labels_eq e.0.0 (fold e.0.0) && nat_le 1 (length e.1.items)) (all_differ e.1.items) (first_so (is_tidy_at e) (list_all is_tidy_at es) h)
    by false later = later

opens_with : (r : Record) (o : Option RecordSet) → all_differ (option_map_or (λ (s : RecordSet). s.items) o []) ≡ true
    → opening_set r.ttl r.fields o ≡ set_with r o
opens_with r None h = refl
opens_with r (Some s) h =
    let same : distinct (s.items ++ r.fields ∷ []) ≡ (if list_any (same_data r.fields) s.items then s.items else s.items ++ r.fields ∷ [])
    = distinct_last s.items r.fields ∙ ap (λ (l : List (List Field)). if list_any (same_data r.fields) l then l else l ++ r.fields ∷ []) (distinct_same s.items h) in
    ap (λ (l : List (List Field)). record { ttl = min s.ttl r.ttl; items = l }) (sym same)

pub put_opening_is : (sets : Sets) (r : Record) → IsTidy sets → put_with (opening_set r.ttl r.fields) (key_of r) sets ≡ put_to sets r
put_opening_is sets r h = ap (insert_entry key_cmp sets (key_of r)) (opens_with r (set_in sets (key_of r)) (differ_at sets (key_of r) h.each)) ∙ sym (put_is sets r)
