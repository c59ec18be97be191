-- The zone's text: few records, each of few octets.
use Rattle.std.proofs.Common.{◌≡◌, ℕ, ◌+◌, ◌^◌, ◌<◌, ◌≤◌, ◌==◌, Bool, true, false, if◌then◌else◌, List, [], ◌∷◌, ◌++◌, length, length-append, map, flat_map, refl, sym, ap, subst, lit<, lit≤, arith}
use Rattle.std.specs.List.{AllByRecursion}
use Rattle.std.proofs.lemmas.List.{length-map}
use Rattle.std.proofs.lemmas.List.Sums.{sum_by-cons}
use Rattle.dns_name.specs.Octets.{u16_octets, u32_octets}
use Rattle.dns_name.specs.Names.{Name, name_wire, is_name, same_name}
use Rattle.dns_numbers.specs.Codes.{type_soa}
use Rattle.dns_name.specs.Records.{Field, Record, data_wire, record_wire}
use Rattle.zone_model.specs.Version.{RecordSet, Key, Sets}
use Rattle.zone_model.specs.Walk.{shown_owner}
use Rattle.zone_model.specs.Offer.{whole_text}
use Rattle.zone_model.proofs.Phases.{recs}
use Rattle.zone_model.proofs.Steps.{set_of}
use Rattle.zone_model.proofs.Valid.{OneSoa, one_soa}
use Rattle.zone_model.proofs.WholeText.{but_soa, middle_of, soa_of, whole_is}
use Rattle.zone_generated.specs.Generated.{zone_name, generated}
use Rattle.zone_generated.specs.ShortTexts.{IsShort}
use Rattle.zone_generated.proofs.Content.{IsItem, IsOurSet, IsOurEntry, IsOurs, total, any_items, found_ours, at_apex, generated_sets, generated_is, generated_ours, ours_published}

-- ---- a record

abbrev record_at : Name → ℕ → ℕ → List Field → Record
record_at owner rtype ttl fields = record { owner = owner; rtype = rtype; class = 1; ttl = ttl; fields = fields }

wire_length : (owner : Name) (rtype ttl : ℕ) (fields : List Field) → length (record_wire (record_at owner rtype ttl fields)) ≡ length (name_wire owner) + 10 + length (data_wire fields)
wire_length owner rtype ttl fields =
    let o = name_wire owner in
    let a = o ++ u16_octets rtype in
    let b = a ++ u16_octets 1 in
    let c = b ++ u32_octets ttl in
    let d = c ++ u16_octets (length (data_wire fields)) in
    omega (
      arith,
      length-append o (u16_octets rtype),
      length-append a (u16_octets 1),
      length-append b (u32_octets ttl),
      length-append c (u16_octets (length (data_wire fields))),
      length-append d (data_wire fields),
    )

record_short : (owner : Name) (rtype ttl : ℕ) (fields : List Field) → is_name owner ≡ true → length (name_wire owner) ≤ 21 → rtype < 2 ^ 16 → ttl ≤ 3600 → IsItem rtype fields
    → IsShort (record_at owner rtype ttl fields)
record_short owner rtype ttl fields named short small seconds item = record {
  owner = named;
  rtype = small;
  class = lit< tt;
  ttl = omega (arith, seconds);
  len = omega (arith, item.short);
  pieces = item.pieces;
  short = omega (arith, wire_length owner rtype ttl fields, short, item.short);
}

-- ---- the records of a set

records_short : (owner : Name) (rtype ttl : ℕ) → is_name owner ≡ true → length (name_wire owner) ≤ 21 → rtype < 2 ^ 16 → ttl ≤ 3600 → (items : List (List Field)) → AllByRecursion (IsItem rtype) items
    → AllByRecursion IsShort (map (record_at owner rtype ttl) items)
records_short owner rtype ttl named short small seconds [] a = tt
records_short owner rtype ttl named short small seconds (d ∷ items) a =
    (record_short owner rtype ttl d named short small seconds a.0, records_short owner rtype ttl named short small seconds items a.1)

-- the owner that is shown
abbrev Shown : Name → Type 0
Shown n = (is_name n ≡ true) × (length (name_wire n) ≤ 21)

shown_short : (es : Sets) (n : Name) → Shown n → Shown (shown_owner (at_apex es) n)
shown_short es n h = by (same_name n zone_name)
  where
    by : (b : Bool) → Shown (if b then zone_name else n)
    by true = (refl, lit≤ tt)
    by false = h

unless_soa : (P : List Field → Type 0) (b : Bool) (xs : List (List Field)) → AllByRecursion P xs → AllByRecursion P (if b then [] else xs)
unless_soa P true xs a = tt
unless_soa P false xs a = a

entry_short : (es : Sets) (e : Key × RecordSet) → IsOurEntry e → AllByRecursion IsShort (recs (shown_owner (at_apex es)) 1 but_soa e)
entry_short es e h =
    let shown = shown_short es e.0.0 (h.0.named, h.0.short) in
    records_short (shown_owner (at_apex es) e.0.0) e.0.1 e.1.ttl shown.0 shown.1 h.0.small h.1.ttl (but_soa e.0 e.1) (unless_soa (IsItem e.0.1) (e.0.1 == type_soa) e.1.items h.1.each)

all_append : (xs ys : List Record) → AllByRecursion IsShort xs → AllByRecursion IsShort ys → AllByRecursion IsShort (xs ++ ys)
all_append [] ys a b = b
all_append (x ∷ xs) ys a b = (a.0, all_append xs ys a.1 b)

entries_short : (es more : Sets) → AllByRecursion IsOurEntry more → AllByRecursion IsShort (flat_map (recs (shown_owner (at_apex es)) 1 but_soa) more)
entries_short es [] a = tt
entries_short es (e ∷ more) a = all_append (recs (shown_owner (at_apex es)) 1 but_soa e) (flat_map (recs (shown_owner (at_apex es)) 1 but_soa) more) (entry_short es e a.0) (entries_short es more a.1)

-- ---- how many there are

kept_length : (b : Bool) (xs : List (List Field)) → length (if b then [] else xs) ≤ length xs
kept_length true xs = omega arith
kept_length false xs = omega arith

entry_length : (show : Name → Name) (e : Key × RecordSet) → length (recs show 1 but_soa e) ≤ length e.1.items
entry_length show e = omega (
  arith,
  length-map (but_soa e.0 e.1) (record_at (show e.0.0) e.0.1 e.1.ttl),
  kept_length (e.0.1 == type_soa) e.1.items,
)

entries_length : (show : Name → Name) (es : Sets) → length (flat_map (recs show 1 but_soa) es) ≤ total any_items es
entries_length show [] = omega arith
entries_length show (e ∷ es) = omega (
  arith,
  length-append (recs show 1 but_soa e) (flat_map (recs show 1 but_soa) es),
  entry_length show e,
  entries_length show es,
  sum_by-cons (λ (x : Key × RecordSet). any_items x.0.1 (length x.1.items)) e es,
)

-- ---- the whole text

module _ (most : ℕ) (es : Sets) (h : IsOurs most es) where
  abbrev soa : OneSoa (at_apex es)
  soa = let published = ours_published most es h in one_soa (at_apex es) published.valid published.one_soa

  soa_short : IsShort (soa_of (at_apex es) soa)
  soa_short =
      let found : IsOurSet type_soa (set_of soa.ttl (soa.fields ∷ [])) = found_ours es (zone_name, type_soa) (set_of soa.ttl (soa.fields ∷ [])) h.each soa.stands in
      record_short zone_name type_soa soa.ttl soa.fields refl (lit≤ tt) (lit< tt) found.ttl found.each.0

  text_short : AllByRecursion IsShort (whole_text (at_apex es))
  text_short =
      subst (AllByRecursion IsShort) (sym (whole_is (at_apex es) soa))
      (soa_short, all_append (middle_of (at_apex es)) (soa_of (at_apex es) soa ∷ []) (entries_short es es h.each) (soa_short, tt))

  text_length : length (whole_text (at_apex es)) ≤ most + 2
  text_length =
      let whole = ap length (whole_is (at_apex es) soa) in
      omega (arith, whole, length-append (middle_of (at_apex es)) (soa_of (at_apex es) soa ∷ []), entries_length (shown_owner (at_apex es)) es, h.few)

pub generated_short : (n seed : ℕ) → 0 < n → n < 2 ^ 32 → AllByRecursion IsShort (whole_text (generated n seed))
generated_short n seed some small =
    subst (λ v. AllByRecursion IsShort (whole_text v)) (sym (generated_is n seed)) (text_short (n + 2) (generated_sets n seed) (generated_ours n seed some small))

pub generated_few : (n seed : ℕ) → 0 < n → n < 2 ^ 32 → length (whole_text (generated n seed)) ≤ n + 4
generated_few n seed some small =
    let is = ap (λ v. length (whole_text v)) (generated_is n seed) in
    omega (arith, is, text_length (n + 2) (generated_sets n seed) (generated_ours n seed some small))
