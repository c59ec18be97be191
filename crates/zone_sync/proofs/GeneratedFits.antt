-- A zone that is made from numbers fits its secondary.
use Rattle.std.proofs.Common.{◌≡◌, ℕ, ◌+◌, ◌^◌, ◌<◌, ◌≤◌, true, false, true≢false, List, [], ◌∷◌, ◌++◌, length, length-append, min, flat_map, IsTrue, refl, sym, ap, subst, arith, lit<, lit≤, le-leb}
use Rattle.std.specs.Prelude.{◌≢◌, nat_le, not}
use Rattle.std.specs.List.{AllByRecursion, list_all}
use Rattle.std.specs.Cmp.Derive.{both_true}
use Rattle.std.proofs.lemmas.Bool.{and_parts}
use Rattle.std.proofs.lemmas.Bool.Decides.{nat_tests}
use Rattle.std.proofs.lemmas.List.Sums.{sum_by-cons}
use Rattle.dns_name.specs.Names.{same_name}
use Rattle.dns_rdata.specs.Records.{Record, record_wire}
use Rattle.dns_wire.specs.Wire.{message_wire}
use Rattle.tsig_port.specs.Tsig.{compose_len}
use Rattle.tsig_port.specs.OneKey.{IsSigner, AreOneKey}
use Rattle.zone_model.specs.Version.{Version}
use Rattle.zone_model.specs.TransferText.{Axfr}
use Rattle.zone_model.specs.TransferLaws.{IsPublished}
use Rattle.zone_model.specs.Spells.{spelling}
use Rattle.zone_model.specs.Offer.{whole_text, room_of, is_filled, are_pages, IsCutInto}
use Rattle.zone_model.proofs.WholeText.{whole_spells}
use Rattle.xfr_replies.specs.TransferPages.{has_page}
use Rattle.xfr_replies.proofs.Cutting.{some_page, pages_behind, has_cut}
use Rattle.zone_generated.specs.Generated as generated
use Rattle.zone_generated.specs.Generated.{zone_name}
use Rattle.zone_generated.specs.ShortTexts.{IsShort}
use Rattle.zone_generated.proofs.Content.{generated_is, generated_published}
use Rattle.zone_generated.proofs.ShortTexts.{generated_short, generated_few}
use Rattle.xfr_client.specs.SoFar.{asked_octets, request_message}
use Rattle.zone_sync.specs.Forms.{HaveForms}
use Rattle.zone_sync.specs.Fitting.{Fits, answer_room}
use Rattle.zone_sync.specs.Grants.{history_offer}
use Rattle.zone_sync.specs.Reported.{provider_of, generating_provider, generated_asking}
use Rattle.zone_sync.proofs.Lengths.{asked_length}

-- ---- how many pages there are

abbrev joined : List (List Record) → List Record
joined pages = flat_map (λ page. page) pages

front_short : (xs ys : List Record) → AllByRecursion IsShort (xs ++ ys) → AllByRecursion IsShort xs
front_short [] ys a = tt
front_short (x ∷ xs) ys a = (a.0, front_short xs ys a.1)

back_short : (xs ys : List Record) → AllByRecursion IsShort (xs ++ ys) → AllByRecursion IsShort ys
back_short [] ys a = a
back_short (x ∷ xs) ys a = back_short xs ys a.1

some_record : {X : Type 0} (xs : List X) → xs ≢ [] → 1 ≤ length xs
some_record [] h = absurd (h refl)
some_record (x ∷ xs) h = omega arith

-- a page that has no room for a short record has two records or more
room_of_few : (page : List Record) → AllByRecursion IsShort page → length page ≤ 1 → room_of page ≤ 100
room_of_few [] a few = lit≤ tt
room_of_few (r ∷ []) a few = omega (arith, sum_by-cons (λ x. length (record_wire x)) r [], a.0.short)
room_of_few (r ∷ x ∷ page) a few = absurd (omega (arith, few))

no_room : (room page more : ℕ) → not (nat_le (page + more) room) ≡ true → room < page + more
no_room room page more h = grind (arith, nat_tests)

two_records : (room : ℕ) (page : List Record) (r : Record) → 200 ≤ room → AllByRecursion IsShort page → IsShort r → room < room_of page + length (record_wire r) → 2 ≤ length page
two_records room [] r wide a short more = absurd (omega (arith, wide, short.short, room_of_few [] tt (lit≤ tt), more))
two_records room (x ∷ []) r wide a short more = absurd (omega (arith, wide, short.short, room_of_few (x ∷ []) a (lit≤ tt), more))
two_records room (x ∷ y ∷ page) r wide a short more = omega arith

filled_page : (room : ℕ) (page next : List Record) (more : List (List Record)) → are_pages room (page ∷ next ∷ more) ≡ true → is_filled room page (next ∷ more) ≡ true
filled_page room page next more each = (and_parts _ _ (and_parts _ _ each).0).1

many_records : (room : ℕ) (page next : List Record) (more : List (List Record)) → 200 ≤ room → AllByRecursion IsShort page → AllByRecursion IsShort (joined (next ∷ more))
    → is_filled room page (next ∷ more) ≡ true → 2 ≤ length page
many_records room page [] more wide a b filled = absurd (true≢false (sym filled))
many_records room page (r ∷ rest) more wide a b filled = two_records room page r wide a b.0 (no_room room (room_of page) (length (record_wire r)) filled)

-- so there are half as many pages as records, or one more
pages_few : (room : ℕ) → 200 ≤ room → (pages : List (List Record)) → are_pages room pages ≡ true → AllByRecursion IsShort (joined pages) → length pages + length pages ≤ length (joined pages) + 1
pages_few room wide [] each a = omega arith
pages_few room wide (page ∷ []) each a = omega (arith, some_record page (some_page room page [] each), length-append page [])
pages_few room wide (page ∷ next ∷ more) each a = omega (
  arith,
  pages_few room wide (next ∷ more) (pages_behind room page (next ∷ more) each) (back_short page (joined (next ∷ more)) a),
  many_records room page next more wide (front_short page (joined (next ∷ more)) a) (back_short page (joined (next ∷ more)) a) (filled_page room page next more each),
  length-append page (joined (next ∷ more)),
)

-- ---- what has to hold of its records

each_has_page : (room : ℕ) → 200 ≤ room → (text : List Record) → AllByRecursion IsShort text → list_all (has_page room) text ≡ true
each_has_page room wide [] a = refl
each_has_page room wide (r ∷ text) a = both_true (le-leb (length (record_wire r)) room (omega (arith, a.0.short, wide))) (each_has_page room wide text a.1)

each_record : (text : List Record) → AllByRecursion IsShort text → HaveForms text
each_record [] a = tt
each_record (r ∷ text) a = ((record { owner = a.0.owner; rtype = a.0.rtype; class = a.0.class; ttl = a.0.ttl; len = a.0.len }, a.0.pieces), each_record text a.1)

-- ---- the whole

signs : IsSigner generated.key
signs = record { name = refl; signing = refl }

one_key : AreOneKey generated.key generated.key
one_key = record { name = refl; algorithm = refl; secret = refl; client_taken = lit≤ tt; server_taken = lit≤ tt }

wide : 200 ≤ answer_room generated_asking generated.key
wide = lit≤ tt

few_pages : (n text : ℕ) → n + n ≤ text + 1 → text ≤ 100004 → n ≤ 65536
few_pages n text a b = omega (arith, a, b)

numbered : (n : ℕ) → n ≡ 1 → 0 + n < 2 ^ 64
numbered n e = omega (arith, e)

module _ (v : Version) (published : IsPublished zone_name v) (short : AllByRecursion IsShort (whole_text v)) (few : length (whole_text v) ≤ 100004) (same_apex : IsTrue (same_name zone_name v.apex)) (same_class : 1 ≡ v.class) where
  cut : (pages : List (List Record)) × IsCutInto (answer_room generated_asking generated.key) false (whole_text v) pages
  cut = has_cut (answer_room generated_asking generated.key) (whole_text v) (each_has_page (answer_room generated_asking generated.key) wide (whole_text v) short)

  page_count : length cut.0 ≤ 65536
  page_count =
      let all : AllByRecursion IsShort (joined cut.0) = subst (AllByRecursion IsShort) (sym cut.1.joined) short in
      let count = pages_few (answer_room generated_asking generated.key) wide cut.0 cut.1.filled all in
      let records = ap length cut.1.joined in
      few_pages (length cut.0) (length (joined cut.0)) count (omega (arith, records, few))

  pub version_fits : Fits generated_asking generated.key 0 (history_offer (provider_of v [] generated.key) generated_asking)
  version_fits = record {
    client_signs = signs;
    server_signs = signs;
    one_key = one_key;
    close_moments = record { primary = lit< tt; secondary = lit< tt; near = lit≤ tt };
    one_soa = record { history = v ∷ []; told = record { ends = refl; tells = refl; newer = refl; distinct = refl }; each = (published, tt) };
    records_fit = record {
      pages = cut.0;
      cut = cut.1;
      few = page_count;
      together = tt;
      more = tt;
    };
    sent = each_record (whole_text v) short;
    base_matches = tt;
    same_zone = record { apex = same_apex; class = same_class };
    room = numbered (length (spelling Axfr (whole_text v) generated.empty).versions) (ap (λ s. length s.versions) (whole_spells Axfr v generated.empty published.valid published.one_soa same_apex tt).0);
  }

pub generated_fits : (size seed : ℕ) → 1 ≤ size → size ≤ 100000 → Fits generated_asking generated.key 0 (history_offer (generating_provider size seed) generated_asking)
generated_fits size seed some small =
    let v = generated.generated size seed in
    let below : size < 2 ^ 32 = omega (arith, small) in
    version_fits v (generated_published size seed some below) (generated_short size seed some below)
    (omega (arith, small, generated_few size seed some below))
    (ap (λ (w : Version). same_name zone_name w.apex) (generated_is size seed))
    (sym (ap (λ (w : Version). w.class) (generated_is size seed)))

-- ---- the request

short_request : length (message_wire (request_message generated_asking)) ≤ 100
short_request = lit≤ tt

short_signature : compose_len generated.key ≤ 100
short_signature = lit≤ tt

pub request_fits : (longest : ℕ) → 512 ≤ longest → length (asked_octets generated_asking) ≤ min longest 65535
request_fits longest wide = omega (arith, wide, asked_length generated_asking refl, short_request, short_signature)
