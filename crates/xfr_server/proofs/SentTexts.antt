-- The text that is chosen to be sent.
use Rattle.std.proofs.Common.{◌≡◌, ℕ, suc, Bool, true, false, ◌&&◌, not, cond, List, [], ◌∷◌, ◌++◌, length, filter, Some, refl, ap, ◌∙◌, arith}
use Rattle.std.specs.Prelude.{◌==◌, flat_map}
use Rattle.std.specs.List.{list_all}
use Rattle.std.proofs.lemmas.Bool.Decides.{nat_tests}
use Rattle.dns_rdata.specs.Records.{Record}
use Rattle.dns_numbers.specs.Codes.{type_soa}
use Rattle.dns_numbers.specs.Serial.{serial_upto}
use Rattle.zone_model.specs.Version.{Version, set_at, has_one_apex_soa}
use Rattle.zone_model.specs.Answer.{apex_soa_record}
use Rattle.zone_model.specs.Walk.{records_of_version}
use Rattle.zone_model.specs.Difference.{Difference, zone_serial}
use Rattle.zone_model.specs.Offer.{Offer, is_apex_soa, is_sendable, difference_text, whole_text, changes_text, changes_or_whole}
use Rattle.xfr_server.specs.Transfers.{text_of_offer, has_changes}
use Rattle.xfr_server.specs.Transfers.Choice.{SoaAlone}
use Rattle.xfr_server.specs.SentTexts.{sent_records, TextIsChosen}
use Rattle.xfr_server.specs.GrantedTransfers.{begins_with_soa, TextsBegin}
use Rattle.xfr_services.specs.declared.modes.XfrMode.TheVariants.{Axfr, Ixfr}
use Rattle.xfr_server.proofs.Accepted.{soa_of}

some_there : (n : ℕ) → not (suc n == 0) ≡ true
some_there n = grind (arith, nat_tests)

-- the changes or the whole text
text_by : (offer : Offer) (changes : Bool)
    → sent_records (text_of_offer true changes offer) ≡ Some (cond changes (changes_text offer.version offer.differences) (whole_text offer.version), false)
text_by offer true = refl
text_by offer false = refl

changes_by : (offer : Offer) (ds : List Difference) → offer.differences ≡ ds → sent_records (text_of_offer true (has_changes offer) offer) ≡ Some (changes_or_whole offer.version offer.differences, false)
changes_by offer [] is = rw is (text_by offer false)
changes_by offer (d ∷ more) is =
    let sendable = list_all (is_sendable offer.version) (d ∷ more) in
    let some : has_changes offer ≡ sendable = rw is (ap (λ b. b && sendable) (some_there (length more))) in
    ap (λ b. sent_records (text_of_offer true b offer)) some ∙ text_by offer sendable
    ∙ ap (λ rs. Some (rs, false)) (rw is refl)

-- the SOA alone where the requestor has caught up
news_by : (offer : Offer) (caught_up : Bool)
    → sent_records (cond caught_up (SoaAlone offer.version) (text_of_offer true (has_changes offer) offer))
    ≡ Some (cond caught_up (apex_soa_record offer.version) (changes_or_whole offer.version offer.differences), false)
news_by offer true = refl
news_by offer false = changes_by offer offer.differences refl

pub text_is_chosen : TextIsChosen
text_is_chosen Axfr true question asked serial offer takes names apex one = cc
text_is_chosen Axfr false question asked serial offer takes names apex one = rw (apex, one) refl
text_is_chosen Ixfr udp question asked serial offer takes names apex one = rw (names, apex, one) (news_by offer (serial_upto (zone_serial offer.version) serial))

-- ---- each text begins with an SOA

pub whole_begins : (v : Version) → has_one_apex_soa v ≡ true → begins_with_soa (whole_text v) ≡ true
whole_begins v one =
    let middle = filter (λ r. not (is_apex_soa v r)) (records_of_version v) in
    let soa = soa_of v (set_at v v.apex type_soa) one in
    ap (λ rs. begins_with_soa ((rs ++ middle) ++ apex_soa_record v)) soa.1.0 ∙ soa.1.1

pub changes_begin : (v : Version) (ds : List Difference) → has_one_apex_soa v ≡ true → begins_with_soa (changes_text v ds) ≡ true
changes_begin v ds one =
    let middle = flat_map (difference_text v) ds in
    let soa = soa_of v (set_at v v.apex type_soa) one in
    ap (λ rs. begins_with_soa ((rs ++ middle) ++ apex_soa_record v)) soa.1.0 ∙ soa.1.1

soa_begins : (v : Version) → has_one_apex_soa v ≡ true → begins_with_soa (apex_soa_record v) ≡ true
soa_begins v one = let soa = soa_of v (set_at v v.apex type_soa) one in ap begins_with_soa soa.1.0 ∙ soa.1.1

either_begins : (xs ys : List Record) (b : Bool) → begins_with_soa xs ≡ true → begins_with_soa ys ≡ true → begins_with_soa (cond b xs ys) ≡ true
either_begins xs ys true first second = first
either_begins xs ys false first second = second

newer_begins : (v : Version) (ds : List Difference) → has_one_apex_soa v ≡ true → begins_with_soa (changes_or_whole v ds) ≡ true
newer_begins v [] one = whole_begins v one
newer_begins v (d ∷ more) one =
    either_begins (changes_text v (d ∷ more)) (whole_text v) (list_all (is_sendable v) (d ∷ more)) (changes_begin v (d ∷ more) one) (whole_begins v one)

pub texts_begin : TextsBegin
texts_begin Axfr serial offer one = whole_begins offer.version one
texts_begin Ixfr serial offer one =
    let v = offer.version in
    either_begins (apex_soa_record v) (changes_or_whole v offer.differences) (serial_upto (zone_serial v) serial) (soa_begins v one) (newer_begins v offer.differences one)
