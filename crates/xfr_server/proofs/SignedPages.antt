-- Messages that leave room for their signatures, signed one after another.
use Rattle.std.proofs.Common.{◌≡◌, ℕ, ◌+◌, ◌-◌, ◌≤◌, true, false, List, [], ◌∷◌, ◌++◌, length, map, Option, Some, None, min, refl, ap, ◌∙◌, arith}
use Rattle.std.specs.Prelude.{IsTrue, nat_le}
use Rattle.std.specs.List.{AllByRecursion}
use Rattle.std.proofs.lemmas.Bool.Decides.{nat_tests}
use Rattle.std.proofs.lemmas.List.Concat.{length-flat_map}
use Rattle.dns_wire.specs.Wire.{Message, message_wire, arcount_in, header_in, fits}
use Rattle.dns_wire.specs.Parse.{questions_in}
use Rattle.dns_rdata.specs.Records.{Record, record_wire}
use Rattle.tsig_port.specs.Tsig.{is_mac_len, compose_len, signed_from}
use Rattle.zone_model.specs.Offer.{room_of}
use Rattle.xfr_batch.specs.XfrBatches.{axfr_header}
use Rattle.xfr_replies.specs.TransferPages.{page_answer, page_room}
use Rattle.xfr_replies.specs.PagedReplies.{page_sent}
use Rattle.xfr_server.specs.Items.{Sending, sent_by, reply_item}
use Rattle.xfr_server.specs.Items.Sending.{Given}
use Rattle.xfr_server.specs.Signing.{Signer, can_be_signed, reply_tsig, signed_reply, signed_items}
use Rattle.xfr_signing.specs.declared.signing.Signing.TheVariants.{First, All}
use Rattle.xfr_signing.proofs.Puts.{has_both}
use Rattle.xfr_server.proofs.Answers.{wire_length, records_long}
use Rattle.xfr_server.proofs.Pages.{IsPage}
use Rattle.xfr_server.proofs.Room.{signed_length}

-- ---- each message has room for its signature

pub fits_whole : (octets : List ℕ) → length octets ≤ 65535 → fits 65535 octets ≡ true
fits_whole octets few = grind (arith, nat_tests)

pub can_sign : (s : Signer) (prior : Option (List ℕ)) (message : List ℕ) → IsTrue (is_mac_len s.key.algorithm s.key.signing_len) → 12 ≤ length message → arcount_in message ≡ 0
    → length message + compose_len s.key ≤ 65535 → can_be_signed s prior message ≡ true
can_sign s prior message macs header none few =
    let long = signed_length s.key s.request_mac prior message s.at 300 macs header in
    has_both (fits 65535 (signed_reply s prior message)) (arcount_in message) (fits_whole (signed_reply s prior message) (omega (arith, long, few))) (λ e. absurd (omega (arith, none, e)))

header_there : (request : List ℕ) (page : List Record) → 12 ≤ length (message_wire (page_answer request page))
header_there request page = omega (arith, wire_length (axfr_header (header_in request)) (questions_in request) page)

none_additional : (request : List ℕ) (page : List Record) → arcount_in (message_wire (page_answer request page)) ≡ 0
none_additional request page = refl

within_limit : (a base long limit : ℕ) → nat_le a (min limit 65535 - base) ≡ true → 1 ≤ a → long ≡ base + a → nat_le long (min limit 65535) ≡ true
within_limit a base long limit fit some is = grind (arith, nat_tests)

-- a page is within the limit that its room is of
pub page_fits : (request : List ℕ) (limit : ℕ) (page : List Record) → IsPage (page_room request limit) page → fits limit (message_wire (page_answer request page)) ≡ true
page_fits request limit page p =
    let h = axfr_header (header_in request) in
    let qs = questions_in request in
    let some : 1 ≤ room_of page = omega (arith, records_long page, length-flat_map record_wire page, p.0) in
    let long : length (message_wire (page_answer request page)) ≡ length (message_wire (page_answer request [])) + room_of page =
    omega (arith, wire_length h qs page, wire_length h qs [], length-flat_map record_wire page) in
    within_limit (room_of page) (length (message_wire (page_answer request []))) (length (message_wire (page_answer request page))) limit p.1 some long

leaves : (long limit n : ℕ) → nat_le long (min limit 65535) ≡ true → limit ≤ 65535 - n → 12 ≤ long → long + n ≤ 65535
leaves long limit n fit small header = grind (arith, nat_tests)

-- such a message leaves room where the limit does
pub can_sign_page : (s : Signer) (prior : Option (List ℕ)) (request : List ℕ) (limit : ℕ) (page : List Record) → IsTrue (is_mac_len s.key.algorithm s.key.signing_len)
    → limit ≤ 65535 - compose_len s.key → fits limit (message_wire (page_answer request page)) ≡ true → can_be_signed s prior (message_wire (page_answer request page)) ≡ true
can_sign_page s prior request limit page macs small fit =
    let m = message_wire (page_answer request page) in
    can_sign s prior m macs (header_there request page) (none_additional request page) (leaves (length m) limit (compose_len s.key) fit small (header_there request page))

-- ---- the messages, signed

-- one message that is the first answer
pub first_signed : (s : Signer) (answer : Message) (limit : ℕ) → can_be_signed s None (message_wire answer) ≡ true
    → sent_by (signed_items s First None (Given (reply_item (record { octets = message_wire answer; limit = limit })) ∷ []))
    ≡ record { messages = signed_from s.key s.request_mac s.at 300 None (map message_wire (answer ∷ [])); fails = false }
unfolding signed_from
first_signed s answer limit can = rw can refl

-- .. and the last of a transaction
pub last_signed : (s : Signer) (answer : Message) (limit : ℕ) (prior : Option (List ℕ)) → can_be_signed s prior (message_wire answer) ≡ true
    → sent_by (signed_items s All prior (Given (reply_item (record { octets = message_wire answer; limit = limit })) ∷ []))
    ≡ record { messages = signed_from s.key s.request_mac s.at 300 prior (map message_wire (answer ∷ [])); fails = false }
unfolding signed_from
last_signed s answer limit prior can = rw can refl

-- an item that ends a transaction is sent as these messages, whatever came before
abbrev pub EndsWith : Signer → Sending → List Message → Type 0
EndsWith s last tail = (prior : Option (List ℕ)) → sent_by (signed_items s All prior (last ∷ []))
    ≡ record { messages = signed_from s.key s.request_mac s.at 300 prior (map message_wire tail); fails = false }

-- the first of these, signed, and then the others
page_signed : (s : Signer) (prior : Option (List ℕ)) (request : List ℕ) (limit : ℕ) (page : List Record) (more : List Sending) → can_be_signed s prior (message_wire (page_answer request page)) ≡ true
    → sent_by (signed_items s All prior (page_sent request limit page ∷ more))
    ≡ record {
      messages = signed_reply s prior (message_wire (page_answer request page)) ∷ (sent_by (signed_items s All (Some (reply_tsig s prior (message_wire (page_answer request page))).mac) more)).messages;
      fails = (sent_by (signed_items s All (Some (reply_tsig s prior (message_wire (page_answer request page))).mac) more)).fails;
    }
page_signed s prior request limit page more can = rw can refl

-- pages and what ends them
pub pages_signed : (s : Signer) (request : List ℕ) (limit : ℕ) (last : Sending) (tail : List Message) → IsTrue (is_mac_len s.key.algorithm s.key.signing_len)
    → limit ≤ 65535 - compose_len s.key → EndsWith s last tail → (pages : List (List Record)) (prior : Option (List ℕ)) → AllByRecursion (IsPage (page_room request limit)) pages
    → sent_by (signed_items s All prior (map (page_sent request limit) pages ++ last ∷ []))
    ≡ record { messages = signed_from s.key s.request_mac s.at 300 prior (map message_wire (map (page_answer request) pages ++ tail)); fails = false }
unfolding signed_from
pages_signed s request limit last tail macs small ends [] prior each = ends prior
pages_signed s request limit last tail macs small ends (page ∷ more) prior each =
    let m = message_wire (page_answer request page) in
    let next = Some (reply_tsig s prior m).mac in
    page_signed s prior request limit page (map (page_sent request limit) more ++ last ∷ []) (can_sign_page s prior request limit page macs small (page_fits request limit page each.0))
    ∙ ap (λ x. record { messages = signed_reply s prior m ∷ x.messages; fails = x.fails }) (pages_signed s request limit last tail macs small ends more next each.1)
