-- When an honest transfer succeeds, from the secondary's request on (RFC 5936, 2 and 6; RFC 1995, 2 to 4; RFC 8945, 5).
use Rattle.std.specs.Prelude.{◌≡◌, ℕ, ◌+◌, ◌-◌, ◌^◌, ◌≤◌, ◌<◌, Bool, true, ◌||◌, not, ◌==◌, nat_le, List, [], map, length, take, IsTrue}
use Rattle.std.specs.Int.{abs_diff}
use Rattle.std.specs.List.{AllByRecursion}
use Rattle.dns_name.specs.Names.{Name, same_name}
use Rattle.dns_numbers.specs.Serial.{serial_lt}
use Rattle.dns_rdata.specs.Records.{Record}
use Rattle.dns_wire.specs.Wire.{Message, message_wire, question_wire}
use Rattle.tsig_port.specs.Tsig.{TsigKey, mac_in, compose_len, signed_answers}
use Rattle.tsig_port.specs.Checked.{taken_message}
use Rattle.tsig_port.specs.OneKey.{IsSigner, AreOneKey}
use Rattle.zone_model.specs.Version.{Version, Same, has_one_apex_soa}
use Rattle.zone_model.specs.Difference.{Difference, zone_serial}
use Rattle.zone_model.specs.TransferText.{Mode, Axfr, Ixfr, OnIxfr}
use Rattle.zone_model.specs.Spells.{spelling}
use Rattle.zone_model.specs.TransferLaws.{IsPublished}
use Rattle.zone_model.specs.Offer.{Offer, IsHistory, IsCutInto, text_of, room_of, first_is}
use Rattle.xfr_replies.specs.TransferPages.{page_answer}
use Rattle.xfr_course.specs.Outcome.{Outcome}
use Rattle.xfr_course.specs.Courses.{has_header, most_replies}
use Rattle.xfr_course.specs.Granting.{in_singles}
use Rattle.xfr_course.specs.Success.{Succeeds}
use Rattle.xfr_client.specs.SoFar.{Asking, asked_octets, asked_question, asked_authority, course_so_far}
use Rattle.zone_sync.specs.Forms.{HaveForms}

-- ---- what is sent

-- how many octets of records a message has room for that answers the request, beside header, question and signature by the primary's key
abbrev pub answer_room : Asking → TsigKey → ℕ
answer_room a server = 65535 - 12 - length (question_wire (asked_question a)) - compose_len server

-- the text of an offer in answer to the request
abbrev pub sent_text : Asking → Offer → List Record
sent_text a offer = text_of offer a.mode (zone_serial a.base.version)

-- the messages that answer the request with the pages of a text
abbrev pub page_answers : Asking → List (List Record) → List Message
page_answers a pages = map (page_answer (taken_message (asked_octets a))) pages

-- what a granting primary sends at a moment: these messages, signed in sequence with its key
abbrev pub sent_pages : Asking → TsigKey → ℕ → List (List Record) → List (List ℕ)
sent_pages a server at pages = signed_answers server (mac_in (asked_octets a)) at 300 (map message_wire (page_answers a pages))

-- ---- the premises

-- both moments can be written, and are at most 300 seconds apart (RFC 8945, 4.2 and 5.2.3)
pub record AreClose (at_primary at_secondary : ℕ) : Type 0 where
  pub primary : at_primary < 2 ^ 48
  pub secondary : at_secondary < 2 ^ 48
  pub near : abs_diff at_primary at_secondary ≤ 300

-- what a mode tells of an offer: a whole zone tells no difference
abbrev pub differences_in : Mode → List Difference → List Difference
differences_in Axfr differences = []
differences_in Ixfr differences = differences

abbrev pub told_offer : Mode → Offer → Offer
told_offer mode offer = record offer { differences = differences_in mode offer.differences }

-- each version of the history that is told may be published as one of this zone: it has one SOA record, at the apex
pub record ArePublished (mode : Mode) (apex : Name) (offer : Offer) : Type 0 where
  pub history : List Version
  pub told : IsHistory (told_offer mode offer) history
  pub each : AllByRecursion (IsPublished apex) history

-- the second record of a text comes in the first message, if there is one: an incremental answer isn't begun by its SOA alone (RFC 1995, 2)
abbrev pub begins_together : ℕ → List Record → Bool
begins_together room text = nat_le (length text) 1 || nat_le (room_of (take 2 text)) room

-- a record stands between the SOAs of a whole text, without which it reads as the incremental form (RFC 1995, 4)
abbrev pub has_more : List Record → Bool
has_more text = not (length text == 2)

-- the text is cut into pages that fill signed messages, no more than a secondary takes
pub record RecordsFit (a : Asking) (server : TsigKey) (offer : Offer) : Type 0 where
  pub pages : List (List Record)
  -- one record a message only for AXFR, where the offer says so (RFC 5936, 7)
  pub cut : IsCutInto (answer_room a server) (in_singles a.mode offer.compatibility) (sent_text a offer) pages
  pub few : length pages ≤ most_replies
  pub together : OnIxfr a.mode (IsTrue (begins_together (answer_room a server) (sent_text a offer)))
  pub more : OnIxfr a.mode (IsTrue (has_more (sent_text a offer)))

-- a version from which an incremental request may ask: it has one apex SOA, whose serial isn't greater than the offered one (at distance 2^31 neither is);
-- where both are equal it is what is offered, and where differences are offered it is what they start at
pub record BaseMatches (base : Version) (offer : Offer) (history : List Version) : Type 0 where
  pub one_apex_soa : IsTrue (has_one_apex_soa base)
  pub not_ahead : IsTrue (not (serial_lt (zone_serial offer.version) (zone_serial base)))
  pub caught_up : zone_serial base ≡ zone_serial offer.version → Same base offer.version
  pub starts : IsTrue (first_is base history)

-- two versions of one zone
pub record AreOfOneZone (v w : Version) : Type 0 where
  pub apex : IsTrue (same_name v.apex w.apex)
  pub class : v.class ≡ w.class

-- a secondary that asks, and the key, the moment and the offer of a primary, which fit each other
pub record Fits (a : Asking) (server : TsigKey) (at : ℕ) (offer : Offer) : Type 0 where
  pub client_signs : IsSigner a.key
  pub server_signs : IsSigner server
  pub one_key : AreOneKey a.key server
  pub close_moments : AreClose at a.at
  pub one_soa : ArePublished a.mode a.base.version.apex offer
  pub records_fit : RecordsFit a server offer
  -- the records of the text have wire forms, as those of writable versions do
  pub sent : HaveForms (sent_text a offer)
  pub base_matches : OnIxfr a.mode (BaseMatches a.base.version offer one_soa.history)
  pub same_zone : AreOfOneZone a.base.version offer.version
  -- there are numbers left for the versions that are spelt
  pub room : a.base.number + length (spelling a.mode (sent_text a offer) a.base.version).versions < 2 ^ 64

-- ---- laws

-- the law of granted transfers: what such a primary sends to a request whose record has a wire form (as each has that can be made) makes a course that
-- succeeds, whatever comes in place of a further reply
abbrev pub GrantedSucceed : Type 0
GrantedSucceed = (a : Asking) (server : TsigKey) (at : ℕ) (offer : Offer) (gave : Outcome) → HaveForms (asked_authority a) → (f : Fits a server at offer)
    → Succeeds (course_so_far a (sent_pages a server at f.records_fit.pages) gave) offer.version

-- what is sent is a message for each page
abbrev pub SendsEach : Type 0
SendsEach = (a : Asking) (server : TsigKey) (at : ℕ) (pages : List (List Record)) → length (sent_pages a server at pages) ≡ length pages

-- the signed request is at least a header
abbrev pub RequestHasHeader : Type 0
RequestHasHeader = (a : Asking) → has_header (asked_octets a) ≡ true
