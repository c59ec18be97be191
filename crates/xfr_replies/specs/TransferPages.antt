-- The pages of a transfer: its text cut into messages (RFC 5936, 2.2).
use Rattle.std.specs.Prelude.{◌≡◌, ℕ, ◌+◌, ◌-◌, Bool, false, not, nat_le, min, List, [], ◌∷◌, length}
use Rattle.dns_rdata.specs.Records.{Record, record_wire}
use Rattle.dns_wire.specs.Wire.{Building, Message, header_in, in_answer, message_wire}
use Rattle.dns_wire.specs.Parse.{questions_in}
use Rattle.zone_model.specs.TransferText.{before}
use Rattle.zone_model.specs.Offer.{room_of, IsCutInto}
use Rattle.xfr_batch.specs.XfrBatches.{axfr_header}

-- the answer to a request with a page's records: the request's id and RD, QR, AA and its question (RFC 5936, 2.2.1)
abbrev pub page_answer : List ℕ → List Record → Message
page_answer request page = in_answer (axfr_header (header_in request)) (questions_in request) page

abbrev pub page_message : List ℕ → ℕ → List Record → Building
page_message request limit page = record { octets = message_wire (page_answer request page); limit = limit }

-- how many octets of records a message of so many octets has room for, beside its header and question
abbrev pub page_room : List ℕ → ℕ → ℕ
page_room request limit = min limit 65535 - length (message_wire (page_answer request []))

-- whether a record has room in a message of its own
abbrev pub has_page : ℕ → Record → Bool
has_page room r = nat_le (length (record_wire r)) room

-- the records of a text before the first that has none
abbrev pub sendable : ℕ → List Record → List Record
sendable room text = before (λ r. not (has_page room r)) text

-- whether a page ends before these records: the first of them has no room in it
abbrev pub EndsBefore : ℕ → List Record → List Record → Type 0
EndsBefore room page [] = Unit {0}
EndsBefore room page (r ∷ rest) = nat_le (room_of page + length (record_wire r)) room ≡ false

-- a text cut into pages after a first one
pub record FirstPage (room : ℕ) (singles : Bool) (page rest : List Record) (pages : List (List Record)) : Type 0 where
  pub more : List (List Record)
  pub first : pages ≡ page ∷ more
  pub cut : IsCutInto room singles rest more
