-- The records of a transfer's messages, joined (RFC 5936, 2.2).
use Rattle.std.specs.Prelude.{◌≡◌, ℕ, Bool, true, false, List, Some, flat_map}
use Rattle.std.specs.List.{list_all}
use Rattle.dns_rdata.specs.Records.{Record}
use Rattle.dns_wire.specs.Wire.{Message, message_wire, fits}
use Rattle.xfr_replies.specs.TransferPages.{page_answer, page_room, has_page}
use Rattle.xfr_server.specs.Transfers.{Choice}
use Rattle.xfr_server.specs.SentTexts.{sent_records}
use Rattle.xfr_server.specs.GrantedTransfers.{begins_with_soa}
use Rattle.xfr_server.specs.SignedAnswers.{Tell}

abbrev pub records_in : List Message → List Record
records_in answers = flat_map (λ (m : Message). m.answers) answers

-- whether a text has room: by UDP whole in one message, by a stream each record in one of its own
abbrev pub has_room : List ℕ → ℕ → Bool → List Record → Bool
has_room request limit true text = fits limit (message_wire (page_answer request text))
has_room request limit false text = list_all (has_page (page_room request limit)) text

-- the law of joined answers: the messages that tell a choice join to its text, where that has room
abbrev pub AnswersJoin : Type 0
AnswersJoin = (request : List ℕ) (limit : ℕ) (udp : Bool) (choice : Choice) (answers : List Message) (text : List Record) (singles : Bool)
    → Tell request limit udp choice answers → sent_records choice ≡ Some (text, singles) → begins_with_soa text ≡ true → has_room request limit udp text ≡ true
    → records_in answers ≡ text
