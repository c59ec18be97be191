-- Worked courses and ends of a transfer.
use Rattle.std.specs.Prelude.{ℕ, List, [], ◌∷◌, ◌++◌, true, false, slice_set, replicate, map, take, drop, None}
use Rattle.dns_rdata.specs.Records.{Record}
use Rattle.dns_rdata.specs.RecordRows as data_rows
use Rattle.dns_wire.specs.Wire.{Message, message_wire, question_wire}
use Rattle.dns_wire.specs.MessageRows as message_rows
use Rattle.tsig_port.specs.Tsig.{signed_answer, signed_answers, signed_by, with_mac, blank_tsig, later_input, mac_in}
use Rattle.tsig_port.specs.ExchangeRows.{row_key, row_request, first_reply}
use Rattle.zone_model.specs.Version.{Version}
use Rattle.zone_model.specs.TransferText.{Mode, Axfr, Ixfr}
use Rattle.zone_model.specs.Offer.{successive}
use Rattle.zone_model.specs.ZoneRows.{history_1, history_2, history_3}
use Rattle.zone_model.specs.ZoneRows as zone_rows
use Rattle.xfr_model.specs.Carried.{Carrier}
use Rattle.xfr_model.specs.ReplyRows.{asked}
use Rattle.xfr_model.specs.ReplyRows as replies
use Rattle.xfr_course.specs.Outcome.{Outcome, Course, Checked, Ended}
use Rattle.xfr_course.specs.Granting.{Ends, sent_text}
use Rattle.xfr_course.specs.Courses.{Handed}

-- one signed message with these records, in answer to a question of a mode
abbrev pub reply : ℕ → List Record → Checked
reply qtype records = record { message = replies.reply qtype records }

abbrev pub course : Mode → ℕ → Version → List Checked → Course
course mode qtype base checked = record { mode = mode; id = 1000; question = asked qtype; base = base; number = 0; checked = checked; stop = Ended }

-- .. and a later one without a question
abbrev pub later_reply : List Record → Checked
later_reply records = record { message = record (replies.reply 252 records) { questions = [] } }

-- a history in one message, one whose first edit is refused, and an SOA alone for one who has another, each from a number on
abbrev pub history_course : ℕ → Course
history_course number = record (course Ixfr 251 history_1 (reply 251 zone_rows.history_text ∷ [])) { number = number }

abbrev pub refused_course : ℕ → Course
refused_course number = record (course Ixfr 251 history_1 (reply 251 (zone_rows.soa 3 ∷ zone_rows.soa 1 ∷ zone_rows.address zone_rows.nezu 6 ∷ zone_rows.soa 2 ∷ []) ∷ [])) { number = number }

abbrev pub lone_course : ℕ → ℕ → Course
lone_course base found = course Ixfr 251 (zone_rows.zone (zone_rows.soa base ∷ [])) (reply 251 (zone_rows.soa found ∷ []) ∷ [])

-- three batches after that history's first version, one to a message, and as many of these as are taken; and what they lead to
abbrev pub batch_replies : List Checked
batch_replies =
    reply 251 (zone_rows.soa 4 ∷ zone_rows.soa 1 ∷ zone_rows.address zone_rows.nezu 5 ∷ zone_rows.soa 2 ∷ zone_rows.address zone_rows.jain 4 ∷ zone_rows.address zone_rows.jain 2 ∷ [])
    ∷ later_reply (zone_rows.soa 2 ∷ zone_rows.address zone_rows.jain 4 ∷ zone_rows.soa 3 ∷ zone_rows.address zone_rows.jain 3 ∷ [])
    ∷ later_reply (zone_rows.soa 3 ∷ zone_rows.address zone_rows.jain 2 ∷ zone_rows.soa 4 ∷ zone_rows.address zone_rows.nezu 5 ∷ zone_rows.soa 4 ∷ []) ∷ []

abbrev pub batches_course : ℕ → Course
batches_course n = course Ixfr 251 history_1 (take n batch_replies)

abbrev pub history_4 : Version
history_4 = zone_rows.zone (zone_rows.soa 4 ∷ zone_rows.ns zone_rows.e zone_rows.ns_host ∷ zone_rows.address zone_rows.ns_host 1 ∷ zone_rows.address zone_rows.jain 3 ∷ zone_rows.address zone_rows.nezu 5 ∷ [])

-- the first of them, and then a second that deletes this record
abbrev pub refused_batch : Record → Course
refused_batch r = course Ixfr 251 history_1 (take 1 batch_replies ++ later_reply (zone_rows.soa 2 ∷ r ∷ []) ∷ [])

-- a whole zone in place of changes, from a first message with as many records on
abbrev pub whole_records : List Record
whole_records = zone_rows.soa 3 ∷ zone_rows.ns zone_rows.e zone_rows.ns_host ∷ zone_rows.address zone_rows.ns_host 1 ∷ zone_rows.address zone_rows.jain 2 ∷ zone_rows.address zone_rows.jain 3 ∷ zone_rows.soa 3 ∷ []

abbrev pub begun_whole : ℕ → Course
begun_whole n = course Ixfr 251 history_1 (reply 251 (take n whole_records) ∷ [])

abbrev pub whole_in_two : ℕ → Course
whole_in_two n = course Ixfr 251 history_1 (reply 251 (take n whole_records) ∷ later_reply (drop n whole_records) ∷ [])

-- a refused edit, and a record after the end
abbrev pub refused_and_behind : Course
refused_and_behind = course Ixfr 251 history_1 (reply 251 (zone_rows.soa 2 ∷ zone_rows.soa 1 ∷ zone_rows.address zone_rows.nezu 6 ∷ zone_rows.soa 2 ∷ zone_rows.soa 2 ∷ zone_rows.soa 2 ∷ []) ∷ [])

-- a transfer of a history that has to succeed
abbrev pub small_ends : Ends
small_ends = record {
  offer = record { version = history_3; differences = successive (history_1 ∷ history_2 ∷ history_3 ∷ []); compatibility = false };
  history = history_1 ∷ history_2 ∷ history_3 ∷ [];
  mode = Ixfr;
  base = history_1;
  number = 0;
  question = asked 251;
  request_len = 142;
  max_len = 65535;
  signature_len = 76;
  primary_signs = 32;
  primary_wants = 32;
  secondary_signs = 32;
  secondary_wants = 32;
  at_primary = 1000;
  at_secondary = 1300;
}

-- .. where there is least left: the primary's clock 300 seconds ahead, a request as long as may be, and the last number
abbrev pub edge_ends : Ends
edge_ends = record small_ends { at_primary = 1600; request_len = 65535; number = 18446744073709551612 }

-- .. for one who has caught up, and of a whole zone with a record to a message
abbrev pub caught_up_ends : Ends
caught_up_ends = record small_ends { offer = record { version = history_3; differences = []; compatibility = false }; history = history_3 ∷ []; base = history_3 }

abbrev pub single_ends : Ends
single_ends = record small_ends {
  offer = record { version = zone_rows.cut_zone; differences = []; compatibility = true };
  history = zone_rows.cut_zone ∷ [];
  mode = Axfr;
  question = asked 252;
}

-- .. and of a history by a primary that sends a record to a message where the whole zone is asked for
abbrev pub compatible_ends : Ends
compatible_ends = record small_ends { offer = record { version = history_3; differences = successive (history_1 ∷ history_2 ∷ history_3 ∷ []); compatibility = true } }

-- a whole text, in answer to an incremental question, that is two SOAs
abbrev pub two_soas_ends : Ends
two_soas_ends = record small_ends { offer = record { version = zone_rows.zone (zone_rows.soa 2 ∷ []); differences = []; compatibility = false } }

-- the octets of a whole zone in one signed answer
abbrev pub whole_reply : List ℕ
whole_reply = signed_answer row_key (mac_in row_request) None (message_wire (message_rows.reply (data_rows.soa 1 ∷ data_rows.ns_record ∷ data_rows.address 1 ∷ data_rows.soa 1 ∷ []))) 1000 300

-- the same with another last octet of the address
abbrev pub spoilt_reply : List ℕ
spoilt_reply = slice_set whole_reply 122 99

-- the same under another id, as one who forwards it may set it
abbrev pub other_id_reply : List ℕ
other_id_reply = slice_set whole_reply 0 9

-- that zone in two answers, both signed; an unsigned one that ends it, and one behind it that is signed so that its MAC covers it too
abbrev pub two_answers : List Message
two_answers = message_rows.reply (data_rows.soa 1 ∷ data_rows.ns_record ∷ []) ∷ message_rows.reply (data_rows.address 1 ∷ data_rows.soa 1 ∷ []) ∷ []

abbrev pub two_replies : List (List ℕ)
two_replies = signed_answers row_key (mac_in row_request) 1000 300 (map message_wire two_answers)

abbrev pub unsigned_end : List ℕ
unsigned_end = message_wire (message_rows.reply (data_rows.address 1 ∷ data_rows.soa 1 ∷ []))

abbrev pub reply_behind : List ℕ
reply_behind =
    let t = blank_tsig row_key 1000 300 1000 0 [] in
    let m = message_wire (message_rows.reply (data_rows.soa 1 ∷ [])) in
    signed_by row_key m (with_mac row_key t (later_input (mac_in first_reply) (unsigned_end ++ m) t))

-- what a link handed in answer to the signed request, at a moment, before it gave no more
abbrev pub handed : ℕ → Outcome → List (List ℕ) → Handed
handed now gave_up replies = record { key = row_key; now = now; request = row_request; replies = replies; gave_up = gave_up }

-- one message that carries what its primary sends
abbrev pub small_carrier : Carrier
small_carrier = record { message = replies.reply 251 (sent_text small_ends); page = sent_text small_ends }

-- its first records in one message, and the others in a second
abbrev pub first_carrier : ℕ → Carrier
first_carrier n = record { message = replies.reply 251 (take n (sent_text small_ends)); page = take n (sent_text small_ends) }

abbrev pub second_carrier : ℕ → Carrier
second_carrier n = record { message = record (replies.reply 251 (drop n (sent_text small_ends))) { questions = [] }; page = drop n (sent_text small_ends) }

-- a reply that is a header alone, and one that is too short to be one
abbrev pub bare_header : List ℕ
bare_header = replicate 12 0

abbrev pub two_octets : List ℕ
two_octets = 1 ∷ 2 ∷ []

-- a header less its last octet
abbrev pub eleven_octets : List ℕ
eleven_octets = replicate 11 0

-- a header that counts one question, and nothing after it
abbrev pub lacks_question : List ℕ
lacks_question = 0 ∷ 0 ∷ 0 ∷ 0 ∷ 0 ∷ 1 ∷ replicate 6 0

-- one that counts a question and an authority record, of which the question is there
abbrev pub lacks_authority : List ℕ
lacks_authority = 3 ∷ 232 ∷ 128 ∷ 0 ∷ 0 ∷ 1 ∷ 0 ∷ 0 ∷ 0 ∷ 1 ∷ 0 ∷ 0 ∷ question_wire (asked 252)
