-- The course of a transfer, from the octets that a link handed: where the two halves meet (RFC 8945, 5.3; RFC 5936, 2.2).
use Rattle.std.specs.Prelude.{ℕ, Bool, nat_le, not, List, [], ◌∷◌, map, length, take, take_while, Option, Some, None, unwrap_or, if◌then◌else◌}
use Rattle.std.specs.List.{list_all}
use Rattle.dns_wire.specs.Wire.{Question, header_in, id_in, nscount_in}
use Rattle.dns_wire.specs.Parse.{questions_in, sole_question_in}
use Rattle.tsig_port.specs.Tsig.{TsigKey}
use Rattle.tsig_port.specs.Checked.{checked, check_fault, taken_message}
use Rattle.tsig_port.specs.declared.errors.ValidationError.{ValidationError}
use Rattle.zone_model.specs.Version.{Version}
use Rattle.zone_model.specs.TransferText.{Mode}
use Rattle.xfr_model.specs.Messages.{ReadMessage, message_of}
use Rattle.xfr_model.specs.Interpreter.{mode_asked}
use Rattle.xfr_course.specs.Outcome.{Outcome, Short, TooManyMessages, Tsig, Checked, Course}

-- ---- replies

-- whether octets are at least a header (RFC 1035, 4.1.1)
abbrev pub has_header : List ℕ → Bool
has_header m = nat_le 12 (length m)

-- how many replies a client takes
abbrev pub most_replies : ℕ
most_replies = 65536

-- the replies that are taken: at most so many, and those before the first that is shorter than a header
abbrev pub replies_taken : List (List ℕ) → List (List ℕ)
replies_taken handed = take_while has_header (take most_replies handed)

-- ---- a checked message as it is read: after it was taken, without its TSIG and with its original id

-- a message that parsed as it came and no longer does (a name in it points into the header): its answer section can't be read
abbrev pub unreadable_message : List ℕ → ReadMessage
unreadable_message octets = record { header = header_in octets; questions = questions_in octets; answers = None ∷ []; authority = nscount_in octets }

abbrev pub read_message : List ℕ → ReadMessage
read_message octets = unwrap_or (message_of octets) (unreadable_message octets)

abbrev pub checked_message : List ℕ → Checked
checked_message m = record { message = read_message (taken_message m) }

-- ---- what came in place of a next checked message

-- a fault of a signature; else a message too short, or too many; else what the outside gave: the end, or a failed call
abbrev pub stop_after : Outcome → List (List ℕ) → Option ValidationError → Outcome
stop_after gave_up handed (Some e) = Tsig e
stop_after gave_up handed None =
    if not (list_all has_header (take most_replies handed)) then Short
    else if nat_le most_replies (length handed) then TooManyMessages
    else gave_up

-- ---- the course

abbrev pub no_question : Question
no_question = record { qname = []; qtype = 0; qclass = 0 }

-- the question of a request, and the mode that it names
abbrev pub request_question : List ℕ → Question
request_question request = unwrap_or (sole_question_in request) no_question

abbrev pub request_mode : List ℕ → Mode
request_mode request = mode_asked (questions_in request)

-- what a client has: its key and moment, the signed request, the replies that the link handed, and what the link gave in place of a further one
pub record Handed : Type 0 where
  pub key : TsigKey
  pub now : ℕ
  pub request : List ℕ
  pub replies : List (List ℕ)
  pub gave_up : Outcome

-- the course of that transfer from a version with a number on
abbrev pub course_of : Handed → Version → ℕ → Course
course_of h base number = record {
  mode = request_mode h.request;
  id = id_in h.request;
  question = request_question h.request;
  base = base;
  number = number;
  checked = map checked_message (checked h.key h.request h.now (replies_taken h.replies));
  stop = stop_after h.gave_up h.replies (check_fault h.key h.request h.now (replies_taken h.replies));
}
