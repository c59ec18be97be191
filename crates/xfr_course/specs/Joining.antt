-- The law that joins the halves: built answers, signed in sequence and handed as they were sent, are a course that says what they were built of (RFC 8945, 5.3.1).
use Rattle.std.specs.Prelude.{◌≡◌, ℕ, ◌<◌, ◌≤◌, ◌^◌, List, length, map}
use Rattle.std.specs.Int.{abs_diff}
use Rattle.std.specs.List.{AllByRecursion}
use Rattle.dns_wire.specs.Wire.{Message, message_wire}
use Rattle.tsig_port.specs.Tsig.{TsigKey, mac_in, signed_answers}
use Rattle.tsig_port.specs.Signing.{CanSign}
use Rattle.tsig_port.specs.OneKey.{IsSigner, AreOneKey}
use Rattle.zone_model.specs.Version.{Version}
use Rattle.xfr_model.specs.Messages.{HaveData, read_of}
use Rattle.xfr_course.specs.Outcome.{Outcome, Checked, Course}
use Rattle.xfr_course.specs.Courses.{Handed, course_of, most_replies}

-- a built message as a client has it, once it was signed, handed and taken
abbrev pub built_checked : Message → Checked
built_checked m = record { message = read_of m }

-- answers to a client's request, signed one after another with the server's key at one moment, as the link handed them at another
abbrev pub signed_handed : TsigKey → TsigKey → List ℕ → ℕ → ℕ → ℕ → List Message → Outcome → Handed
signed_handed client server request at fudge now messages gave_up =
    record { key = client; now = now; request = request; replies = signed_answers server (mac_in request) at fudge (map message_wire messages); gave_up = gave_up }

-- a course of these messages, at whose end stands what the link gave in place of a further one
pub record IsCourseOf (c : Course) (messages : List Message) (gave_up : Outcome) : Type 0 where
  pub checked : c.checked ≡ map built_checked messages
  pub stop : c.stop ≡ gave_up

abbrev pub SignedAreTheCourse : Type 0
SignedAreTheCourse = (client server : TsigKey) (request : List ℕ) (messages : List Message) (at now fudge number : ℕ) (base : Version) (gave_up : Outcome)
    → IsSigner server → AreOneKey client server → at < 2 ^ 48 → fudge < 2 ^ 16 → abs_diff at now ≤ fudge
    → AllByRecursion (CanSign server) messages → AllByRecursion (λ m. HaveData m.answers) messages → length messages < most_replies
    → IsCourseOf (course_of (signed_handed client server request at fudge now messages gave_up) base number) messages gave_up
