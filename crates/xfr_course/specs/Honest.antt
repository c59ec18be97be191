-- The law of success, from octets on: built answers that carry what a granting primary sends, signed in sequence and handed as they were sent (RFC 5936, 2 and 6; RFC 8945, 5.3.1).
use Rattle.std.specs.Prelude.{◌≡◌, ℕ, ◌<◌, ◌≤◌, ◌^◌, List, ◌∷◌, length, map}
use Rattle.std.specs.Int.{abs_diff}
use Rattle.std.specs.List.{AllByRecursion}
use Rattle.dns_wire.specs.Wire.{Message, id_in}
use Rattle.tsig_port.specs.Tsig.{TsigKey}
use Rattle.tsig_port.specs.Signing.{CanSign}
use Rattle.tsig_port.specs.OneKey.{IsSigner, AreOneKey}
use Rattle.xfr_model.specs.Messages.{HaveData, read_of}
use Rattle.zone_model.specs.TransferLaws.{IsPublished}
use Rattle.xfr_model.specs.Carried.{Carrier}
use Rattle.xfr_course.specs.Outcome.{Outcome}
use Rattle.xfr_course.specs.Granting.{Ends, IsGranting}
use Rattle.xfr_course.specs.Courses.{course_of, request_mode, request_question, most_replies}
use Rattle.xfr_course.specs.Joining.{signed_handed}
use Rattle.xfr_course.specs.Success.{CarrySent, Succeeds}

-- a built message carries its answer records
abbrev pub carrier_of : Message → Carrier
carrier_of m = record { message = read_of m; page = m.answers }

-- built answers to a request, as one end signs them and the other takes them
pub record AreSent (e : Ends) (client server : TsigKey) (request : List ℕ) (at now fudge : ℕ) (m : Message) (more : List Message) : Type 0 where
  pub signs : IsSigner server
  pub one_key : AreOneKey client server
  pub early : at < 2 ^ 48
  pub small : fudge < 2 ^ 16
  pub near : abs_diff at now ≤ fudge
  pub can : AllByRecursion (CanSign server) (m ∷ more)
  pub have : AllByRecursion (λ x. HaveData x.answers) (m ∷ more)
  pub few : length (m ∷ more) < most_replies
  -- the request asks what the ends say
  pub mode : request_mode request ≡ e.mode
  pub question : request_question request ≡ e.question
  pub carry : CarrySent e (id_in request) (carrier_of m) (map carrier_of more)

abbrev pub HonestSucceeds : Type 0
HonestSucceeds = (e : Ends) (client server : TsigKey) (request : List ℕ) (at now fudge : ℕ) (m : Message) (more : List Message) (gave_up : Outcome)
    → IsGranting e → AllByRecursion (IsPublished e.base.apex) e.history → AreSent e client server request at now fudge m more
    → Succeeds (course_of (signed_handed client server request at fudge now (m ∷ more) gave_up) e.base e.number) e.offer.version
