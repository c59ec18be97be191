-- Why a primary can't reply: what the link handed it has questions that pass 65,535 octets, or may with the reply's TSIG.
use Rattle.std.specs.Prelude.{◌≡◌, ℕ, true, List, [], ◌∷◌, Option}
use Rattle.tsig_port.specs.ServerCheck.{Keys, verdict}
use Rattle.xfr_services.specs.LongReplies.{HasLongQuestions}
use Rattle.xfr_signing.specs.Failing.{IsTooLong}
use Rattle.zone_devices.specs.Links.{LinkLists, LinkWentOn}
use Rattle.xfr_course.specs.Courses.{has_header}
use Rattle.zone_sync.specs.Serving.{request_at}

-- the primary is any service: the link handed one message as the request, and then no reply; one with its questions and a TSIG may pass 65,535 octets
pub record WasHandedLong (old new : Option LinkLists) : Type 0 where
  pub asked : List (List ℕ)
  pub message : List ℕ
  pub sent : List (List ℕ)
  pub link : LinkWentOn old new asked (message ∷ []) sent []
  pub headed : has_header message ≡ true
  pub long : HasLongQuestions message

-- of a primary of the services here: the link handed one message as the request, to which no reply can be made by what a primary with these keys finds of it
pub record WasHandedTooLong (keys : Keys) (at : ℕ) (heard : List (List ℕ)) : Type 0 where
  pub message : List ℕ
  pub handed : heard ≡ message ∷ []
  pub headed : has_header message ≡ true
  pub long : IsTooLong (request_at message at) (verdict keys at message)
