-- What one step of a section's iterator answers.
use Rattle.std.specs.Prelude.{◌≡◌, ℕ, List, [], ◌∷◌, map, Option, Some, None, Result, Ok, Err}
use Rattle.dns_rdata.specs.Heads.{RecordIn}
use Rattle.dns_wire.specs.Wire.{Question, header_in, qdcount_in}
use Rattle.dns_wire.specs.Parse.{SectionIn, Parsed, parsed, question_at, readings, answer_readings, authority_readings, additional_readings}

-- nothing is left; the next reading, a record of the same message; or the error, after which nothing is left
abbrev pub NextReading : {E : Type 0} → SectionIn → Option (Result RecordIn E) → SectionIn → Type 0
NextReading old None new = (old.left ≡ []) × (new ≡ old)
NextReading old (Some (Ok r)) new = (old.left ≡ Some r.raw ∷ new.left) × (r.message ≡ old.message) × (new.message ≡ old.message)
NextReading old (Some (Err e)) new = (old.left ≡ None ∷ []) × (new ≡ record old { left = [] })

-- what an iterator over the questions shows: the message, and the readings that are left
pub record QuestionsIn : Type 0 where
  pub message : List ℕ
  pub left : List (Option Question)

-- nothing is left; the next question; or the error, after which nothing is left
abbrev pub NextQuestion : {E : Type 0} → QuestionsIn → Option (Result Question E) → QuestionsIn → Type 0
NextQuestion old None new = (old.left ≡ []) × (new ≡ old)
NextQuestion old (Some (Ok q)) new = (old.left ≡ Some q ∷ new.left) × (new.message ≡ old.message)
NextQuestion old (Some (Err e)) new = (old.left ≡ None ∷ []) × (new ≡ record old { left = [] })

-- p is what the message parses to, and then the readings of each section are its items
pub record ReadsAs (message : List ℕ) (p : Parsed) : Type 0 where
  pub whole : parsed message ≡ Some p
  pub head : p.header ≡ header_in message
  pub asked : readings (question_at message) (qdcount_in message) 12 ≡ map (λ q. Some q) p.questions
  pub answered : answer_readings message ≡ map (λ r. Some r) p.answers
  pub authorities : authority_readings message ≡ map (λ r. Some r) p.authority
  pub others : additional_readings message ≡ map (λ r. Some r) p.additional
