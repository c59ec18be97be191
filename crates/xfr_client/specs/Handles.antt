-- The read handles around a transfer: each goes on answering from its one version (RFC 1034, 4.3.5).
use Rattle.std.specs.Prelude.{◌≡◌, ℕ, true, List, ◌∷◌, ◌++◌, Option, Some, None, option_map, slice_get, if◌then◌else◌}
use Rattle.dns_name.specs.Names.{Name, under}
use Rattle.zone_model.specs.Answer.{Answer, answer}
use Rattle.zone_model.specs.Commits.{Commit, are_numbered}

-- what a handle answers to a question: what its version has for the name and the type, nothing where the name isn't in the zone (RFC 1034, 4.3.2). So says
-- the contract of `look_up` of each handle, whatever its value
abbrev pub answer_from : Commit → Name → ℕ → Option Answer
answer_from c name qtype = if under name c.version.apex then Some (answer c.version name qtype) else None

-- .. and so the handle at a place; nothing where there is none
abbrev pub asked_at : List Commit → ℕ → Name → ℕ → Option (Option Answer)
asked_at handles place name qtype = option_map (λ c. answer_from c name qtype) (slice_get handles place)

-- handles that were there stand at their places, with their numbers and versions, and answer each question as before; those behind them are commits with the
-- next numbers
pub record KeepsHandles (base : Commit) (before later : List Commit) : Type 0 where
  pub made : List Commit
  pub stay : later ≡ before ++ made
  pub numbered : are_numbered (base ∷ made) ≡ true
  pub answers : (place : ℕ) (name : Name) (qtype : ℕ) (a : Option Answer) → asked_at before place name qtype ≡ Some a → asked_at later place name qtype ≡ Some a
