-- The law of success: what a granting primary sends, carried by signed messages, brings a secondary that fits it up to date (RFC 5936, 2 and 6; RFC 1995, 2).
use Rattle.std.specs.Prelude.{◌≡◌, ℕ, ◌⊎◌, true, false, ◌||◌, nat_le, List, ◌∷◌, map, length, Some, IsTrue}
use Rattle.std.specs.List.{AllByRecursion, last_or}
use Rattle.zone_model.specs.Version.{Version, Same}
use Rattle.zone_model.specs.TransferText.{OnIxfr}
use Rattle.zone_model.specs.TransferLaws.{IsPublished}
use Rattle.xfr_model.specs.Read.{request_fault}
use Rattle.xfr_model.specs.Carried.{Carrier, Carries, carried_text}
use Rattle.xfr_course.specs.Outcome.{Outcome, Updated, UpToDate, Checked, Course, outcome, made}
use Rattle.xfr_course.specs.Granting.{Ends, IsGranting, sent_text}

-- a carrier's message as a client has it, signed
abbrev pub signed_checked : Carrier → Checked
signed_checked k = record { message = k.message }

-- the course between two ends in which these messages are checked
abbrev pub sent_course : Ends → ℕ → List Carrier → Outcome → Course
sent_course e id ks stop = record { mode = e.mode; id = id; question = e.question; base = e.base; number = e.number; checked = map signed_checked ks; stop = stop }

-- messages that carry what the primary sends; the second record of an incremental answer comes in the first of them
pub record CarrySent (e : Ends) (id : ℕ) (k : Carrier) (more : List Carrier) : Type 0 where
  pub first : Carries (request_fault id e.question) true k
  pub later : AllByRecursion (Carries (request_fault id e.question) false) more
  pub text : carried_text (k ∷ more) ≡ sent_text e
  pub together : OnIxfr e.mode (IsTrue (nat_le (length (sent_text e)) 1 || nat_le 2 (length k.page)))

-- a course that ends well, and leaves a version that is the same as w
pub record Succeeds (c : Course) (w : Version) : Type 0 where
  pub how : (outcome c ≡ Updated) ⊎ (outcome c ≡ UpToDate)
  pub last : Version
  pub stands : last_or (Some c.base) (made c) ≡ Some last
  pub same : Same last w

abbrev pub GrantedSucceeds : Type 0
GrantedSucceeds = (e : Ends) (id : ℕ) (k : Carrier) (more : List Carrier) (stop : Outcome) → IsGranting e → AllByRecursion (IsPublished e.base.apex) e.history
    → CarrySent e id k more → Succeeds (sent_course e id (k ∷ more) stop) e.offer.version
