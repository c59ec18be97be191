-- When a zone is asked for once again, whole (RFC 1995, 4; RFC 5936, 2.2).
use Rattle.std.specs.Prelude.{◌≡◌, ◌⊎◌, ◌||◌, ◌==◌, ◌+◌, ◌-◌, ◌^◌, ℕ, Bool, true, false, if◌then◌else◌, List, Option, Some, None, Result, Ok, Err}
use Rattle.zone_model.specs.Commits.{Commit}
use Rattle.zone_reads.specs.Session.{Session}
use Rattle.zone_model.specs.TransferText.{Mode, Axfr, Ixfr}
use Rattle.xfr_outcomes.specs.declared.protocol.IterationError.TheVariants.{SingleSoaIxfrTcpRetrySignal}
use Rattle.xfr_client.specs.SoFar.{Asking, asks_with, asked_id}
use Rattle.xfr_outcomes.specs.declared.outcome.SyncOk.{SyncOk}
use Rattle.xfr_outcomes.specs.declared.outcome.SyncError.TheVariants.{Iteration}
use Rattle.zone_asking.specs.declared.limits.Limits.{Limits}
use Rattle.zone_asking.specs.declared.errors.AskError.{AskError}
use Rattle.zone_asking.specs.declared.errors.AskError.TheVariants.{Transfer, Response}
use Rattle.zone_asking.specs.Exchanges.{Crossing, crossing, Exchanges}

-- FORMERR, NOTIMP and REFUSED: what a server answers that doesn't know or doesn't grant a question for what is newer (RFC 1035, 4.1.1)
abbrev pub refuses_ixfr : ℕ → Bool
refuses_ixfr code = (code == 1) || ((code == 4) || (code == 5))

-- The rule: what is newer was asked for, and was answered by one SOA record with another serial, or by such a code in a reply whose signature was accepted.
abbrev pub asks_again : Mode → Result SyncOk AskError → Bool
asks_again Ixfr (Err (Transfer (Iteration SingleSoaIxfrTcpRetrySignal))) = true
asks_again Ixfr (Err (Response code)) = refuses_ixfr code
asks_again mode answer = false

-- the moment of a second exchange, so that its request has another id: a second later, or a second earlier where 48 bits tell no later one
abbrev pub next_moment : ℕ → ℕ
next_moment at = if at == 2 ^ 48 - 1 then at - 1 else at + 1

-- Two exchanges over the same streams: the second one asks for the whole zone, with nothing pending, goes on where the first one ended, and passes over what
-- has the first one's id. Each has the limits for itself.
pub record ExchangesTwice (limits : Limits) (a : Asking) (x : Crossing) (before handles : List Commit) (s : Session) (answer : Result SyncOk AskError) : Type 0 where
  pub first : Result SyncOk AskError
  pub left : Option (List ℕ)
  pub taken : Option (List ℕ)
  pub made : List Commit
  pub between : Session
  pub one : Exchanges limits None a (crossing x.left_old left x.taken_old taken) before made between first
  pub again : asks_again a.mode first ≡ true
  pub settled : between.pending ≡ between.current.version
  pub two : Exchanges limits (Some (asked_id a)) (asks_with a.key Axfr (next_moment a.at) between.current) (crossing left x.left_new taken x.taken_new) made handles s answer

-- one exchange, or two exactly where the rule says so
abbrev pub ExchangesByRule : Limits → Asking → Crossing → List Commit → List Commit → Session → Result SyncOk AskError → Type 0
ExchangesByRule limits a x before handles s answer = (Exchanges limits None a x before handles s answer × (asks_again a.mode answer ≡ false)) ⊎ ExchangesTwice limits a x before handles s answer
