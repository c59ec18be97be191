-- Requests that can't be made.
use Rattle.std.proofs.Common.{◌≡◌, ℕ, refl, sym, ◌∙◌, subst, arith, inl, inr, Result, Ok, Err}
use Rattle.std.specs.Prelude.{◌≢◌, ◌⊎◌}
use Rattle.dns_wire.specs.declared.builder.PushError.TheVariants.{ShortBuf, CountOverflow}
use Rattle.dns_wire.specs.declared.builder.PushError.TheVariants as push
use Rattle.xfr_client.specs.SoFar.{Asking}
use Rattle.zone_sync.specs.LinkTransfers.{NotAsked, ComesAfter, RefusedExactly, RefusesExactly}
use Rattle.xfr_outcomes.specs.declared.outcome.SyncOk.{SyncOk}
use Rattle.xfr_outcomes.specs.declared.outcome.SyncError.{SyncError}
use Rattle.xfr_outcomes.specs.declared.outcome.SyncError.TheVariants as why

-- no request came to the link
not_asked : (a : Asking) (longest : ℕ) (answer : Result SyncOk SyncError) → NotAsked a longest answer → answer ≢ Err why.Memory → RefusedExactly a longest answer
not_asked a longest (Err why.NoSoa) h other = record { soa = (λ e. h, λ k. refl); too_long = λ s. absurd (cc (sym h ∙ s)) }
not_asked a longest (Err (why.Request ShortBuf)) h other = record { soa = (λ e. absurd (cc e), λ k. absurd (cc (sym h.0 ∙ k))); too_long = λ s. (λ e. h.1, λ long. refl) }
not_asked a longest (Err why.LinkFault) h other = record {
  soa = (λ e. absurd (cc e), λ k. absurd (cc (sym h.soa ∙ k)));
  too_long = λ s. (λ e. absurd (cc e), λ long. let fits = h.fits in absurd (omega (arith, fits, long)));
}
not_asked a longest (Err why.Memory) h other = absurd (other refl)
not_asked a longest (Ok x) h other = absurd h
not_asked a longest (Err (why.Request CountOverflow)) h other = absurd h
not_asked a longest (Err (why.Request push.Memory)) h other = absurd h
not_asked a longest (Err why.Ended) h other = absurd h
not_asked a longest (Err (why.Short x)) h other = absurd h
not_asked a longest (Err (why.Primary x)) h other = absurd h
not_asked a longest (Err why.TooManyMessages) h other = absurd h
not_asked a longest (Err (why.Tsig x)) h other = absurd h
not_asked a longest (Err why.OtherAnswer) h other = absurd h
not_asked a longest (Err (why.Xfr x)) h other = absurd h
not_asked a longest (Err (why.Iteration x)) h other = absurd h
not_asked a longest (Err (why.Update x)) h other = absurd h
not_asked a longest (Err why.VersionsExhausted) h other = absurd h

pub refuses_exactly : RefusesExactly
refuses_exactly a longest asked heard answer (inl (can, after, is)) other = record {
  soa = (λ e. absurd (subst ComesAfter e after), λ k. absurd (cc (sym can.soa ∙ k)));
  too_long = λ s. (λ e. absurd (subst ComesAfter e after), λ long. let fits = can.fits in absurd (omega (arith, fits, long)));
}
refuses_exactly a longest asked heard answer (inr (cause, none, silent)) other = not_asked a longest answer cause other
