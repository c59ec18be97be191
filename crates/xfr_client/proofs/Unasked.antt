-- A transfer in which no reply was taken.
use Rattle.std.proofs.Common.{◌≡◌, List, [], append-nil, refl, sym, arith, inl, Err}
use Rattle.xfr_services.specs.declared.services.ServiceError.TheVariants as service
use Rattle.dns_wire.specs.declared.builder.PushError.TheVariants.{ShortBuf, CountOverflow}
use Rattle.dns_wire.specs.declared.builder.PushError.TheVariants as push
use Rattle.zone_model.specs.Commits.{Commit}
use Rattle.zone_reads.specs.Session.{Session}
use Rattle.xfr_course.specs.Outcome.{Outcome, NoSoa, Ended, LinkFault, Short, Primary, RequestTooLong}
use Rattle.xfr_client.specs.SoFar.{Asking, course_so_far, fault_so_far, client_so_far}
use Rattle.xfr_client.specs.Steps.{HasMade}
use Rattle.xfr_client.specs.Transfers.{Transfers}
use Rattle.xfr_outcomes.specs.declared.outcome.SyncError.{SyncError}
use Rattle.xfr_outcomes.specs.declared.outcome.SyncError.TheVariants as why
use Rattle.xfr_client.proofs.Standings.{none_passed}
use Rattle.xfr_client.proofs.Outcomes.{stop_few}
use Rattle.xfr_client.proofs.Replying.{Amounts, amounts, comes_to}

pub none_done : (a : Asking) (gave : Outcome) → Amounts (course_so_far a [] gave) gave []
unfolding client_so_far
none_done a gave = amounts a [] gave gave gave (none_passed (fault_so_far a)) (omega (arith)) (stop_few gave [] refl (omega (arith))) refl

abbrev pub EndsBefore : SyncError → Type 0
EndsBefore why.Memory = Unit {0}
EndsBefore why.NoSoa = Unit {0}
EndsBefore (why.Request ShortBuf) = Unit {0}
EndsBefore why.LinkFault = Unit {0}
EndsBefore why.Ended = Unit {0}
EndsBefore (why.Short x) = Unit {0}
EndsBefore (why.Primary service.InternalError) = Unit {0}
EndsBefore e = ⊥

pub ends_before : (a : Asking) (s : Session) (before handles : List Commit) (e : SyncError) → EndsBefore e → HasMade a.base before s handles [] → Transfers a [] before handles s (Err e)
ends_before a s before handles why.Memory x m = record { versions = []; spelt = record { rest = []; is = (none_done a Ended).made }; made = m; answers = inl refl }
ends_before a s before handles why.NoSoa x m = comes_to a [] before handles s (Err why.NoSoa) NoSoa [] (none_done a NoSoa) refl m
ends_before a s before handles (why.Request ShortBuf) x m = comes_to a [] before handles s (Err (why.Request ShortBuf)) RequestTooLong [] (none_done a RequestTooLong) refl m
ends_before a s before handles why.LinkFault x m = comes_to a [] before handles s (Err why.LinkFault) LinkFault [] (none_done a LinkFault) refl m
ends_before a s before handles why.Ended x m = comes_to a [] before handles s (Err why.Ended) Ended [] (none_done a Ended) refl m
ends_before a s before handles (why.Short e) x m = comes_to a [] before handles s (Err (why.Short e)) Short [] (none_done a Short) refl m
ends_before a s before handles (why.Primary service.InternalError) x m = comes_to a [] before handles s (Err (why.Primary service.InternalError)) Primary [] (none_done a Primary) refl m
ends_before a s before handles (why.Request CountOverflow) x m = absurd x
ends_before a s before handles (why.Request push.Memory) x m = absurd x
ends_before a s before handles (why.Primary service.Memory) x m = absurd x
ends_before a s before handles why.TooManyMessages x m = absurd x
ends_before a s before handles (why.Tsig e) x m = absurd x
ends_before a s before handles why.OtherAnswer x m = absurd x
ends_before a s before handles (why.Xfr e) x m = absurd x
ends_before a s before handles (why.Iteration e) x m = absurd x
ends_before a s before handles (why.Update e) x m = absurd x
ends_before a s before handles why.VersionsExhausted x m = absurd x

pub at_rest : (a : Asking) (s : Session) (before : List Commit) → s.current ≡ a.base → HasMade a.base before s before []
at_rest a s before h = record { current = h; behind = sym (append-nil before) }
