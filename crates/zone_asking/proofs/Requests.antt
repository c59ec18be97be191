-- A request, and the exchange from there on.
use Rattle.std.proofs.Common.{◌≡◌, ℕ, ◌<◌, true, false, List, [], take, refl, sym, ap, ◌∙◌, subst, inl, inr, Option, Some, None, IsSome, Result, Ok, Err}
use Rattle.dns_wire.specs.declared.builder.PushError.TheVariants as push
use Rattle.zone_model.specs.Commits.{Commit}
use Rattle.zone_reads.specs.Session.{Session, rolled_back}
use Rattle.zone_devices.specs.Streams.{with_more}
use Rattle.message_frames.specs.Frames.{frame_of}
use Rattle.xfr_client.specs.SoFar.{Asking, asked_octets, CanAsk, CantAsk}
use Rattle.xfr_client.specs.Standing.{ClientState, Stands}
use Rattle.xfr_outcomes.specs.declared.outcome.SyncOk.{SyncOk}
use Rattle.xfr_outcomes.specs.declared.outcome.SyncError.{SyncError}
use Rattle.xfr_outcomes.specs.declared.outcome.SyncError.TheVariants as why
use Rattle.xfr_client.proofs.Clients.{made_rolled}
use Rattle.xfr_client.proofs.Unasked.{ends_before, at_rest}
use Rattle.zone_asking.specs.declared.limits.Limits.{Limits}
use Rattle.zone_asking.specs.declared.errors.AskError.{AskError}
use Rattle.zone_asking.specs.declared.errors.AskError.TheVariants.{Transfer, SinkFault}
use Rattle.zone_asking.specs.Exchanges.{crossing, EndsSo, Crossing, Exchanges}
use Rattle.zone_asking.proofs.Streams.{begins, reads_to, takes_none}
use Rattle.zone_asking.proofs.Rooms.{sets_rolled, full_rolled}

-- it can't be made
pub not_made : (limits : Limits) (over : Option ℕ) (a : Asking) (left sink : Option (List ℕ)) (before : List Commit) (s : Session) (e : SyncError) → CantAsk a 65535 e → s.current ≡ a.base → Exchanges limits over a (crossing left left sink sink) before before s (Err (Transfer e))
not_made limits over a left sink before s why.NoSoa h c = record {
  replies = [];
  asks = inl (record { cause = h; unread = refl; unwritten = refl; none = refl });
  reads = reads_to limits over [] left left left limits (Err (Transfer why.NoSoa)) (begins limits over left) refl;
  transfers = ends_before a s before before why.NoSoa tt (at_rest a s before c);
  sets = inl tt;
  full = λ k. absurd (cc k);
  short = λ x k. absurd (cc k);
  code = tt;
}
not_made limits over a left sink before s (why.Request push.ShortBuf) h c = record {
  replies = [];
  asks = inl (record { cause = h; unread = refl; unwritten = refl; none = refl });
  reads = reads_to limits over [] left left left limits (Err (Transfer (why.Request push.ShortBuf))) (begins limits over left) refl;
  transfers = ends_before a s before before (why.Request push.ShortBuf) tt (at_rest a s before c);
  sets = inl tt;
  full = λ k. absurd (cc k);
  short = λ x k. absurd (cc k);
  code = tt;
}
not_made limits over a left sink before s why.Memory h c = record {
  replies = [];
  asks = inl (record { cause = h; unread = refl; unwritten = refl; none = refl });
  reads = reads_to limits over [] left left left limits (Err (Transfer why.Memory)) (begins limits over left) (takes_none left);
  transfers = ends_before a s before before why.Memory tt (at_rest a s before c);
  sets = inl tt;
  full = λ k. absurd (cc k);
  short = λ x k. absurd (cc k);
  code = tt;
}
not_made limits over a left sink before s (why.Request push.CountOverflow) h c = absurd h
not_made limits over a left sink before s (why.Request push.Memory) h c = absurd h
not_made limits over a left sink before s why.LinkFault h c = absurd h
not_made limits over a left sink before s why.Ended h c = absurd h
not_made limits over a left sink before s (why.Short x) h c = absurd h
not_made limits over a left sink before s (why.Primary x) h c = absurd h
not_made limits over a left sink before s why.TooManyMessages h c = absurd h
not_made limits over a left sink before s (why.Tsig x) h c = absurd h
not_made limits over a left sink before s why.OtherAnswer h c = absurd h
not_made limits over a left sink before s (why.Xfr x) h c = absurd h
not_made limits over a left sink before s (why.Iteration x) h c = absurd h
not_made limits over a left sink before s (why.Update x) h c = absurd h
not_made limits over a left sink before s why.VersionsExhausted h c = absurd h

-- the sink fails
not_sent_so : (limits : Limits) (over : Option ℕ) (a : Asking) (left old new : Option (List ℕ)) (before : List Commit) (s : Session) (m : List ℕ) (n : ℕ) → CanAsk a 65535 → m ≡ asked_octets a → new ≡ with_more (take n (frame_of m)) old → s.current ≡ a.base
    → Exchanges limits over a (crossing left left old new) before before s (Err SinkFault)
not_sent_so limits over a left old new before s m n can is part c = record {
  replies = [];
  asks = inr (inl (record { can = can; failed = refl; unread = refl; count = n; part = part ∙ ap (λ l. with_more (take n (frame_of l)) old) is; none = refl }));
  reads = reads_to limits over [] left left left limits (Err SinkFault) (begins limits over left) refl;
  transfers = ends_before a s before before why.LinkFault tt (at_rest a s before c);
  sets = inl tt;
  full = λ k. absurd (cc k);
  short = λ x k. absurd (cc k);
  code = tt;
}

pub not_sent : (limits : Limits) (over : Option ℕ) (a : Asking) (left old new : Option (List ℕ)) (before : List Commit) (s : Session) (m : List ℕ) (n : ℕ) (e : AskError) → CanAsk a 65535 → m ≡ asked_octets a → new ≡ with_more (take n (frame_of m)) old → s.current ≡ a.base → e ≡ SinkFault
    → Exchanges limits over a (crossing left left old new) before before s (Err e)
not_sent limits over a left old new before s m n e can is part c fault =
    subst (λ (x : AskError). Exchanges limits over a (crossing left left old new) before before s (Err x)) (sym fault) (not_sent_so limits over a left old new before s m n can is part c)

-- the replies come
pub replied : (limits : Limits) (over : Option ℕ) (a : Asking) (left later old new : Option (List ℕ)) (before handles : List Commit) (s : Session) (m : List ℕ) (answer : Result SyncOk AskError) → CanAsk a 65535 → m ≡ asked_octets a → new ≡ with_more (frame_of m) old
    → EndsSo limits over a left later before handles s answer → Exchanges limits over a (crossing left later old new) before handles s answer
replied limits over a left later old new before handles s m answer can is took k = record {
  replies = k.replies;
  asks = inr (inr (record { can = can; later = k.later; frame = took ∙ ap (λ l. with_more (frame_of l) old) is }));
  reads = k.reads;
  transfers = k.transfers;
  sets = k.sets;
  full = k.full;
  short = k.short;
  code = k.code;
}

-- a rollback at the end changes nothing of it
pub rolled_exchanges : (limits : Limits) (over : Option ℕ) (a : Asking) (x : Crossing) (before handles : List Commit) (s t : Session) (answer : Result SyncOk AskError) → s ≡ rolled_back t → Exchanges limits over a x before handles t answer → Exchanges limits over a x before handles s answer
rolled_exchanges limits over a x before handles s t answer e k = record {
  replies = k.replies;
  asks = k.asks;
  reads = k.reads;
  transfers = record { versions = k.transfers.versions; spelt = k.transfers.spelt; made = made_rolled a.base before handles s t k.transfers.versions e k.transfers.made; answers = k.transfers.answers };
  sets = sets_rolled limits.set_records a k.replies before handles s t e k.sets;
  full = λ h. full_rolled limits.set_records a k.replies before handles s t e (k.full h);
  short = k.short;
  code = k.code;
}

pub under_way : (a : Asking) (c : ClientState) (s : Session) (before handles : List Commit) → Stands c s a [] before handles → IsSome c.exchange
under_way a c s before handles st = subst IsSome (sym st.under_way) refl

-- the same exchange of a session that is told otherwise
pub exchanges_at : (limits : Limits) (over : Option ℕ) (a : Asking) (x : Crossing) (before handles : List Commit) (s t : Session) (answer : Result SyncOk AskError) → Exchanges limits over a x before handles s answer → s ≡ t → Exchanges limits over a x before handles t answer
exchanges_at limits over a x before handles s t answer k e = subst (λ (u : Session). Exchanges limits over a x before handles u answer) e k
