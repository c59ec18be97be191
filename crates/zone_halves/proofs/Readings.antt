-- What was read of a source that holds the frames of some messages.
use Rattle.std.proofs.Common.{◌≡◌, ℕ, ◌≤◌, Bool, true, false, List, [], ◌∷◌, ◌++◌, length, length-append, append-nil, append_assoc, refl, sym, ap, ◌∙◌, subst, arith, Option, Some, None, Result, Ok, Err}
use Rattle.std.specs.List.{AllByRecursion}
use Rattle.std.proofs.lemmas.List.Sums.{sum_by-append}
use Rattle.message_frames.specs.Frames.{Cut, frames_of, first_frame, cut_frames}
use Rattle.xfr_outcomes.specs.declared.outcome.SyncOk.{SyncOk}
use Rattle.xfr_outcomes.specs.declared.outcome.SyncError.{SyncError}
use Rattle.xfr_outcomes.specs.declared.outcome.SyncError.TheVariants as why
use Rattle.zone_asking.specs.declared.limits.Limits.{Limits}
use Rattle.zone_asking.specs.declared.limits.Limit as kinds
use Rattle.zone_asking.specs.declared.errors.AskError.{AskError}
use Rattle.zone_asking.specs.declared.errors.AskError.TheVariants as ask
use Rattle.zone_asking.specs.Answers.{sync_answer}
use Rattle.zone_asking.specs.Limiting.{records_in, Within, passed}
use Rattle.zone_asking.specs.Streams.{BeginsWith, PassesLimit, LeavesBy}

-- whether an answer says that no more came
abbrev pub is_end : Result SyncOk SyncError → Bool
is_end (Err why.Ended) = true
is_end answer = false

is_ended : (e : SyncError) → is_end (Err e) ≡ true → e ≡ why.Ended
is_ended why.NoSoa h = absurd (cc h)
is_ended (why.Request x) h = absurd (cc h)
is_ended why.LinkFault h = absurd (cc h)
is_ended why.Ended h = refl
is_ended (why.Short x) h = absurd (cc h)
is_ended (why.Primary x) h = absurd (cc h)
is_ended why.TooManyMessages h = absurd (cc h)
is_ended (why.Tsig x) h = absurd (cc h)
is_ended why.OtherAnswer h = absurd (cc h)
is_ended (why.Xfr x) h = absurd (cc h)
is_ended (why.Iteration x) h = absurd (cc h)
is_ended (why.Update x) h = absurd (cc h)
is_ended why.VersionsExhausted h = absurd (cc h)
is_ended why.Memory h = absurd (cc h)

-- a first part of messages within limits is within them
within_front : (limits : Limits) (xs ys : List (List ℕ)) → Within limits (xs ++ ys) → Within limits xs
within_front limits xs ys w = record {
  replies = omega (arith, w.replies, length-append xs ys);
  octets = omega (arith, w.octets, sum_by-append length xs ys);
  records = omega (arith, w.records, sum_by-append records_in xs ys);
}

-- what was read is a first part of what was written, and what is left is cut into the rest
pub record IsFirstPart (messages read : List (List ℕ)) (rest : List ℕ) : Type 0 where
  pub joined : messages ≡ read ++ (cut_frames rest).messages
  pub left : (cut_frames rest).left ≡ []

module _ (written : (messages : List (List ℕ)) → AllByRecursion (λ m. length m ≤ 65535) messages → cut_frames (frames_of messages) ≡ record { messages = messages; left = [] })
    (cuts_none : (octets : List ℕ) → first_frame octets ≡ None → cut_frames octets ≡ record { messages = []; left = octets })
    (beyond : (limits : Limits) (before : List (List ℕ)) (m : List ℕ) (which : kinds.Limit) → passed limits before m ≡ Some which → ¬ Within limits (before ++ m ∷ [])) where
  pub first_part : (messages read : List (List ℕ)) (rest : List ℕ) → AllByRecursion (λ m. length m ≤ 65535) messages → BeginsWith read (frames_of messages) rest → IsFirstPart messages read rest
  first_part messages read rest short b =
      let w = written messages short in
      record { joined = sym (ap (λ (c : Cut). c.messages) w) ∙ b.messages; left = sym b.left ∙ ap (λ (c : Cut). c.left) w }

  -- nothing is left where no frame is
  all_of : (messages read : List (List ℕ)) (rest : List ℕ) → IsFirstPart messages read rest → rest ≡ [] → read ≡ messages
  all_of messages read rest p e =
      sym (p.joined ∙ ap (λ o. read ++ (cut_frames o).messages) e ∙ ap (λ (c : Cut). read ++ c.messages) (cuts_none [] refl) ∙ append-nil read)

  -- no whole frames end within one
  not_cut : (messages read : List (List ℕ)) (rest : List ℕ) → IsFirstPart messages read rest → ((rest ≡ []) → ⊥) → first_frame rest ≡ None → ⊥
  not_cut messages read rest p some none = some (sym (ap (λ (c : Cut). c.left) (cuts_none rest none)) ∙ p.left)

  -- no message passes a limit
  not_past : (limits : Limits) (messages read : List (List ℕ)) (rest : List ℕ) (new : Option (List ℕ)) (which : kinds.Limit) → Within limits messages → IsFirstPart messages read rest → PassesLimit limits read which (Some rest) new → ⊥
  not_past limits messages read rest None which w p l = absurd l.frame
  not_past limits messages read rest (Some behind) which w p l =
      let g : BeginsWith (l.message ∷ []) rest behind = l.frame in
      let joined : messages ≡ (read ++ l.message ∷ []) ++ (cut_frames behind).messages
      = p.joined ∙ ap (λ ms. read ++ ms) g.messages ∙ sym (append_assoc read (l.message ∷ []) (cut_frames behind).messages) in
      beyond limits read l.message which l.passes (within_front limits (read ++ l.message ∷ []) (cut_frames behind).messages (subst (Within limits) joined w))

  -- an answer that says that no more came comes only once all was read
  pub all_read : (limits : Limits) (messages read : List (List ℕ)) (rest : List ℕ) (new : Option (List ℕ)) (answer : Result SyncOk AskError) → Within limits messages → IsFirstPart messages read rest
      → LeavesBy limits read answer (Some rest) new → is_end (sync_answer answer) ≡ true → read ≡ messages
  all_read limits messages read rest new (Ok x) w p l h = absurd (cc h)
  all_read limits messages read rest new (Err (ask.Transfer e)) w p l h =
      let k : LeavesBy limits read (Err (ask.Transfer why.Ended)) (Some rest) new = subst (λ e. LeavesBy limits read (Err (ask.Transfer e)) (Some rest) new) (is_ended e h) l in
      all_of messages read rest p k.0
  all_read limits messages read rest new (Err (ask.Response c)) w p l h = absurd (cc h)
  all_read limits messages read rest new (Err ask.Cut) w p l h = absurd (not_cut messages read rest p l.0.0 l.0.1)
  all_read limits messages read rest new (Err (ask.Limit which)) w p l h = absurd (not_past limits messages read rest new which w p l)
  all_read limits messages read rest new (Err ask.FullSet) w p l h = absurd (cc h)
  all_read limits messages read rest new (Err ask.SourceFault) w p l h = absurd (cc h)
  all_read limits messages read rest new (Err ask.SinkFault) w p l h = absurd (cc h)
