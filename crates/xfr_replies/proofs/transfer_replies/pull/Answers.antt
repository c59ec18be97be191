use Rattle.std.proofs.Common.{◌≡◌, Some, None, drop, sym, ap, ◌∙◌, subst, slice_get, List, [], ◌∷◌}
use Rattle.dns_rdata.specs.Records.{Record}
use Rattle.xfr_batch.specs.Batches.{Batching}
use Rattle.xfr_batch.specs.ReadyMessages.{Kept}
use Rattle.xfr_services.specs.Items.{Sending}
use Rattle.xfr_replies.specs.PulledStreams.{Continues}
use Rattle.xfr_replies.proofs.Pulling.{at_first, at_end, pushed, full, limited, lacks, last, too_long, ended, no_more_left}
use Rattle.xfr_replies.proofs.transfer_replies.pull.Goals as goal

-- what is left, by the text's first record
by_first : (b : Batching Kept) (xs : List Record) (r : Record) (items : List Sending) → Some r ≡ slice_get xs 0 → Continues b xs items → Continues b (r ∷ drop 1 xs) items
by_first b xs r items first k = subst (λ ys. Continues b ys items) (at_first xs r (sym first)) k

pub records-preserved : goal.records-preserved
records-preserved c = record {
  item = λ items left.
      let k = by_first c.records.batcher c.records.text.records c.in-Some.record items c.in-Some.ensures (c.records.invariant.item items left) in
      let tries = rw c.in-Ok-PushedAndReadyForMore.field-0-is at (c.in-Ok-PushedAndReadyForMore.ensures.tries k.begun k.message) in
      rw c.advance.ensures
      (pushed c.records.batcher c.try_push.new.self c.try_push.ensures.kept c.in-Some.record (drop 1 c.records.text.records) items k tries);
  progress =
      rw c.advance.ensures
      (no_more_left c.records.batcher c.try_push.new.self c.records.text.records c.in-Some.record _ (sym c.in-Some.ensures) c.records.invariant.progress);
}

pub returns-in-Ok-PushedAndLimitReached-clause-item : goal.returns-in-Ok-PushedAndLimitReached-clause-item
returns-in-Ok-PushedAndLimitReached-clause-item c = λ items left.
    let k = by_first c.records.batcher c.records.text.records c.in-Some.record items c.in-Some.ensures (c.records.invariant.item items left) in
    let tries = rw c.in-Ok-PushedAndLimitReached.field-0-is at (c.in-Ok-PushedAndLimitReached.ensures.tries k.begun k.message) in
    rw c.advance-in-Ok-PushedAndLimitReached.ensures
    (limited c.records.batcher c.try_push.new.self c.try_push.ensures.kept c.in-Some.record (drop 1 c.records.text.records) items c.in-Ok-PushedAndLimitReached.answer k tries)

pub returns-in-Ok-NotPushedMessageFull-clause-item : goal.returns-in-Ok-NotPushedMessageFull-clause-item
returns-in-Ok-NotPushedMessageFull-clause-item c = λ items left.
    let k = by_first c.records.batcher c.records.text.records c.in-Some.record items c.in-Some.ensures (c.records.invariant.item items left) in
    let tries = rw c.in-Ok-NotPushedMessageFull.field-0-is at (c.in-Ok-NotPushedMessageFull.ensures.tries k.begun k.message) in
    let f = full c.records.batcher c.try_push.new.self c.try_push.ensures.kept c.in-Some.record (drop 1 c.records.text.records) items c.in-Ok-NotPushedMessageFull.answer k tries in
    (f.0, f.1, subst (λ xs. Continues c.try_push.new.self xs f.0) (sym (at_first c.records.text.records c.in-Some.record (sym c.in-Some.ensures))) f.2)

pub returns-in-Err-ShortBuf-clause-item : goal.returns-in-Err-ShortBuf-clause-item
returns-in-Err-ShortBuf-clause-item c = λ items left.
    let k = by_first c.records.batcher c.records.text.records c.in-Some.record items c.in-Some.ensures (c.records.invariant.item items left) in
    let tries = rw c.in-Err-ShortBuf.field-0-is at (c.in-Err-ShortBuf.ensures.tries k.begun k.message) in
    rw c.try_push.ensures.kept (too_long c.records.batcher c.in-Some.record (drop 1 c.records.text.records) items c.try_push.new.self.answer k tries)

pub returns-in-Err-CountOverflow-clause-item : goal.returns-in-Err-CountOverflow-clause-item
returns-in-Err-CountOverflow-clause-item c = λ items left.
    let k = by_first c.records.batcher c.records.text.records c.in-Some.record items c.in-Some.ensures (c.records.invariant.item items left) in
    absurd (rw c.in-Err-CountOverflow.field-0-is at (c.in-Err-CountOverflow.ensures.tries k.begun k.message))

pub returns-in-Ok-Retry-clause-item : goal.returns-in-Ok-Retry-clause-item
returns-in-Ok-Retry-clause-item c = λ items left.
    let k = by_first c.records.batcher c.records.text.records c.in-Some.record items c.in-Some.ensures (c.records.invariant.item items left) in
    absurd (rw c.in-Ok-Retry.field-0-is at (c.in-Ok-Retry.ensures.tries k.begun k.message))

pub returns-in-Err-Memory-clause-item : goal.returns-in-Err-Memory-clause-item
returns-in-Err-Memory-clause-item c = λ items left.
    let xs = c.records.text.records in
    let k = by_first c.records.batcher xs c.in-Some.record items c.in-Some.ensures (c.records.invariant.item items left) in
    let tries = rw c.in-Err-Memory.field-0-is at (c.in-Err-Memory.ensures.tries k.begun k.message) in
    lacks c.records.batcher c.try_push.new.self c.try_push.ensures.kept c.in-Some.record xs (drop 1 xs) items (at_first xs c.in-Some.record (sym c.in-Some.ensures)) k tries

-- what is left, where the text is at its end
by_none : (b : Batching Kept) (xs : List Record) (items : List Sending) → slice_get xs 0 ≡ None → Continues b xs items → Continues b [] items
by_none b xs items none k = subst (λ ys. Continues b ys items) (at_end xs none) k

pub returns-in-Some-take_answer-clause-item : goal.returns-in-Some-take_answer-clause-item
returns-in-Some-take_answer-clause-item c = λ items left.
    let old = c.records.batcher in
    let new = c.take_answer.new.self in
    let none = sym c.next.ensures ∙ c.in_default.is in
    let closed : new.answer ≡ None = ap (λ (b : Batching Kept). b.answer) c.take_answer.ensures.after in
    let kept = c.take_answer.ensures.after ∙ ap (λ a. record old { answer = a }) (sym closed) in
    let k = by_none old c.records.text.records items none (c.records.invariant.item items left) in
    let l = last old new kept c.in-Some-take_answer.answer items k (sym c.take_answer.ensures.taken ∙ c.in-Some-take_answer.is) closed in
    (l.0, l.1, subst (λ xs. Continues new xs l.0) (sym (at_end c.records.text.records none)) l.2)

pub returns-in-None-clause-item : goal.returns-in-None-clause-item
returns-in-None-clause-item c = λ items left.
    let none = sym c.next.ensures ∙ c.in_default.is in
    ended c.records.batcher items (by_none c.records.batcher c.records.text.records items none (c.records.invariant.item items left)) (sym c.take_answer.ensures.taken ∙ c.in-None.is)
