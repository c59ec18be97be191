-- The updates of messages taken in turn are those that the grammar names of the records read so far.
use Rattle.std.proofs.Common.{◌≡◌, Bool, true, false, ◌&&◌, ◌||◌, ◌==◌, not, if◌then◌else◌, List, [], ◌∷◌, ◌++◌, map, length, refl, sym, ap, ◌∙◌, subst, append_assoc, append-nil, true≢false, Option, Some, None, is_some}
use Rattle.dns_rdata.specs.Records.{Record}
use Rattle.zone_model.specs.TransferText.{Mode, Axfr, Ixfr, is_soa}
use Rattle.zone_model.specs.Updates.{Update}
use Rattle.xfr_model.specs.Messages.{ReadMessage}
use Rattle.xfr_model.specs.Read.{Fault, NotValid, Malformed, Item, Good, Bad, record_item, items_unless, is_transfer_head, asks_transfer, first_record_fault, message_fault, read_by}
use Rattle.xfr_model.specs.Interpreter.{mode_asked, updates_in}
use Rattle.xfr_model.specs.Machine.{Place, AtStart, AtSecond, InWhole, InDeletes, InAdds, AtEnd, is_at_end, Run, step, first_step, run_items, Reader, new_reader, is_done, lone_serial, signal_of, reader_after, next_items, next_run, no_messages, take_messages}
use Rattle.xfr_model.proofs.InTurn.{takes_on, reads_next, finishes_as_read}
use Rattle.xfr_client.specs.Places.{is_at_second}
use Rattle.xfr_client.specs.Rest.{Rest, asks_again}
use Rattle.xfr_client.specs.Interpreting.{Interpreting, Interprets, is_over, run_from}
use Rattle.xfr_client.specs.CallsInTurn.{new_interpreter, Takes, NamesUpdates}
use Rattle.xfr_client.proofs.Places.{is_begun, step_later, begun_later, stays_later, any_mode}
use Rattle.xfr_client.proofs.FirstMessage.{has_answers}

-- ---- the first message

abbrev tested : Bool → Bool → Option Fault → Option Fault
tested h a f = if not h then Some NotValid else if not a then Some Malformed else f

head_good : (h a : Bool) (f : Option Fault) → tested h a f ≡ None → h ≡ true
head_good true a f e = refl
head_good false a f e = cc

record_good : (h a : Bool) (f : Option Fault) → tested h a f ≡ None → f ≡ None
record_good true true f e = e
record_good true false f e = cc
record_good false a f e = cc

-- records that begin with an SOA
record BeginsWithSoa (xs : List (Option Record)) : Type 0 where
  soa : Record
  others : List (Option Record)
  are : xs ≡ Some soa ∷ others
  is : is_soa soa ≡ true

begins_with : (xs : List (Option Record)) → (length xs == 0) ≡ false → first_record_fault xs ≡ None → BeginsWithSoa xs
begins_with [] n f = absurd (true≢false n)
begins_with (None ∷ more) n f = cc
begins_with (Some r ∷ more) n f = by (is_soa r) refl f
  where
    by : (b : Bool) → is_soa r ≡ b → ◌≡◌ {A = Option Fault} (if b then None else Some NotValid) None → BeginsWithSoa (Some r ∷ more)
    by true e h = record { soa = r; others = more; are = refl; is = e }
    by false e h = cc h

first_begins : (m : ReadMessage) → message_fault true m ≡ None → BeginsWithSoa m.answers
first_begins m e =
    let head : is_transfer_head true m ≡ true = head_good (is_transfer_head true m) (asks_transfer m.questions) (first_record_fault m.answers) e in
    begins_with m.answers (has_answers m head) (record_good (is_transfer_head true m) (asks_transfer m.questions) (first_record_fault m.answers) e)

-- ---- places

begun_run : (mode : Mode) (xs : List Item) (p : Place) → is_begun p ≡ true → is_begun (run_items mode p xs).place ≡ true
begun_run mode [] p h = h
begun_run mode (Good r ∷ xs) p h = begun_run mode xs (step mode p r).place (begun_later (step mode p r).place (step_later mode p r h))
begun_run mode (Bad f ∷ xs) p h = h

first_begun : (mode : Mode) (s : Record) → is_begun (first_step mode s).place ≡ true
first_begun Axfr s = refl
first_begun Ixfr s = refl

no_serial : (p : Place) → is_at_second p ≡ false → is_some (lone_serial p) ≡ is_at_second p
no_serial AtStart h = refl
no_serial (AtSecond s) h = absurd (true≢false h)
no_serial (InWhole s) h = refl
no_serial (InDeletes s) h = refl
no_serial (InAdds s) h = refl
no_serial AtEnd h = refl

soa_serial : (s : Record) → is_soa s ≡ true → is_some (lone_serial (AtSecond s)) ≡ true
soa_serial s is = rw is refl

-- a lone SOA signals exactly where the text stays at its second place
second_serial : (s : Record) (xs : List Item) → is_soa s ≡ true → is_some (lone_serial (run_items Axfr (AtSecond s) xs).place) ≡ is_at_second (run_items Axfr (AtSecond s) xs).place
second_serial s [] is = soa_serial s is
second_serial s (Bad f ∷ xs) is = soa_serial s is
second_serial s (Good r ∷ xs) is = no_serial (run_items Axfr (step Axfr (AtSecond s) r).place xs).place (stays_later xs (step Axfr (AtSecond s) r).place (step_later Axfr (AtSecond s) r refl))

first_serial : (mode : Mode) (s : Record) (xs : List Item) → is_soa s ≡ true → is_some (lone_serial (run_items mode (first_step mode s).place xs).place) ≡ is_at_second (run_items mode (first_step mode s).place xs).place
first_serial Axfr s xs is = no_serial (run_items Axfr (InWhole s) xs).place (stays_later xs (InWhole s) refl)
first_serial Ixfr s xs is = rw (any_mode Ixfr xs (AtSecond s) refl) (second_serial s xs is)

signal_first : (a : Run) → is_some (lone_serial a.place) ≡ is_at_second a.place → is_some (signal_of false a) ≡ asks_again true a
signal_first a h = by (is_some a.fault)
  where
    by : (b : Bool) → is_some (if b then None else lone_serial a.place) ≡ (not b && is_at_second a.place)
    by true = refl
    by false = h

-- ---- an interpreter and the messages that it took

abbrev rd : Mode → List ReadMessage → Reader
rd mode ms = take_messages mode message_fault new_reader ms

record Stands (mode : Mode) (ms : List ReadMessage) (i : Interpreting) (told : List Update) (f : Option Fault) : Type 0 where
  begun : i.begun ≡ true
  begun_too : (rd mode ms).begun ≡ true
  place : i.place ≡ (rd mode ms).place
  past : is_begun i.place ≡ true
  signalled : i.signalled ≡ is_some (rd mode ms).signal
  fault : (rd mode ms).fault ≡ f
  updates : told ≡ updates_in mode (read_by mode message_fault ms).records

taken : (mode : Mode) (ms : List ReadMessage) (i k : Interpreting) (m : ReadMessage) (rest : Rest) (told : List Update) → Interprets i m rest k
    → is_done (rd mode ms) ≡ false → (rd mode ms).begun ≡ i.begun → next_run mode message_fault (rd mode ms) m ≡ run_from i m → is_begun (run_from i m).place ≡ true
    → is_some (signal_of i.begun (run_from i m)) ≡ asks_again (not i.begun) (run_from i m) → told ≡ updates_in mode (read_by mode message_fault ms).records
    → Stands mode (ms ++ m ∷ []) k (told ++ rest.run.updates) rest.run.fault
taken mode ms i k m rest told t open_still begun runs past signals before =
    let old : Reader = rd mode ms in
    let a : Run = next_run mode message_fault old m in
    let new : Reader = reader_after old (next_items message_fault old.begun m) a in
    let is : rd mode (ms ++ m ∷ []) ≡ new = takes_on mode message_fault new_reader ms (m ∷ []) ∙ ap (λ b. if b then old else new) open_still in
    let ran : rest.run ≡ a = ap (λ (r : Rest). r.run) t.tells ∙ sym runs in
    record {
      begun = ap (λ (x : Interpreting). x.begun) t.stands;
      begun_too = ap (λ (r : Reader). r.begun) is;
      place = ap (λ (x : Interpreting). x.place) t.stands ∙ ap (λ (r : Run). r.place) (sym runs) ∙ ap (λ (r : Reader). r.place) (sym is);
      past = ap (λ (x : Interpreting). is_begun x.place) t.stands ∙ past;
      signalled = ap (λ (x : Interpreting). x.signalled) t.stands ∙ sym signals ∙ ap (λ b. is_some (signal_of b (run_from i m))) (sym begun)
          ∙ ap (λ r. is_some (signal_of old.begun r)) (sym runs) ∙ ap (λ (r : Reader). is_some r.signal) (sym is);
      fault = ap (λ (r : Reader). r.fault) is ∙ ap (λ (r : Run). r.fault) (sym ran);
      updates = (λ j. before j ++ (ran j).updates) ∙ sym (reads_next mode message_fault ms m open_still).told;
    }

first_taken : (m : ReadMessage) (rest : Rest) (k : Interpreting) → Interprets new_interpreter m rest k → Stands (mode_asked m.questions) (m ∷ []) k rest.run.updates rest.run.fault
first_taken m rest k t =
    let mode : Mode = mode_asked m.questions in
    let b : BeginsWithSoa m.answers = first_begins m t.faultless in
    let xs : List Item = map record_item b.others in
    let from : (run_from new_interpreter m).place ≡ (run_items mode (first_step mode b.soa).place xs).place = ap (λ l. (run_items mode AtStart (map record_item l)).place) b.are in
    let lone : is_some (lone_serial (run_from new_interpreter m).place) ≡ is_at_second (run_from new_interpreter m).place
    = ap (λ p. is_some (lone_serial p)) from ∙ first_serial mode b.soa xs b.is ∙ ap is_at_second (sym from) in
    taken mode [] new_interpreter k m rest [] t refl refl (ap (λ f. run_items mode AtStart (items_unless m.answers f)) t.faultless)
    (ap is_begun from ∙ begun_run mode xs (first_step mode b.soa).place (first_begun mode b.soa)) (signal_first (run_from new_interpreter m) lone) refl

not_over : (a b : Bool) → (a || b) ≡ false → ((a || false) || b) ≡ false
not_over true b h = h
not_over false b h = h

later_taken : (mode : Mode) (ms : List ReadMessage) (i k : Interpreting) (m : ReadMessage) (rest : Rest) (told : List Update) → Stands mode ms i told None → Interprets i m rest k
    → Stands mode (ms ++ m ∷ []) k (told ++ rest.run.updates) rest.run.fault
later_taken mode ms i k m rest told s t =
    let old : Reader = rd mode ms in
    let xs : List Item = map record_item m.answers in
    let open_still : is_done old ≡ false = (λ j. (sym s.signalled j || is_some (s.fault j)) || is_at_end (sym s.place j)) ∙ not_over i.signalled (is_at_end i.place) t.open_still in
    let faultless : message_fault (not old.begun) m ≡ None = ap (λ b. message_fault (not b) m) (s.begun_too ∙ sym s.begun) ∙ t.faultless in
    let runs : next_run mode message_fault old m ≡ run_from i m
    = ap (λ f. run_items mode old.place (items_unless m.answers f)) faultless ∙ ap (λ p. run_items mode p xs) (sym s.place)
    ∙ any_mode mode xs i.place s.past ∙ sym (any_mode (mode_asked m.questions) xs i.place s.past) in
    let signals : is_some (signal_of i.begun (run_from i m)) ≡ asks_again (not i.begun) (run_from i m)
    = ap (λ b. is_some (signal_of b (run_from i m))) s.begun ∙ sym (ap (λ b. asks_again (not b) (run_from i m)) s.begun) in
    taken mode ms i k m rest told t open_still (s.begun_too ∙ sym s.begun) runs (begun_run (mode_asked m.questions) xs i.place s.past) signals s.updates

-- ---- all of them

record Ends (mode : Mode) (ms : List ReadMessage) (j : Interpreting) (told : List Update) : Type 0 where
  updates : told ≡ updates_in mode (read_by mode message_fault ms).records
  over : is_over j ≡ (is_some (rd mode ms).signal || is_at_end (rd mode ms).place)

go : (mode : Mode) (ms more : List ReadMessage) (i j : Interpreting) (before told : List Update) (f : Option Fault) → Stands mode ms i before f → (no_messages more ≡ false → f ≡ None)
    → Takes i more told j → Ends mode (ms ++ more) j (before ++ told)
go mode ms [] i j before told f s clean t = record {
  updates = ap (λ l. before ++ l) t.0 ∙ append-nil before ∙ s.updates ∙ ap (λ l. updates_in mode (read_by mode message_fault l).records) (sym (append-nil ms));
  over = ap is_over t.1 ∙ (λ k. s.signalled k || is_at_end (s.place k)) ∙ ap (λ l. is_some (rd mode l).signal || is_at_end (rd mode l).place) (sym (append-nil ms));
}
go mode ms (m ∷ more) i j before told f s clean t =
    let now : Stands mode ms i before None = subst (Stands mode ms i before) (clean refl) s in
    let e = go mode (ms ++ m ∷ []) more t.next j (before ++ t.rest.run.updates) t.others t.rest.run.fault (later_taken mode ms i t.next m t.rest before now t.taken) t.faultless t.behind in
    let all : (ms ++ m ∷ []) ++ more ≡ ms ++ m ∷ more = append_assoc ms (m ∷ []) more in
    record {
      updates = ap (λ l. before ++ l) t.joined ∙ sym (append_assoc before t.rest.run.updates t.others) ∙ e.updates ∙ ap (λ l. updates_in mode (read_by mode message_fault l).records) all;
      over = e.over ∙ ap (λ l. is_some (rd mode l).signal || is_at_end (rd mode l).place) all;
    }

pub names_updates : NamesUpdates
names_updates [] told j t = (t.0, ap is_over t.1)
names_updates (m ∷ more) told j t =
    let e = go (mode_asked m.questions) (m ∷ []) more t.next j t.rest.run.updates t.others t.rest.run.fault (first_taken m t.rest t.next t.taken) t.faultless t.behind in
    (t.joined ∙ e.updates, e.over ∙ sym (finishes_as_read (m ∷ more)))
