-- A reader that takes messages: its items, what it has read, and the retry signal.
use Rattle.std.proofs.Common.{◌≡◌, ℕ, Bool, true, false, ◌||◌, if◌then◌else◌, List, [], ◌∷◌, ◌++◌, map, flat_map, find, refl, sym, ap, ◌∙◌, append_assoc, append-nil, Option, Some, None, is_some, unwrap_or}
use Rattle.std.specs.Prelude.{cond}
use Rattle.std.specs.Option.{option_or, option_map}
use Rattle.dns_rdata.specs.Records.{Record}
use Rattle.xfr_model.specs.Messages.{ReadMessage}
use Rattle.zone_model.specs.TransferText.{Mode, Axfr, Ixfr, is_soa, is_same_soa}
use Rattle.zone_model.specs.Updates.{Finished, BeginBatchDelete, BeginBatchAdd, AddRecord, DeleteRecord, DeleteAllRecords}
use Rattle.xfr_model.specs.Interpreter.{updates_in}
use Rattle.xfr_model.specs.Read.{Fault, Item, Good, Bad, record_item, items_unless, items_of, good_records, first_fault, end_of, prefixes, after_end, read_items, lone_soa, retry}
use Rattle.xfr_model.specs.Machine.{Place, AtStart, AtSecond, InWhole, InDeletes, InAdds, AtEnd, is_at_end, Run, went, step, then_run, run, end_or_batch, run_items, Reader, is_done, lone_serial, signal_of, reader_after, next_items, take_messages, ReaderSays}
use Rattle.xfr_model.proofs.Runs.{runs_text, then_run-assoc}

-- Items.

-- a run of items is one of their records, and then their fault
abbrev pub stopped : Place → Option Fault → Run
stopped p f = record { place = p; updates = []; fault = f }

pub items_run : (mode : Mode) (p : Place) (xs : List Item) → run_items mode p xs ≡ then_run (run mode p (good_records xs)) (stopped (run mode p (good_records xs)).place (first_fault xs))
items_run mode p [] = refl
items_run mode p (Good r ∷ more) =
    let q : Place = (step mode p r).place in
    ap (then_run (step mode p r)) (items_run mode q more) ∙ sym (then_run-assoc (step mode p r) (run mode q (good_records more)) (stopped (run mode q (good_records more)).place (first_fault more)))
items_run mode p (Bad f ∷ more) = refl

-- what a run from the start says, as the definitions read the items
pub record RunReads (mode : Mode) (xs : List Item) : Type 0 where
  pub updates : (run_items mode AtStart xs).updates ≡ updates_in mode (good_records xs)
  pub ended : is_at_end (run_items mode AtStart xs).place ≡ is_some (end_of mode (good_records xs))
  pub fault : (run_items mode AtStart xs).fault ≡ option_or (after_end (end_of mode (good_records xs))) (first_fault xs)

-- a run of records from the start
pub record StartReads (mode : Mode) (rs : List Record) : Type 0 where
  pub updates : (run mode AtStart rs).updates ≡ updates_in mode rs
  pub ended : is_at_end (run mode AtStart rs).place ≡ is_some (end_of mode rs)
  pub fault : (run mode AtStart rs).fault ≡ after_end (end_of mode rs)

pub start_reads : (mode : Mode) (rs : List Record) → StartReads mode rs
start_reads mode [] = record { updates = refl; ended = refl; fault = refl }
start_reads mode (s ∷ more) = let r = runs_text mode s more in record { updates = r.updates; ended = r.ended; fault = r.fault }

pub run_reads : (mode : Mode) (xs : List Item) → RunReads mode xs
run_reads mode xs =
    let s = start_reads mode (good_records xs) in
    let e = items_run mode AtStart xs in
    record {
      updates = ap (λ a. a.updates) e ∙ append-nil (run mode AtStart (good_records xs)).updates ∙ s.updates;
      ended = ap (λ a. is_at_end a.place) e ∙ s.ended;
      fault = ap (λ a. a.fault) e ∙ ap (λ f. option_or f (first_fault xs)) s.fault;
    }

-- items after items without a fault
pub run-append : (mode : Mode) (p : Place) (xs ys : List Item) → first_fault xs ≡ None → run_items mode p (xs ++ ys) ≡ then_run (run_items mode p xs) (run_items mode (run_items mode p xs).place ys)
run-append mode p [] ys h = refl
run-append mode p (Good r ∷ more) ys h =
    let q : Place = (step mode p r).place in
    ap (then_run (step mode p r)) (run-append mode q more ys h) ∙ sym (then_run-assoc (step mode p r) (run_items mode q more) (run_items mode (run_items mode q more).place ys))
run-append mode p (Bad f ∷ more) ys h = cc

pub good-append : (xs ys : List Item) → first_fault xs ≡ None → good_records (xs ++ ys) ≡ good_records xs ++ good_records ys
good-append [] ys h = refl
good-append (Good r ∷ more) ys h = ap (λ l. r ∷ l) (good-append more ys h)
good-append (Bad f ∷ more) ys h = cc

-- items after a fault aren't read
pub run-stopped : (mode : Mode) (p : Place) (xs ys : List Item) (f : Fault) → first_fault xs ≡ Some f → run_items mode p (xs ++ ys) ≡ run_items mode p xs
run-stopped mode p [] ys f h = cc
run-stopped mode p (Good r ∷ more) ys f h = ap (then_run (step mode p r)) (run-stopped mode (step mode p r).place more ys f h)
run-stopped mode p (Bad g ∷ more) ys f h = refl

pub good-stopped : (xs ys : List Item) (f : Fault) → first_fault xs ≡ Some f → good_records (xs ++ ys) ≡ good_records xs
good-stopped [] ys f h = cc
good-stopped (Good r ∷ more) ys f h = ap (λ l. r ∷ l) (good-stopped more ys f h)
good-stopped (Bad g ∷ more) ys f h = refl

-- Readers.

-- the reader that has taken these items
abbrev pub reader_at : List Record → Run → Reader
reader_at rs a = record { begun = true; place = a.place; told = a.updates; records = rs; fault = a.fault; signal = None }

abbrev pub reader_of : Mode → List Item → Reader
reader_of mode xs = reader_at (good_records xs) (run_items mode AtStart xs)

pub reader_says : (mode : Mode) (xs : List Item) → ReaderSays mode (reader_of mode xs) (read_items mode xs)
reader_says mode xs = let r = run_reads mode xs in record { records = refl; ended = r.ended; fault = r.fault; told = r.updates }

-- a reader that is done takes no message
pub done_stays : (mode : Mode) (fault_of : Bool → ReadMessage → Option Fault) (rd : Reader) (ms : List ReadMessage) → is_done rd ≡ true → take_messages mode fault_of rd ms ≡ rd
done_stays mode fault_of rd [] h = refl
done_stays mode fault_of rd (m ∷ more) h =
    ap (λ b. take_messages mode fault_of (if b then rd else reader_after rd (next_items fault_of rd.begun m) (run_items mode rd.place (next_items fault_of rd.begun m))) more) h ∙ done_stays mode fault_of rd more h

-- the first of images that passes
pub find-map : {X Y : Type 0} (P : Y → Bool) (Q : X → Bool) (f : X → Y) → ((x : X) → P (f x) ≡ Q x) → (xs : List X) → find P (map f xs) ≡ option_map f (find Q xs)
find-map P Q f h [] = refl
find-map P Q f h (x ∷ xs) =
    ap (λ b. cond b (Some (f x)) (find P (map f xs))) (h x)
    ∙ ap (λ o. cond (Q x) (Some (f x)) o) (find-map P Q f h xs)
    ∙ elim (Q x) as (λ b. cond b (Some (f x)) (option_map f (find Q xs)) ≡ option_map f (cond b (Some x) (find Q xs))) [
      | true ↦ refl
      | false ↦ refl
    ]

pub or_more : {A : Type 0} (m : A) (more : List A) (o : Option (List A)) → unwrap_or (option_map (λ p. m ∷ p) o) (m ∷ more) ≡ m ∷ unwrap_or o more
or_more m more None = refl
or_more m more (Some p) = refl

-- later messages, after the items of earlier ones
abbrev pub later : (Bool → ReadMessage → Option Fault) → List ReadMessage → List Item
later fault_of ms = flat_map (items_of (fault_of false)) ms

abbrev pub ends : Mode → List Item → Bool
ends mode xs = is_some (end_of mode (good_records xs))

-- the later messages up to the one in which the text ends
abbrev pub read_behind : Mode → (Bool → ReadMessage → Option Fault) → List Item → List ReadMessage → List ReadMessage
read_behind mode fault_of acc ms = unwrap_or (find (λ p. ends mode (acc ++ later fault_of p)) (prefixes ms)) ms

-- nothing more, where the text has ended
pub behind_end : (mode : Mode) (fault_of : Bool → ReadMessage → Option Fault) (acc : List Item) (m : ReadMessage) (more : List ReadMessage) → ends mode acc ≡ true → read_behind mode fault_of acc (m ∷ more) ≡ []
behind_end mode fault_of acc m more h =
    ap (λ b. unwrap_or (cond b (Some []) (find (λ p. ends mode (acc ++ later fault_of p)) (map (λ p. m ∷ p) (prefixes more)))) (m ∷ more)) (ap (ends mode) (append-nil acc) ∙ h)

-- one more, where it hasn't
pub behind_more : (mode : Mode) (fault_of : Bool → ReadMessage → Option Fault) (acc : List Item) (m : ReadMessage) (more : List ReadMessage) → ends mode acc ≡ false
    → read_behind mode fault_of acc (m ∷ more) ≡ m ∷ read_behind mode fault_of (acc ++ items_of (fault_of false) m) more
behind_more mode fault_of acc m more h =
    let its : List Item = items_of (fault_of false) m in
    ap (λ b. unwrap_or (cond b (Some []) (find (λ p. ends mode (acc ++ later fault_of p)) (map (λ p. m ∷ p) (prefixes more)))) (m ∷ more)) (ap (ends mode) (append-nil acc) ∙ h)
    ∙ ap (λ o. unwrap_or o (m ∷ more)) (find-map (λ p. ends mode (acc ++ later fault_of p)) (λ p. ends mode ((acc ++ its) ++ later fault_of p)) (λ p. m ∷ p) (λ p. ap (ends mode) (sym (append_assoc acc its (later fault_of p)))) (prefixes more))
    ∙ or_more m more (find (λ p. ends mode ((acc ++ its) ++ later fault_of p)) (prefixes more))

pub behind_nothing : (mode : Mode) (fault_of : Bool → ReadMessage → Option Fault) (acc : List Item) → read_behind mode fault_of acc [] ≡ []
behind_nothing mode fault_of acc =
    elim (ends mode (acc ++ [])) as (λ b. unwrap_or {T = List ReadMessage} (cond b (Some []) None) [] ≡ []) [
      | true ↦ refl
      | false ↦ refl
    ]

-- a text that hasn't ended, and items without a fault
pub not_some : {A : Type 0} (o : Option A) → is_some o ≡ false → o ≡ None
not_some None h = refl
not_some (Some x) h = cc

pub fault_is : (mode : Mode) (acc : List Item) → ends mode acc ≡ false → (run_items mode AtStart acc).fault ≡ first_fault acc
fault_is mode acc h = (run_reads mode acc).fault ∙ ap (λ o. option_or (after_end o) (first_fault acc)) (not_some (end_of mode (good_records acc)) h)

-- what one message more makes of a reader
pub next_reader : (mode : Mode) (acc its : List Item) → ends mode acc ≡ false → first_fault acc ≡ None → reader_after (reader_of mode acc) its (run_items mode (run_items mode AtStart acc).place its) ≡ reader_of mode (acc ++ its)
next_reader mode acc its e h =
    let a : Run = run_items mode AtStart acc in
    let b : Run = run_items mode a.place its in
    let rs : List Record = good_records acc ++ good_records its in
    ap (λ f. reader_at rs (record { place = b.place; updates = a.updates ++ b.updates; fault = option_or f b.fault })) (sym (fault_is mode acc e ∙ h))
    ∙ ap (reader_at rs) (sym (run-append mode AtStart acc its h))
    ∙ ap (λ l. reader_at l (run_items mode AtStart (acc ++ its))) (sym (good-append acc its h))

-- a reader isn't done where the text hasn't ended and no fault stands
pub goes_on : (mode : Mode) (acc : List Item) → ends mode acc ≡ false → first_fault acc ≡ None → is_done (reader_of mode acc) ≡ false
goes_on mode acc e h = ap (λ f. is_some f || is_at_end (run_items mode AtStart acc).place) (fault_is mode acc e ∙ h) ∙ (run_reads mode acc).ended ∙ e

pub ended_done : (mode : Mode) (acc : List Item) → ends mode acc ≡ true → is_done (reader_of mode acc) ≡ true
ended_done mode acc e = by (is_some (run_items mode AtStart acc).fault) ((run_reads mode acc).ended ∙ e)
  where
    by : (b : Bool) → is_at_end (run_items mode AtStart acc).place ≡ true → (b || is_at_end (run_items mode AtStart acc).place) ≡ true
    by true h = refl
    by false h = h

pub fault_done : (mode : Mode) (acc : List Item) (f : Fault) → ends mode acc ≡ false → first_fault acc ≡ Some f → is_done (reader_of mode acc) ≡ true
fault_done mode acc f e h = ap (λ g. is_some g || is_at_end (run_items mode AtStart acc).place) (fault_is mode acc e ∙ h)

-- items after a fault change no reader
pub fault_stays : (mode : Mode) (acc ys : List Item) (f : Fault) → first_fault acc ≡ Some f → reader_of mode (acc ++ ys) ≡ reader_of mode acc
fault_stays mode acc ys f h = ap (λ a. reader_at (good_records (acc ++ ys)) a) (run-stopped mode AtStart acc ys f h) ∙ ap (λ l. reader_at l (run_items mode AtStart acc)) (good-stopped acc ys f h)

-- later messages in turn
pub takes_later : (mode : Mode) (fault_of : Bool → ReadMessage → Option Fault) (ms : List ReadMessage) (acc : List Item) → take_messages mode fault_of (reader_of mode acc) ms ≡ reader_of mode (acc ++ later fault_of (read_behind mode fault_of acc ms))
takes_later mode fault_of [] acc = ap (reader_of mode) (sym (append-nil acc)) ∙ ap (λ p. reader_of mode (acc ++ later fault_of p)) (sym (behind_nothing mode fault_of acc))
takes_later mode fault_of (m ∷ more) acc = by (ends mode acc) (first_fault acc) refl refl (takes_later mode fault_of more (acc ++ items_of (fault_of false) m))
  where
    its : List Item
    its = items_of (fault_of false) m

    taken : Reader
    taken = reader_after (reader_of mode acc) its (run_items mode (run_items mode AtStart acc).place its)

    by : (b : Bool) (o : Option Fault) → ends mode acc ≡ b → first_fault acc ≡ o
        → take_messages mode fault_of (reader_of mode (acc ++ items_of (fault_of false) m)) more ≡ reader_of mode ((acc ++ items_of (fault_of false) m) ++ later fault_of (read_behind mode fault_of (acc ++ items_of (fault_of false) m) more))
        → take_messages mode fault_of (reader_of mode acc) (m ∷ more) ≡ reader_of mode (acc ++ later fault_of (read_behind mode fault_of acc (m ∷ more)))
    by true o e h ih =
        done_stays mode fault_of (reader_of mode acc) (m ∷ more) (ended_done mode acc e)
        ∙ ap (reader_of mode) (sym (append-nil acc)) ∙ ap (λ p. reader_of mode (acc ++ later fault_of p)) (sym (behind_end mode fault_of acc m more e))
    by false (Some f) e h ih =
        done_stays mode fault_of (reader_of mode acc) (m ∷ more) (fault_done mode acc f e h)
        ∙ sym (fault_stays mode acc (later fault_of (read_behind mode fault_of acc (m ∷ more))) f h)
    by false None e h ih =
        ap (λ b. take_messages mode fault_of (if b then reader_of mode acc else taken) more) (goes_on mode acc e h)
        ∙ ap (λ rd. take_messages mode fault_of rd more) (next_reader mode acc its e h)
        ∙ ih
        ∙ ap (reader_of mode) (append_assoc acc its (later fault_of (read_behind mode fault_of (acc ++ its) more)))
        ∙ ap (λ p. reader_of mode (acc ++ later fault_of p)) (sym (behind_more mode fault_of acc m more e))

-- The retry signal.

-- places after the second record
abbrev pub is_past : Place → Bool
is_past AtStart = false
is_past (AtSecond s) = false
is_past (InWhole s) = true
is_past (InDeletes s) = true
is_past (InAdds s) = true
is_past AtEnd = true

pub no_lone : (p : Place) → is_past p ≡ true → lone_serial p ≡ None
no_lone AtStart h = cc
no_lone (AtSecond s) h = cc
no_lone (InWhole s) h = refl
no_lone (InDeletes s) h = refl
no_lone (InAdds s) h = refl
no_lone AtEnd h = refl

pub either_past : (s r : Record) → is_past (end_or_batch s r).place ≡ true
either_past s r =
    elim (is_same_soa s r) as (λ b. is_past (if b then went AtEnd (Finished r ∷ []) else went (InDeletes s) (BeginBatchDelete r ∷ [])).place ≡ true) [
      | true ↦ refl
      | false ↦ refl
    ]

pub second_past : (mode : Mode) (s r : Record) → is_past (step mode (AtSecond s) r).place ≡ true
second_past mode s r =
    elim (is_soa r) as (λ b. is_past (if b then end_or_batch s r else went (InWhole s) (DeleteAllRecords ∷ AddRecord r ∷ [])).place ≡ true) [
      | true ↦ either_past s r
      | false ↦ refl
    ]

pub step_past : (mode : Mode) (p : Place) (r : Record) → is_past p ≡ true → is_past (step mode p r).place ≡ true
step_past mode AtStart r h = cc
step_past mode (AtSecond s) r h = cc
step_past mode (InWhole s) r h =
    elim (is_same_soa s r) as (λ b. is_past (if b then went AtEnd (Finished r ∷ []) else went (InWhole s) (AddRecord r ∷ [])).place ≡ true) [
      | true ↦ refl
      | false ↦ refl
    ]
step_past mode (InDeletes s) r h =
    elim (is_soa r) as (λ b. is_past (if b then went (InAdds s) (BeginBatchAdd r ∷ []) else went (InDeletes s) (DeleteRecord r ∷ [])).place ≡ true) [
      | true ↦ refl
      | false ↦ refl
    ]
step_past mode (InAdds s) r h =
    elim (is_soa r) as (λ b. is_past (if b then end_or_batch s r else went (InAdds s) (AddRecord r ∷ [])).place ≡ true) [
      | true ↦ either_past s r
      | false ↦ refl
    ]
step_past mode AtEnd r h = refl

pub items_past : (mode : Mode) (p : Place) (xs : List Item) → is_past p ≡ true → is_past (run_items mode p xs).place ≡ true
items_past mode p [] h = h
items_past mode p (Good r ∷ more) h = items_past mode (step mode p r).place more (step_past mode p r h)
items_past mode p (Bad f ∷ more) h = h

abbrev pub lone_of : Mode → List (Option Record) → Option ℕ
lone_of Axfr answers = None
lone_of Ixfr answers = lone_soa answers

-- a signal's test
pub no_signal : (a : Run) → is_past a.place ≡ true → signal_of false a ≡ None
no_signal a h =
    ap (λ o. if is_some a.fault then None else o) (no_lone a.place h)
    ∙ elim (is_some a.fault) as (λ b. ◌≡◌ {A = Option ℕ} (if b then None else None) None) [
      | true ↦ refl
      | false ↦ refl
    ]

-- the signal of a first message's items is the one that the messages say
pub readable : (mode : Mode) (answers : List (Option Record)) → signal_of false (run_items mode AtStart (map record_item answers)) ≡ lone_of mode answers
readable mode [] = refl_of mode
  where
    refl_of : (n : Mode) → None ≡ lone_of n []
    refl_of Axfr = refl
    refl_of Ixfr = refl
readable mode (None ∷ more) = refl_of mode
  where
    refl_of : (n : Mode) → None ≡ lone_of n (None ∷ more)
    refl_of Axfr = refl
    refl_of Ixfr = refl
readable Axfr (Some s ∷ more) = no_signal (run_items Axfr AtStart (map record_item (Some s ∷ more))) (items_past Axfr (InWhole s) (map record_item more) refl)
readable Ixfr (Some s ∷ []) = refl
readable Ixfr (Some s ∷ None ∷ more) = refl
readable Ixfr (Some s ∷ Some r ∷ more) = no_signal (run_items Ixfr AtStart (map record_item (Some s ∷ Some r ∷ more))) (items_past Ixfr (step Ixfr (AtSecond s) r).place (map record_item more) (second_past Ixfr s r))

pub first_signal : (mode : Mode) (f : Option Fault) (answers : List (Option Record)) → signal_of false (run_items mode AtStart (items_unless answers f)) ≡ (if is_some f then None else lone_of mode answers)
first_signal mode (Some f) answers = refl
first_signal mode None answers = readable mode answers

pub retry_is : (mode : Mode) (fault_of : Bool → ReadMessage → Option Fault) (m : ReadMessage) (more : List ReadMessage) → retry mode fault_of (m ∷ more) ≡ (if is_some (fault_of true m) then None else lone_of mode m.answers)
retry_is Axfr fault_of m more =
    elim (is_some (fault_of true m)) as (λ b. ◌≡◌ {A = Option ℕ} None (if b then None else None)) [
      | true ↦ refl
      | false ↦ refl
    ]
retry_is Ixfr fault_of m more = refl

pub signal_is : (mode : Mode) (fault_of : Bool → ReadMessage → Option Fault) (m : ReadMessage) (more : List ReadMessage) → signal_of false (run_items mode AtStart (items_of (fault_of true) m)) ≡ retry mode fault_of (m ∷ more)
signal_is mode fault_of m more = first_signal mode (fault_of true m) m.answers ∙ sym (retry_is mode fault_of m more)
