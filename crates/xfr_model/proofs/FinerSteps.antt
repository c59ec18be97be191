-- Finer steps: record by record, what is denied, the mode that a first message names, and the last number.
use Rattle.std.proofs.Common.{◌≡◌, ℕ, ◌+◌, ◌-◌, ◌≤◌, ◌&&◌, subst, length-append, suc, arith, ◌==◌, Bool, true, false, ◌||◌, not, if◌then◌else◌, List, [], ◌∷◌, ◌++◌, length, refl, sym, ap, ◌∙◌, Option, Some, None, is_some, Result, Ok, Err}
use Rattle.std.specs.Prelude.{nat_lt}
use Rattle.std.specs.Option.{option_map, option_or}
use Rattle.dns_rdata.specs.Records.{Record}
use Rattle.dns_numbers.specs.Codes.{type_ixfr}
use Rattle.zone_model.specs.Version.{Version}
use Rattle.zone_model.specs.Edits.{Refusal, has_data, set_soa, close, add, delete}
use Rattle.zone_model.specs.TransferText.{Mode, Axfr, Ixfr, is_soa, is_same_soa}
use Rattle.zone_model.specs.Spells.{Spelling, spelling}
use Rattle.zone_model.specs.Updates.{Update, DeleteAllRecords, DeleteRecord, AddRecord, BeginBatchDelete, BeginBatchAdd, Finished, Progress, UpdateFault, Edit, NotSoaRecord, AfterFinish, edited, finish, apply, apply_update}
use Rattle.std.specs.Cmp.{first_so, second_so}
use Rattle.std.proofs.lemmas.Bool.{le-ltb, lt-ltb, eq-eqb, eqb-true}
use Rattle.dns_name.specs.Names.{under, same_name}
use Rattle.dns_wire.specs.Wire.{Question, same_question}
use Rattle.xfr_model.specs.Messages.{ReadMessage, type_of}
use Rattle.xfr_model.specs.Interpreter.{mode_asked}
use Rattle.xfr_model.specs.Read.{OtherAnswer, NotValid, Malformed, is_other, is_transfer_head, asks_transfer, first_record_fault, message_fault, request_fault, Fault, Item, Good, Bad}
use Rattle.xfr_model.specs.Machine.{Place, AtStart, AtSecond, InWhole, InDeletes, InAdds, AtEnd, Run, went, first_step, step, then_run, end_or_batch, run_items}
use Rattle.xfr_model.specs.Applying.{commits, LastNumber, Halt, Denied, NoNumber, Held, apply_within, Fed, unless_stopped, feed, FedSays, FeedsRecords, DeniedEdit, DeniesEdits, NamesMode}
use Rattle.xfr_model.proofs.Limits.{within-append, commits_within}

-- a step has a fault at the end alone
first_clean : (mode : Mode) (r : Record) → (first_step mode r).fault ≡ None
first_clean Axfr r = refl
first_clean Ixfr r = refl

either_clean : (s r : Record) → (end_or_batch s r).fault ≡ None
either_clean s r =
    elim (is_same_soa s r) as (λ b. (if b then went AtEnd (Finished r ∷ []) else went (InDeletes s) (BeginBatchDelete r ∷ [])).fault ≡ None) [
      | true ↦ refl
      | false ↦ refl
    ]

-- what feeding comes to, where the first record's updates were applied
pub record NoMore (mode : Mode) (xs : List Item) : Type 0 where
  pub updates : (run_items mode AtEnd xs).updates ≡ []
  pub place : (run_items mode AtEnd xs).place ≡ AtEnd

no_more : (mode : Mode) (xs : List Item) → NoMore mode xs
no_more mode [] = record { updates = refl; place = refl }
no_more mode (Good r ∷ more) = record { updates = (no_more mode more).updates; place = (no_more mode more).place }
no_more mode (Bad f ∷ more) = record { updates = refl; place = refl }

-- one record without a fault, and what comes after it
fed_on : (mode : Mode) (limit : ℕ) (g : Progress) (s : Run) (more : List Item) → s.fault ≡ None
    → ((q : Progress) → FedSays (feed mode limit s.place q more) (run_items mode s.place more) (apply_within limit q (run_items mode s.place more).updates))
    → FedSays (unless_stopped s (apply_within limit g s.updates) (feed mode limit s.place (apply_within limit g s.updates).progress more)) (then_run s (run_items mode s.place more)) (apply_within limit g (s.updates ++ (run_items mode s.place more).updates))
fed_on mode limit g s more clean next = by (apply_within limit g s.updates).halt refl
  where
    h : Held
    h = apply_within limit g s.updates

    rest : Run
    rest = run_items mode s.place more

    all : Held
    all = apply_within limit g (s.updates ++ rest.updates)

    fed : Fed
    fed = feed mode limit s.place h.progress more

    halted : Fed
    halted = record { place = s.place; progress = h.progress; halt = h.halt; fault = None }

    faulty : Option Fault → Fed
    faulty f = if is_some f then record { place = s.place; progress = h.progress; halt = None; fault = f } else fed

    by : (o : Option Halt) → h.halt ≡ o → FedSays (unless_stopped s h fed) (then_run s rest) all
    by (Some e) k =
        let f = ap (λ o. if is_some o then halted else faulty s.fault) k in
        let a = within-append limit s.updates rest.updates g ∙ ap (λ o. if is_some o then h else apply_within limit h.progress rest.updates) k in
        let no : all.halt ≡ Some e = ap (λ x. x.halt) a ∙ k in
        record {
          progress = ap (λ x. x.progress) f ∙ sym (ap (λ x. x.progress) a);
          halt = ap (λ x. x.halt) f ∙ sym (ap (λ x. x.halt) a);
          fault = λ z. cc;
          place = λ z. cc;
        }
    by None k =
        let f = ap (λ o. if is_some o then halted else faulty s.fault) k ∙ ap faulty clean in
        let a = within-append limit s.updates rest.updates g ∙ ap (λ o. if is_some o then h else apply_within limit h.progress rest.updates) k in
        let n = next h.progress in
        record {
          progress = ap (λ x. x.progress) f ∙ n.progress ∙ sym (ap (λ x. x.progress) a);
          halt = ap (λ x. x.halt) f ∙ n.halt ∙ sym (ap (λ x. x.halt) a);
          fault = λ z. ap (λ x. x.fault) f ∙ n.fault (sym (ap (λ x. x.halt) a) ∙ z) ∙ sym (ap (λ o. option_or o rest.fault) clean);
          place = λ z. ap (λ x. x.place) f ∙ n.place (sym (ap (λ x. x.halt) a) ∙ z);
        }

second_clean : (mode : Mode) (s r : Record) → (step mode (AtSecond s) r).fault ≡ None
second_clean mode s r =
    elim (is_soa r) as (λ b. (if b then end_or_batch s r else went (InWhole s) (DeleteAllRecords ∷ AddRecord r ∷ [])).fault ≡ None) [
      | true ↦ either_clean s r
      | false ↦ refl
    ]

whole_clean : (mode : Mode) (s r : Record) → (step mode (InWhole s) r).fault ≡ None
whole_clean mode s r =
    elim (is_same_soa s r) as (λ b. (if b then went AtEnd (Finished r ∷ []) else went (InWhole s) (AddRecord r ∷ [])).fault ≡ None) [
      | true ↦ refl
      | false ↦ refl
    ]

deletes_clean : (mode : Mode) (s r : Record) → (step mode (InDeletes s) r).fault ≡ None
deletes_clean mode s r =
    elim (is_soa r) as (λ b. (if b then went (InAdds s) (BeginBatchAdd r ∷ []) else went (InDeletes s) (DeleteRecord r ∷ [])).fault ≡ None) [
      | true ↦ refl
      | false ↦ refl
    ]

adds_clean : (mode : Mode) (s r : Record) → (step mode (InAdds s) r).fault ≡ None
adds_clean mode s r =
    elim (is_soa r) as (λ b. (if b then end_or_batch s r else went (InAdds s) (AddRecord r ∷ [])).fault ≡ None) [
      | true ↦ either_clean s r
      | false ↦ refl
    ]

feeds : (mode : Mode) (limit : ℕ) (xs : List Item) (p : Place) (g : Progress) → FedSays (feed mode limit p g xs) (run_items mode p xs) (apply_within limit g (run_items mode p xs).updates)
feeds mode limit [] p g = record { progress = refl; halt = refl; fault = λ z. refl; place = λ z. refl }
feeds mode limit (Bad f ∷ more) p g = record { progress = refl; halt = refl; fault = λ z. refl; place = λ z. refl }
feeds mode limit (Good r ∷ more) AtStart g = fed_on mode limit g (step mode AtStart r) more (first_clean mode r) (λ q. feeds mode limit more (step mode AtStart r).place q)
feeds mode limit (Good r ∷ more) (AtSecond s) g = fed_on mode limit g (step mode (AtSecond s) r) more (second_clean mode s r) (λ q. feeds mode limit more (step mode (AtSecond s) r).place q)
feeds mode limit (Good r ∷ more) (InWhole s) g = fed_on mode limit g (step mode (InWhole s) r) more (whole_clean mode s r) (λ q. feeds mode limit more (step mode (InWhole s) r).place q)
feeds mode limit (Good r ∷ more) (InDeletes s) g = fed_on mode limit g (step mode (InDeletes s) r) more (deletes_clean mode s r) (λ q. feeds mode limit more (step mode (InDeletes s) r).place q)
feeds mode limit (Good r ∷ more) (InAdds s) g = fed_on mode limit g (step mode (InAdds s) r) more (adds_clean mode s r) (λ q. feeds mode limit more (step mode (InAdds s) r).place q)
feeds mode limit (Good r ∷ more) AtEnd g =
    let n = no_more mode more in
    let idle = ap (apply_within limit g) n.updates in
    record { progress = sym (ap (λ x. x.progress) idle); halt = sym (ap (λ x. x.halt) idle); fault = λ z. refl; place = λ z. sym n.place }

pub feeds_records : FeedsRecords
feeds_records mode limit p g xs = feeds mode limit xs p g

-- What is denied.
denied_is : (lack : Bool) (o : Option Refusal) (f : UpdateFault) → (if lack then Some NoNumber else option_map (λ e. Denied (Edit e)) o) ≡ Some (Denied f) → DeniedEdit f
denied_is true o f h = cc
denied_is false None f h = cc
denied_is false (Some e) f h = record { why = e; is = cc }

pub denies_edits : DeniesEdits
denies_edits mode limit base rs f h =
    let s : Spelling = spelling mode rs base in
    denied_is (nat_lt limit (length s.versions)) s.fault f (sym (commits_within mode limit base rs).halt ∙ h)

-- The mode.
too_many : (n : ℕ) → suc (suc n) ≡ 1 → ⊥
too_many n h = omega (arith, h)

head_tested : (c : Bool) (o : Option Fault) → (if not c then Some NotValid else o) ≡ None → c ≡ true
head_tested true o h = refl
head_tested false o h = cc

second_false : (a b : Bool) → (a || b) ≡ false → b ≡ false
second_false true b h = cc
second_false false b h = h

truly : (b : Bool) → not b ≡ false → b ≡ true
truly true h = refl
truly false h = cc

-- the parts of the test of a first message
pub record FirstTested (id : ℕ) (q : Question) (m : ReadMessage) : Type 0 where
  pub asks : is_other id q m ≡ false
  pub head : is_transfer_head true m ≡ true

first_tested : (id : ℕ) (q : Question) (m : ReadMessage) → request_fault id q true m ≡ None → FirstTested id q m
first_tested id q m h = by (is_other id q m) refl h
  where
    by : (b : Bool) → is_other id q m ≡ b → (if b then Some OtherAnswer else message_fault true m) ≡ None → FirstTested id q m
    by true e g = cc
    by false e g = record { asks = e; head = head_tested (is_transfer_head true m) (if not (asks_transfer m.questions) then Some Malformed else first_record_fault m.answers) g }

asked_as : (mode : Mode) (n : ℕ) → n ≡ type_of mode → (if n == type_ixfr then Ixfr else Axfr) ≡ mode
asked_as Axfr n h = ap (λ k. if k == type_ixfr then Ixfr else Axfr) h
asked_as Ixfr n h = ap (λ k. if k == type_ixfr then Ixfr else Axfr) h

names : (mode : Mode) (id : ℕ) (q : Question) (m : ReadMessage) (qs : List Question) → q.qtype ≡ type_of mode → request_fault id q true (record m { questions = qs }) ≡ None → mode_asked qs ≡ mode
names mode id q m [] e h =
    let one : (length {A = Question} [] == 1) ≡ true = second_so _ (length {A = Question} [] == 1) (first_tested id q (record m { questions = [] }) h).head in cc
names mode id q m (p ∷ []) e h =
    let t = first_tested id q (record m { questions = p ∷ [] }) h in
    let same : same_question q p ≡ true = truly (same_question q p) (second_false (not (m.header.id == id)) (not (same_question q p)) t.asks) in
    let type : (q.qtype == p.qtype) ≡ true = second_so (same_name q.qname p.qname) (q.qtype == p.qtype) (first_so _ (q.qclass == p.qclass) same) in
    asked_as mode p.qtype (sym (eqb-true q.qtype p.qtype type) ∙ e)
names mode id q m (p ∷ r ∷ more) e h =
    let one : (length (p ∷ r ∷ more) == 1) ≡ true = second_so _ (length (p ∷ r ∷ more) == 1) (first_tested id q (record m { questions = p ∷ r ∷ more }) h).head in
    let no : length (p ∷ r ∷ more) ≡ 1 = eqb-true (length (p ∷ r ∷ more)) 1 one in
    absurd (too_many (length more) no)

pub names_mode : NamesMode
names_mode mode id q m more e h = names mode id q m m.questions e h

-- Numbers.

-- how many versions a result's progress has committed
abbrev CountsIf : Progress → Bool → Result Progress UpdateFault → Type 0
CountsIf p b (Ok q) = length q.committed ≡ length p.committed + (if b then 1 else 0)
CountsIf p b (Err e) = Unit {0}

none_more : (p : Progress) → length p.committed ≡ length p.committed + 0
none_more p = omega arith

counts_edited : (p : Progress) (o : Result Version Refusal) → CountsIf p false (edited p o)
counts_edited p (Ok v) = none_more p
counts_edited p (Err e) = tt

counts_apply : (p : Progress) (u : Update) → CountsIf p (commits u) (apply p u)
counts_apply p DeleteAllRecords = none_more p
counts_apply p (DeleteRecord r) = counts_edited p (delete p.pending r)
counts_apply p (AddRecord r) =
    elim (p.replacing && under r.owner p.pending.apex && has_data p.pending r) as (λ b. CountsIf p false (if b then Ok p else edited p (add p.pending r))) [
      | true ↦ none_more p
      | false ↦ counts_edited p (add p.pending r)
    ]
counts_apply p (BeginBatchDelete r) = length-append p.committed (close p.pending ∷ [])
counts_apply p (BeginBatchAdd r) =
    elim (is_soa r) as (λ b. CountsIf p false (if b then Ok (record p { pending = set_soa p.pending r }) else Err NotSoaRecord)) [
      | true ↦ none_more p
      | false ↦ tt
    ]
counts_apply p (Finished r) =
    elim (is_soa r) as (λ b. CountsIf p true (finish (if b then Ok (record p { pending = set_soa p.pending r }) else Err NotSoaRecord))) [
      | true ↦ length-append p.committed (close (set_soa p.pending r) ∷ [])
      | false ↦ tt
    ]

counts : (p : Progress) (u : Update) → CountsIf p (commits u) (apply_update p u)
counts p u =
    elim p.finished as (λ b. CountsIf p (commits u) (if b then Err AfterFinish else apply p u)) [
      | true ↦ tt
      | false ↦ counts_apply p u
    ]

number_left : (greatest number k : ℕ) (b : Bool) → number ≤ greatest → k ≤ greatest - number → nat_lt (greatest - number) (k + (if b then 1 else 0)) ≡ (b && (number + k == greatest))
number_left greatest number k false small few = le-ltb (greatest - number) (k + 0) (omega (arith, few))
number_left greatest number k true small few = by (number + k == greatest) refl
  where
    by : (b : Bool) → (number + k == greatest) ≡ b → nat_lt (greatest - number) (k + 1) ≡ b
    by true e = let full = eqb-true (number + k) greatest e in lt-ltb (greatest - number) (k + 1) (omega (arith, full, small, few))
    by false e = le-ltb (greatest - number) (k + 1) (unless_full e)
      where
        unless_full : (number + k == greatest) ≡ false → k + 1 ≤ greatest - number
        unless_full e = grind (arith, eq-eqb, small, few, e)

pub last_number : LastNumber
last_number greatest number p q u small few is =
    let P : Result Progress UpdateFault → Type 0 = CountsIf p (commits u) in
    let n : length q.committed ≡ length p.committed + (if commits u then 1 else 0) = subst P is (counts p u) in
    ap (nat_lt (greatest - number)) n ∙ number_left greatest number (length p.committed) (commits u) small few
