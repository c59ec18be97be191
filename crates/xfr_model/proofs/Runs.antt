-- The machine of the interpreter makes of records what the text says that they are read as.
use Rattle.std.proofs.Common.{◌≡◌, ℕ, arith, suc, Bool, true, false, ◌&&◌, ◌==◌, if◌then◌else◌, List, [], ◌∷◌, ◌++◌, map, flat_map, length, refl, sym, ap, ◌∙◌, append_assoc, append-nil, Option, Some, None, is_some}
use Rattle.std.specs.Option.{option_or}
use Rattle.dns_rdata.specs.Records.{Record, same_data}
use Rattle.zone_model.specs.TransferText.{Mode, Axfr, Ixfr, Whole, Changes, Batch, Ending, Section, before, is_soa, is_same_soa, sections, section_records, batches_in, ending_in, whole_ending}
use Rattle.zone_model.specs.Updates.{Update, DeleteAllRecords, DeleteRecord, AddRecord, BeginBatchDelete, BeginBatchAdd, Finished, batch_updates, end_update}
use Rattle.xfr_model.specs.Read.{AfterEnd, after_end}
use Rattle.xfr_model.specs.Machine.{Place, InWhole, InDeletes, InAdds, AtEnd, is_at_end, Run, went, step, then_run, run, end_or_batch, RunSays, RunsText, RunsOn}
use Rattle.zone_model.proofs.Texts.{sections_read}

-- one run and then two are two and then one
option_or-assoc : {A : Type 0} (a b c : Option A) → option_or (option_or a b) c ≡ option_or a (option_or b c)
option_or-assoc None b c = refl
option_or-assoc (Some x) b c = refl

pub then_run-assoc : (a b c : Run) → then_run (then_run a b) c ≡ then_run a (then_run b c)
then_run-assoc a b c =
    ap (λ l. record { place = c.place; updates = l; fault = option_or (option_or a.fault b.fault) c.fault }) (append_assoc a.updates b.updates c.updates)
    ∙ ap (λ f. record { place = c.place; updates = a.updates ++ (b.updates ++ c.updates); fault = f }) (option_or-assoc a.fault b.fault c.fault)

pub runs_on : RunsOn
runs_on mode p [] ys = refl
runs_on mode p (x ∷ xs) ys =
    let q : Place = (step mode p x).place in
    ap (then_run (step mode p x)) (runs_on mode q xs ys) ∙ sym (then_run-assoc (step mode p x) (run mode q xs) (run mode (run mode q xs).place ys))

-- what a run makes: updates, and what a text's end says
pub record Makes (a : Run) (us : List Update) (end : Option Ending) : Type 0 where
  pub updates : a.updates ≡ us
  pub ended : is_at_end a.place ≡ is_some end
  pub fault : a.fault ≡ after_end end

-- one update before what a run makes
told_first : (p : Place) (u : List Update) (b : Run) (us : List Update) (end : Option Ending) → Makes b us end → Makes (then_run (went p u) b) (u ++ us) end
told_first p u b us end m = record { updates = ap (λ l. u ++ l) m.updates; ended = m.ended; fault = m.fault }

not_zero : (n : ℕ) → (suc n == 0) ≡ false
not_zero n = grind arith

-- after the end each record is a fault
at_end : (mode : Mode) (last : Record) (more : List Record) → Makes (run mode AtEnd more) [] (Some (record { last = last; rest = more }))
at_end mode last [] = record { updates = refl; ended = refl; fault = refl }
at_end mode last (r ∷ more) = record { updates = (at_end mode last more).updates; ended = (at_end mode last more).ended; fault = ap (λ b. if b then None else Some AfterEnd) (sym (not_zero (length more))) }

-- a whole text
in_whole : (mode : Mode) (s : Record) (more : List Record) → Makes (run mode (InWhole s) more) (map AddRecord (before (is_same_soa s) more) ++ end_update (whole_ending s more)) (whole_ending s more)
in_whole mode s [] = record { updates = refl; ended = refl; fault = refl }
in_whole mode s (r ∷ more) =
    let end : Option Ending = Some (record { last = r; rest = more }) in
    elim (is_same_soa s r) as (λ b. Makes (then_run (if b then went AtEnd (Finished r ∷ []) else went (InWhole s) (AddRecord r ∷ [])) (run mode (if b then went AtEnd (Finished r ∷ []) else went (InWhole s) (AddRecord r ∷ [])).place more))
    (map AddRecord (if b then [] else r ∷ before (is_same_soa s) more) ++ end_update (if b then end else whole_ending s more)) (if b then end else whole_ending s more)) [
      | true ↦ told_first AtEnd (Finished r ∷ []) (run mode AtEnd more) [] end (at_end mode r more)
      | false ↦ told_first (InWhole s) (AddRecord r ∷ []) (run mode (InWhole s) more) (map AddRecord (before (is_same_soa s) more) ++ end_update (whole_ending s more)) (whole_ending s more) (in_whole mode s more)
    ]

-- what sections say where deletes would begin, and where adds would
abbrev said : Record → List Section → List Update
said s ts = flat_map batch_updates (batches_in s ts) ++ end_update (ending_in s ts)

abbrev then_said : Record → List Section → List Update
then_said s [] = []
then_said s (t ∷ ts) = BeginBatchAdd t.head ∷ map AddRecord t.body ++ said s ts

abbrev then_ending : Record → List Section → Option Ending
then_ending s [] = None
then_ending s (t ∷ ts) = ending_in s ts

-- the SOA of a batch that begins, and what it deletes
batch_said : (s : Record) (t : Section) (ts : List Section) → is_same_soa s t.head ≡ false → said s (t ∷ ts) ≡ BeginBatchDelete t.head ∷ map DeleteRecord t.body ++ then_said s ts
batch_said s t [] h =
    let b : Batch = record { old = t.head; deletes = t.body; new = None; adds = [] } in
    let e : Ending = record { last = t.head; rest = t.body } in
    ap (λ c. flat_map batch_updates (if c then [] else b ∷ []) ++ end_update (if c then Some e else None)) h
    ∙ append-nil (batch_updates b ++ []) ∙ append-nil (batch_updates b)
batch_said s t (u ∷ ts) h =
    let b : Batch = record { old = t.head; deletes = t.body; new = Some u.head; adds = u.body } in
    let e : Ending = record { last = t.head; rest = t.body ++ section_records u ++ flat_map section_records ts } in
    ap (λ c. flat_map batch_updates (if c then [] else b ∷ batches_in s ts) ++ end_update (if c then Some e else ending_in s ts)) h
    ∙ append_assoc (batch_updates b) (flat_map batch_updates (batches_in s ts)) (end_update (ending_in s ts))
    ∙ append_assoc (BeginBatchDelete t.head ∷ map DeleteRecord t.body) (BeginBatchAdd u.head ∷ map AddRecord u.body) (said s ts)

batch_ending : (s : Record) (t : Section) (ts : List Section) → is_same_soa s t.head ≡ false → ending_in s (t ∷ ts) ≡ then_ending s ts
batch_ending s t [] h = ap (λ b. if b then Some (record { last = t.head; rest = t.body }) else None) h
batch_ending s t (u ∷ more) h = ap (λ b. if b then Some (record { last = t.head; rest = t.body ++ section_records u ++ flat_map section_records more }) else ending_in s more) h

-- an end where deletes would begin
ending_reads : (s : Record) (t : Section) (ts : List Section) → is_same_soa s t.head ≡ true → ending_in s (t ∷ ts) ≡ Some (record { last = t.head; rest = t.body ++ flat_map section_records ts })
ending_reads s t [] h =
    ap (λ b. if b then Some (record { last = t.head; rest = t.body }) else None) h ∙ ap (λ l. Some (record { last = t.head; rest = l })) (sym (append-nil t.body))
ending_reads s t (u ∷ more) h =
    ap (λ b. if b then Some (record { last = t.head; rest = t.body ++ section_records u ++ flat_map section_records more }) else ending_in s more) h
    ∙ ap (λ l. Some (record { last = t.head; rest = l })) (append_assoc t.body (section_records u) (flat_map section_records more))

no_batches : (s : Record) (t : Section) (ts : List Section) → is_same_soa s t.head ≡ true → batches_in s (t ∷ ts) ≡ []
no_batches s t [] h = ap (λ b. if b then [] else record { old = t.head; deletes = t.body; new = None; adds = [] } ∷ []) h
no_batches s t (u ∷ more) h = ap (λ b. if b then [] else record { old = t.head; deletes = t.body; new = Some u.head; adds = u.body } ∷ batches_in s more) h

-- an SOA where deletes would begin, with what stands after it
deletes_begin : (mode : Mode) (s r : Record) (more : List Record) (b : Bool) → is_same_soa s r ≡ b
    → Makes (run mode (InDeletes s) more) (map DeleteRecord (before is_soa more) ++ then_said s (sections more)) (then_ending s (sections more))
    → Makes (then_run (if b then went AtEnd (Finished r ∷ []) else went (InDeletes s) (BeginBatchDelete r ∷ [])) (run mode (if b then went AtEnd (Finished r ∷ []) else went (InDeletes s) (BeginBatchDelete r ∷ [])).place more))
    (said s (record { head = r; body = before is_soa more } ∷ sections more)) (ending_in s (record { head = r; body = before is_soa more } ∷ sections more))
deletes_begin mode s r more true h m =
    let t : Section = record { head = r; body = before is_soa more } in
    let end : Option Ending = Some (record { last = r; rest = more }) in
    let ends : ending_in s (t ∷ sections more) ≡ end = ending_reads s t (sections more) h ∙ ap (λ l. Some (record { last = r; rest = l })) (sections_read more) in
    let a = told_first AtEnd (Finished r ∷ []) (run mode AtEnd more) [] end (at_end mode r more) in
    record {
      updates = a.updates ∙ sym (ap (λ bs. flat_map batch_updates bs ++ end_update (ending_in s (t ∷ sections more))) (no_batches s t (sections more) h) ∙ ap end_update ends);
      ended = a.ended ∙ sym (ap (λ e. is_some e) ends);
      fault = a.fault ∙ sym (ap after_end ends);
    }
deletes_begin mode s r more false h m =
    let t : Section = record { head = r; body = before is_soa more } in
    let a = told_first (InDeletes s) (BeginBatchDelete r ∷ []) (run mode (InDeletes s) more) (map DeleteRecord (before is_soa more) ++ then_said s (sections more)) (then_ending s (sections more)) m in
    let ends : ending_in s (t ∷ sections more) ≡ then_ending s (sections more) = batch_ending s t (sections more) h in
    record {
      updates = a.updates ∙ sym (batch_said s t (sections more) h);
      ended = a.ended ∙ sym (ap (λ e. is_some e) ends);
      fault = a.fault ∙ sym (ap after_end ends);
    }

-- among deletes, and among adds
pub record Both (mode : Mode) (s : Record) (rs : List Record) : Type 0 where
  pub deletes : Makes (run mode (InDeletes s) rs) (map DeleteRecord (before is_soa rs) ++ then_said s (sections rs)) (then_ending s (sections rs))
  pub adds : Makes (run mode (InAdds s) rs) (map AddRecord (before is_soa rs) ++ said s (sections rs)) (ending_in s (sections rs))

in_batches : (mode : Mode) (s : Record) (rs : List Record) → Both mode s rs
in_batches mode s [] = record { deletes = record { updates = refl; ended = refl; fault = refl }; adds = record { updates = refl; ended = refl; fault = refl } }
in_batches mode s (r ∷ more) =
    let ih = in_batches mode s more in
    let t : Section = record { head = r; body = before is_soa more } in
    record {
      deletes = elim (is_soa r) as (λ b. Makes (then_run (if b then went (InAdds s) (BeginBatchAdd r ∷ []) else went (InDeletes s) (DeleteRecord r ∷ [])) (run mode (if b then went (InAdds s) (BeginBatchAdd r ∷ []) else went (InDeletes s) (DeleteRecord r ∷ [])).place more))
          (map DeleteRecord (if b then [] else r ∷ before is_soa more) ++ then_said s (if b then t ∷ sections more else sections more)) (then_ending s (if b then t ∷ sections more else sections more))) [
            | true ↦ told_first (InAdds s) (BeginBatchAdd r ∷ []) (run mode (InAdds s) more) (map AddRecord (before is_soa more) ++ said s (sections more)) (ending_in s (sections more)) ih.adds
            | false ↦ told_first (InDeletes s) (DeleteRecord r ∷ []) (run mode (InDeletes s) more) (map DeleteRecord (before is_soa more) ++ then_said s (sections more)) (then_ending s (sections more)) ih.deletes
          ];
      adds = elim (is_soa r) as (λ b. Makes (then_run (if b then end_or_batch s r else went (InAdds s) (AddRecord r ∷ [])) (run mode (if b then end_or_batch s r else went (InAdds s) (AddRecord r ∷ [])).place more))
          (map AddRecord (if b then [] else r ∷ before is_soa more) ++ said s (if b then t ∷ sections more else sections more)) (ending_in s (if b then t ∷ sections more else sections more))) [
            | true ↦ deletes_begin mode s r more (is_same_soa s r) refl ih.deletes
            | false ↦ told_first (InAdds s) (AddRecord r ∷ []) (run mode (InAdds s) more) (map AddRecord (before is_soa more) ++ said s (sections more)) (ending_in s (sections more)) ih.adds
          ];
    }

-- the second record decides the form
plain_unlike : (s r : Record) → is_soa r ≡ false → is_same_soa s r ≡ false
plain_unlike s r h = ap (λ b. b && same_data s.fields r.fields) h

whole_first : (mode : Mode) (s r : Record) (more : List Record) → is_same_soa s r ≡ false → RunSays (then_run (went (InWhole s) (DeleteAllRecords ∷ AddRecord r ∷ [])) (run mode (InWhole s) more)) (Whole s (before (is_same_soa s) (r ∷ more)) (whole_ending s (r ∷ more)))
whole_first mode s r more h =
    let end : Ending = record { last = r; rest = more } in
    let m = told_first (InWhole s) (DeleteAllRecords ∷ AddRecord r ∷ []) (run mode (InWhole s) more) (map AddRecord (before (is_same_soa s) more) ++ end_update (whole_ending s more)) (whole_ending s more) (in_whole mode s more) in
    let ends : (if is_same_soa s r then Some end else whole_ending s more) ≡ whole_ending s more = ap (λ b. if b then Some end else whole_ending s more) h in
    record {
      updates = m.updates ∙ sym (ap (λ b. DeleteAllRecords ∷ map AddRecord (if b then [] else r ∷ before (is_same_soa s) more) ++ end_update (if b then Some end else whole_ending s more)) h);
      ended = m.ended ∙ sym (ap (λ e. is_some e) ends);
      fault = m.fault ∙ sym (ap after_end ends);
    }

-- by whether the second record is an SOA
by_second : (mode : Mode) (s r : Record) (more : List Record) (b : Bool) → is_soa r ≡ b
    → RunSays (then_run (if b then end_or_batch s r else went (InWhole s) (DeleteAllRecords ∷ AddRecord r ∷ [])) (run mode (if b then end_or_batch s r else went (InWhole s) (DeleteAllRecords ∷ AddRecord r ∷ [])).place more))
    (if b then Changes s (batches_in s (sections (r ∷ more))) (ending_in s (sections (r ∷ more))) else Whole s (before (is_same_soa s) (r ∷ more)) (whole_ending s (r ∷ more)))
by_second mode s r more true h =
    let t : Section = record { head = r; body = before is_soa more } in
    let m = deletes_begin mode s r more (is_same_soa s r) refl (in_batches mode s more).deletes in
    let cut : sections (r ∷ more) ≡ t ∷ sections more = ap (λ b. if b then t ∷ sections more else sections more) h in
    record {
      updates = m.updates ∙ sym (ap (said s) cut);
      ended = m.ended ∙ sym (ap (λ ts. is_some (ending_in s ts)) cut);
      fault = m.fault ∙ sym (ap (λ ts. after_end (ending_in s ts)) cut);
    }
by_second mode s r more false h = whole_first mode s r more (plain_unlike s r h)

pub runs_text : RunsText
runs_text Axfr s more =
    let m = told_first (InWhole s) (DeleteAllRecords ∷ []) (run Axfr (InWhole s) more) (map AddRecord (before (is_same_soa s) more) ++ end_update (whole_ending s more)) (whole_ending s more) (in_whole Axfr s more) in
    record { updates = m.updates; ended = m.ended; fault = m.fault }
runs_text Ixfr s [] = record { updates = refl; ended = refl; fault = refl }
runs_text Ixfr s (r ∷ more) = let m = by_second Ixfr s r more (is_soa r) refl in record { updates = m.updates; ended = m.ended; fault = m.fault }
