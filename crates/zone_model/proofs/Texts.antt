-- A list of records is the records of the text that it is read as.
use Rattle.std.proofs.Common.{◌≡◌, Bool, true, false, List, [], ◌∷◌, ◌++◌, refl, sym, ap, ◌∙◌, append_assoc, append-nil, Some, None, if◌then◌else◌, flat_map}
use Rattle.dns_name.specs.Records.{Record}
use Rattle.zone_model.specs.TransferText.{Axfr, Ixfr, Whole, Changes, Batch, Ending, Section, before, is_soa, is_same_soa, sections, section_records, batches_in, ending_in, whole_ending, batch_records, ending_records, text_records, ReadsBack}

whole_reads : (s : Record) (more : List Record) → before (is_same_soa s) more ++ ending_records (whole_ending s more) ≡ more
whole_reads s [] = refl
whole_reads s (r ∷ more) =
    let end : Ending = record { last = r; rest = more } in
    elim (is_same_soa s r) as (λ b. (if b then [] else r ∷ before (is_same_soa s) more) ++ ending_records (if b then Some end else whole_ending s more) ≡ r ∷ more) [
      | true ↦ refl
      | false ↦ ap (λ l. r ∷ l) (whole_reads s more)
    ]

-- what stands before the first SOA, and then the sections
pub sections_read : (rs : List Record) → before is_soa rs ++ flat_map section_records (sections rs) ≡ rs
sections_read [] = refl
sections_read (r ∷ more) =
    let t : Section = record { head = r; body = before is_soa more } in
    elim (is_soa r) as (λ b. (if b then [] else r ∷ before is_soa more) ++ flat_map section_records (if b then t ∷ sections more else sections more) ≡ r ∷ more) [
      | true ↦ ap (λ l. r ∷ l) (sections_read more)
      | false ↦ ap (λ l. r ∷ l) (sections_read more)
    ]

-- the batches and the end are the sections
batches_read : (s : Record) (ts : List Section) → flat_map batch_records (batches_in s ts) ++ ending_records (ending_in s ts) ≡ flat_map section_records ts
batches_read s [] = refl
batches_read s (t ∷ []) =
    let b : Batch = record { old = t.head; deletes = t.body; new = None; adds = [] } in
    let e : Ending = record { last = t.head; rest = t.body } in
    elim (is_same_soa s t.head) as (λ c. flat_map batch_records (if c then [] else b ∷ []) ++ ending_records (if c then Some e else None) ≡ (t.head ∷ t.body) ++ []) [
      | true ↦ sym (append-nil (t.head ∷ t.body))
      | false ↦ append-nil (batch_records b ++ []) ∙ append-nil (batch_records b) ∙ ap (λ l. t.head ∷ l) (append-nil t.body) ∙ sym (append-nil (t.head ∷ t.body))
    ]
batches_read s (t ∷ u ∷ more) =
    let b : Batch = record { old = t.head; deletes = t.body; new = Some u.head; adds = u.body } in
    let e : Ending = record { last = t.head; rest = t.body ++ section_records u ++ flat_map section_records more } in
    elim (is_same_soa s t.head) as (λ c. flat_map batch_records (if c then [] else b ∷ batches_in s more) ++ ending_records (if c then Some e else ending_in s more) ≡ section_records t ++ (section_records u ++ flat_map section_records more)) [
      | true ↦ ap (λ l. t.head ∷ l) (append_assoc t.body (section_records u) (flat_map section_records more))
      | false ↦ append_assoc (batch_records b) (flat_map batch_records (batches_in s more)) (ending_records (ending_in s more))
          ∙ ap (λ l. batch_records b ++ l) (batches_read s more)
          ∙ append_assoc (section_records t) (section_records u) (flat_map section_records more)
    ]

-- by whether the second record is an SOA
by_second : (s r : Record) (more : List Record) (b : Bool) → is_soa r ≡ b → text_records (if b then Changes s (batches_in s (sections (r ∷ more))) (ending_in s (sections (r ∷ more))) else Whole s (before (is_same_soa s) (r ∷ more)) (whole_ending s (r ∷ more))) ≡ s ∷ r ∷ more
by_second s r more true is =
    let start : before is_soa (r ∷ more) ≡ [] = ap (λ c. if c then [] else r ∷ before is_soa more) is in
    ap (λ l. s ∷ l) (batches_read s (sections (r ∷ more)) ∙ ap (λ l. l ++ flat_map section_records (sections (r ∷ more))) (sym start) ∙ sections_read (r ∷ more))
by_second s r more false is = ap (λ l. s ∷ l) (whole_reads s (r ∷ more))

pub reads_back : ReadsBack
reads_back Axfr s more = ap (λ l. s ∷ l) (whole_reads s more)
reads_back Ixfr s [] = refl
reads_back Ixfr s (r ∷ more) = by_second s r more (is_soa r) refl
