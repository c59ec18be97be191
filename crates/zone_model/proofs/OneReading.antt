-- A text of the grammar is what its records are read as.
use Rattle.std.proofs.Common.{◌≡◌, Bool, true, false, ◌&&◌, not, if◌then◌else◌, List, [], ◌∷◌, ◌++◌, flat_map, refl, sym, ap, ◌∙◌, append_assoc, append-nil, subst, Option, Some, None, is_some}
use Rattle.std.specs.Option.{option_map_or}
use Rattle.std.specs.List.{list_all}
use Rattle.std.specs.Cmp.{first_so, second_so}
use Rattle.dns_name.specs.Records.{Record, same_data}
use Rattle.zone_model.specs.TransferText.{Axfr, Ixfr, Whole, Changes, Batch, Ending, Section, no_records, before, is_soa, is_plain, is_same_soa, sections, section_records, batches_in, ending_in, whole_ending, is_batch, are_batches, is_ending, begins_plain, is_incremental, batch_records, ending_records, ReadsOnly}
use Rattle.zone_model.proofs.Texts.{sections_read}
use Rattle.zone_model.proofs.Applied.{first_batch, more_batches}

-- whether a test turned into its opposite is true
not_true : (b : Bool) → not b ≡ true → b ≡ false
not_true true h = cc
not_true false h = refl

-- records that fail a test stand before what stands before in the rest
before-append : (p : Record → Bool) (xs ys : List Record) → list_all (λ r. not (p r)) xs ≡ true → before p (xs ++ ys) ≡ xs ++ before p ys
before-append p [] ys h = refl
before-append p (x ∷ xs) ys h =
    ap (λ b. if b then [] else x ∷ before p (xs ++ ys)) (not_true (p x) (first_so (not (p x)) _ h)) ∙ ap (λ l. x ∷ l) (before-append p xs ys (second_so (not (p x)) _ h))

sections-append : (xs ys : List Record) → list_all is_plain xs ≡ true → sections (xs ++ ys) ≡ sections ys
sections-append [] ys h = refl
sections-append (x ∷ xs) ys h =
    let t : Section = record { head = x; body = before is_soa (xs ++ ys) } in
    ap (λ b. if b then t ∷ sections (xs ++ ys) else sections (xs ++ ys)) (not_true (is_soa x) (first_so (is_plain x) _ h)) ∙ sections-append xs ys (second_so (is_plain x) _ h)

-- nothing, or an SOA first
abbrev StartsSoa : List Record → Type 0
StartsSoa [] = Unit {0}
StartsSoa (r ∷ more) = is_soa r ≡ true

nothing_before : (rs : List Record) → StartsSoa rs → before is_soa rs ≡ []
nothing_before [] h = refl
nothing_before (r ∷ more) h = ap (λ b. if b then [] else r ∷ before is_soa more) h

-- an SOA with plain records after it, and then such a list, begins with this section
one_section : (head : Record) (body rest : List Record) → is_soa head ≡ true → list_all is_plain body ≡ true → StartsSoa rest → sections (head ∷ body ++ rest) ≡ record { head = head; body = body } ∷ sections rest
one_section head body rest is plain starts =
    let t : List Record → Section = λ l. record { head = head; body = l } in
    ap (λ b. if b then t (before is_soa (body ++ rest)) ∷ sections (body ++ rest) else sections (body ++ rest)) is
    ∙ ap (λ l. t l ∷ sections (body ++ rest)) (before-append is_soa body rest plain ∙ ap (λ l. body ++ l) (nothing_before rest starts) ∙ append-nil body)
    ∙ ap (λ l. t body ∷ l) (sections-append body rest plain)

-- the end, and what stands after it
same_is_soa : (s r : Record) → is_same_soa s r ≡ true → is_soa r ≡ true
same_is_soa s r h = first_so (is_soa r) (same_data s.fields r.fields) h

ending_reads : (s : Record) (t : Section) (ts : List Section) → is_same_soa s t.head ≡ true → ending_in s (t ∷ ts) ≡ Some (record { last = t.head; rest = t.body ++ flat_map section_records ts })
ending_reads s t [] h =
    ap (λ b. if b then Some (record { last = t.head; rest = t.body }) else None) h ∙ ap (λ l. Some (record { last = t.head; rest = l })) (sym (append-nil t.body))
ending_reads s t (u ∷ more) h =
    ap (λ b. if b then Some (record { last = t.head; rest = t.body ++ section_records u ++ flat_map section_records more }) else ending_in s more) h
    ∙ ap (λ l. Some (record { last = t.head; rest = l })) (append_assoc t.body (section_records u) (flat_map section_records more))

no_batches : (s : Record) (t : Section) (ts : List Section) → is_same_soa s t.head ≡ true → batches_in s (t ∷ ts) ≡ []
no_batches s t [] h = ap (λ b. if b then [] else record { old = t.head; deletes = t.body; new = None; adds = [] } ∷ []) h
no_batches s t (u ∷ more) h = ap (λ b. if b then [] else record { old = t.head; deletes = t.body; new = Some u.head; adds = u.body } ∷ batches_in s more) h

-- what an end leaves: no batch, and itself
pub record Reads (s : Record) (rs : List Record) (bs : List Batch) (end : Option Ending) : Type 0 where
  pub batches : batches_in s (sections rs) ≡ bs
  pub ending : ending_in s (sections rs) ≡ end

end_reads : (s : Record) (end : Option Ending) → is_ending s end ≡ true → Reads s (ending_records end) [] end
end_reads s None h = record { batches = refl; ending = refl }
end_reads s (Some end) h =
    let t : Section = record { head = end.last; body = before is_soa end.rest } in
    let cut : sections (end.last ∷ end.rest) ≡ t ∷ sections end.rest = ap (λ b. if b then t ∷ sections end.rest else sections end.rest) (same_is_soa s end.last h) in
    record {
      batches = ap (batches_in s) cut ∙ no_batches s t (sections end.rest) h;
      ending = ap (ending_in s) cut ∙ ending_reads s t (sections end.rest) h ∙ ap (λ l. Some (record { last = end.last; rest = l })) (sections_read end.rest);
    }

end_starts : (s : Record) (end : Option Ending) → is_ending s end ≡ true → StartsSoa (ending_records end)
end_starts s None h = tt
end_starts s (Some end) h = same_is_soa s end.last h

two_read : (s old : Record) (deletes : List Record) (n : Record) (adds tail : List Record) (more : List Batch) (end : Option Ending) → is_soa old ≡ true → is_same_soa s old ≡ false → list_all is_plain deletes ≡ true
    → is_soa n ≡ true → list_all is_plain adds ≡ true → StartsSoa tail → Reads s tail more end
    → Reads s (old ∷ deletes ++ (n ∷ adds ++ tail)) (record { old = old; deletes = deletes; new = Some n; adds = adds } ∷ more) end
two_read s old deletes n adds tail more end is unlike plain is_new plain_adds starts r =
    let t : Section = record { head = old; body = deletes } in
    let u : Section = record { head = n; body = adds } in
    let b : Batch = record { old = old; deletes = deletes; new = Some n; adds = adds } in
    let cut : sections (old ∷ deletes ++ (n ∷ adds ++ tail)) ≡ t ∷ u ∷ sections tail = one_section old deletes (n ∷ adds ++ tail) is plain is_new ∙ ap (λ l. t ∷ l) (one_section n adds tail is_new plain_adds starts) in
    record {
      batches = ap (batches_in s) cut ∙ ap (λ c. if c then [] else b ∷ batches_in s (sections tail)) unlike ∙ ap (λ l. b ∷ l) r.batches;
      ending = ap (ending_in s) cut ∙ ap (λ c. if c then Some (record { last = old; rest = deletes ++ section_records u ++ flat_map section_records (sections tail) }) else ending_in s (sections tail)) unlike ∙ r.ending;
    }

one_read : (s old : Record) (deletes : List Record) → is_soa old ≡ true → is_same_soa s old ≡ false → list_all is_plain deletes ≡ true → Reads s (old ∷ deletes ++ []) (record { old = old; deletes = deletes; new = None; adds = [] } ∷ []) None
one_read s old deletes is unlike plain =
    let t : Section = record { head = old; body = deletes } in
    let b : Batch = record { old = old; deletes = deletes; new = None; adds = [] } in
    let cut : sections (old ∷ deletes ++ []) ≡ t ∷ [] = one_section old deletes [] is plain tt in
    let e : Ending = record { last = old; rest = deletes } in
    record {
      batches = ap (batches_in s) cut ∙ ap (λ c. if c then [] else b ∷ []) unlike;
      ending = ap (ending_in s) cut ∙ ap (λ c. if c then Some e else None) unlike;
    }

-- the parts of the test of a batch
pub record Parts (s old : Record) (deletes : List Record) : Type 0 where
  pub is : is_soa old ≡ true
  pub unlike : is_same_soa s old ≡ false
  pub plain : list_all is_plain deletes ≡ true

parts : (s : Record) (b : Batch) → is_batch s b ≡ true → Parts s b.old b.deletes
parts s b h =
    let three = first_so _ (option_map_or (λ n. is_soa n && list_all is_plain b.adds) b.new (no_records b.adds)) h in
    let two = first_so _ (list_all is_plain b.deletes) three in
    record { is = first_so (is_soa b.old) _ two; unlike = not_true _ (second_so (is_soa b.old) _ two); plain = second_so _ (list_all is_plain b.deletes) three }

read_batch : (s old : Record) (deletes adds : List Record) (new : Option Record) (more : List Batch) (end : Option Ending)
    → are_batches s (is_some end) (record { old = old; deletes = deletes; new = new; adds = adds } ∷ more) ≡ true
    → Reads s (flat_map batch_records more ++ ending_records end) more end → StartsSoa (flat_map batch_records more ++ ending_records end)
    → Reads s (batch_records (record { old = old; deletes = deletes; new = new; adds = adds }) ++ (flat_map batch_records more ++ ending_records end)) (record { old = old; deletes = deletes; new = new; adds = adds } ∷ more) end
read_batch s old deletes adds (Some n) more end h r starts =
    let b : Batch = record { old = old; deletes = deletes; new = Some n; adds = adds } in
    let tail : List Record = flat_map batch_records more ++ ending_records end in
    let is = first_batch s (is_some end) b more h in
    let p = parts s b is in
    let new_is : (is_soa n && list_all is_plain adds) ≡ true = second_so _ _ is in
    let P : List Record → Type 0 = λ l. Reads s l (b ∷ more) end in
    subst P (sym (append_assoc (old ∷ deletes) (n ∷ adds) tail)) (two_read s old deletes n adds tail more end p.is p.unlike p.plain (first_so (is_soa n) (list_all is_plain adds) new_is) (second_so (is_soa n) (list_all is_plain adds) new_is) starts r)
read_batch s old deletes [] None [] None h r starts =
    let b : Batch = record { old = old; deletes = deletes; new = None; adds = [] } in
    let p = parts s b (first_batch s false b [] h) in
    let P : List Record → Type 0 = λ l. Reads s l (b ∷ []) None in
    subst P (sym (append-nil (old ∷ deletes ++ []))) (one_read s old deletes p.is p.unlike p.plain)
read_batch s old deletes (x ∷ adds) None [] None h r starts = let f : false ≡ true = second_so _ _ (first_batch s false (record { old = old; deletes = deletes; new = None; adds = x ∷ adds }) [] h) in cc
read_batch s old deletes adds None [] (Some e) h r starts = let f : false ≡ true = second_so (is_batch s (record { old = old; deletes = deletes; new = None; adds = adds })) _ h in cc
read_batch s old deletes adds None (c ∷ more) end h r starts = let f : false ≡ true = second_so (is_batch s (record { old = old; deletes = deletes; new = None; adds = adds })) _ (first_so _ _ h) in cc

batch_starts : (s : Record) (b : Batch) (rs : List Record) → is_batch s b ≡ true → StartsSoa (batch_records b ++ rs)
batch_starts s b rs h = (parts s b h).is

-- all batches and the end are read back
all_read : (s : Record) (end : Option Ending) (bs : List Batch) → are_batches s (is_some end) bs ≡ true → is_ending s end ≡ true
    → Reads s (flat_map batch_records bs ++ ending_records end) bs end × StartsSoa (flat_map batch_records bs ++ ending_records end)
all_read s end [] h is = (end_reads s end is, end_starts s end is)
all_read s end (b ∷ more) h is =
    let rest = all_read s end more (more_batches s (is_some end) b more h) is in
    let tail : List Record = flat_map batch_records more ++ ending_records end in
    let P : List Record → Type 0 = λ l. Reads s l (b ∷ more) end × StartsSoa l in
    subst P (sym (append_assoc (batch_records b) (flat_map batch_records more) (ending_records end)))
    (read_batch s b.old b.deletes b.adds b.new more end h rest.0 rest.1, batch_starts s b tail (first_batch s (is_some end) b more h))

-- a whole text
whole_end : (s : Record) (end : Option Ending) → is_ending s end ≡ true → before (is_same_soa s) (ending_records end) ≡ []
whole_end s None h = refl
whole_end s (Some end) h = ap (λ b. if b then [] else end.last ∷ before (is_same_soa s) end.rest) h

whole_ending_reads : (s : Record) (end : Option Ending) (middle : List Record) → list_all (λ r. not (is_same_soa s r)) middle ≡ true → is_ending s end ≡ true → whole_ending s (middle ++ ending_records end) ≡ end
whole_ending_reads s None [] h is = refl
whole_ending_reads s (Some end) [] h is = ap (λ b. if b then Some end else whole_ending s end.rest) is
whole_ending_reads s end (r ∷ more) h is =
    let e : Ending = record { last = r; rest = more ++ ending_records end } in
    ap (λ b. if b then Some e else whole_ending s (more ++ ending_records end)) (not_true (is_same_soa s r) (first_so (not (is_same_soa s r)) _ h)) ∙ whole_ending_reads s end more (second_so (not (is_same_soa s r)) _ h) is

whole_reads_on : (s : Record) (middle : List Record) (end : Option Ending) → list_all (λ r. not (is_same_soa s r)) middle ≡ true → is_ending s end ≡ true
    → Whole s (before (is_same_soa s) (middle ++ ending_records end)) (whole_ending s (middle ++ ending_records end)) ≡ Whole s middle end
whole_reads_on s middle end h is =
    ap (λ l. Whole s l (whole_ending s (middle ++ ending_records end))) (before-append (is_same_soa s) middle (ending_records end) h ∙ ap (λ l. middle ++ l) (whole_end s end is) ∙ append-nil middle)
    ∙ ap (Whole s middle) (whole_ending_reads s end middle h is)

changes_read_on : (s : Record) (bs : List Batch) (end : Option Ending) → are_batches s (is_some end) bs ≡ true → is_ending s end ≡ true
    → Changes s (batches_in s (sections (flat_map batch_records bs ++ ending_records end))) (ending_in s (sections (flat_map batch_records bs ++ ending_records end))) ≡ Changes s bs end
changes_read_on s bs end h is =
    let r = (all_read s end bs h is).0 in ap (λ l. Changes s l (ending_in s (sections (flat_map batch_records bs ++ ending_records end)))) r.batches ∙ ap (Changes s bs) r.ending

-- whether a list is read in the incremental form
incremental : (s : Record) (rs : List Record) → StartsSoa rs → is_incremental Ixfr rs ≡ true
incremental s [] h = refl
incremental s (r ∷ more) h = h

plain_first : (middle rest : List Record) → begins_plain Ixfr middle ≡ true → is_incremental Ixfr (middle ++ rest) ≡ false
plain_first [] rest h = cc
plain_first (r ∷ more) rest h = not_true (is_soa r) h

pub only_this : ReadsOnly
only_this Axfr (Whole s middle end) h =
    whole_reads_on s middle end (second_so _ (list_all (λ r. not (is_same_soa s r)) middle) (first_so _ (is_ending s end) h)) (second_so _ (is_ending s end) h)
only_this Ixfr (Whole s middle end) h =
    let three = first_so _ (is_ending s end) h in
    let two = first_so _ (list_all (λ r. not (is_same_soa s r)) middle) three in
    let rs : List Record = middle ++ ending_records end in
    ap (λ b. if b then Changes s (batches_in s (sections rs)) (ending_in s (sections rs)) else Whole s (before (is_same_soa s) rs) (whole_ending s rs)) (plain_first middle (ending_records end) (second_so (is_soa s) _ two))
    ∙ whole_reads_on s middle end (second_so _ (list_all (λ r. not (is_same_soa s r)) middle) three) (second_so _ (is_ending s end) h)
only_this Axfr (Changes s bs end) h = cc
only_this Ixfr (Changes s bs end) h =
    let are = second_so (is_soa s) (are_batches s (is_some end) bs) (first_so _ (is_ending s end) h) in
    let is = second_so _ (is_ending s end) h in
    let rs : List Record = flat_map batch_records bs ++ ending_records end in
    ap (λ b. if b then Changes s (batches_in s (sections rs)) (ending_in s (sections rs)) else Whole s (before (is_same_soa s) rs) (whole_ending s rs)) (incremental s rs (all_read s end bs are is).1)
    ∙ changes_read_on s bs end are is
