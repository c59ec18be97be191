-- What a list is read as is a text of the grammar.
use Rattle.std.proofs.Common.{◌≡◌, Bool, true, false, ◌&&◌, ◌||◌, not, if◌then◌else◌, List, [], ◌∷◌, ◌++◌, flat_map, refl, ap, ◌∙◌, Some, None, is_some}
use Rattle.std.specs.List.{list_all}
use Rattle.std.specs.Cmp.Derive.{both_true}
use Rattle.dns_name.specs.Records.{Record, same_data}
use Rattle.zone_model.specs.TransferText.{Axfr, Ixfr, Whole, Changes, Batch, Ending, Section, before, is_soa, is_plain, is_same_soa, sections, section_records, batches_in, ending_in, whole_ending, is_batch, are_batches, is_ending, begins_plain, is_text, ReadsText}

-- no record before the first that passes passes
before_fails : (p : Record → Bool) (rs : List Record) → list_all (λ r. not (p r)) (before p rs) ≡ true
before_fails p [] = refl
before_fails p (r ∷ more) = by (p r) refl (before_fails p more)
  where
    by : (b : Bool) → p r ≡ b → list_all (λ x. not (p x)) (before p more) ≡ true → list_all (λ x. not (p x)) (if b then [] else r ∷ before p more) ≡ true
    by true e h = refl
    by false e h = ap (λ c. not c && list_all (λ x. not (p x)) (before p more)) e ∙ h

-- each section begins with an SOA and has no other
abbrev AllSections : List Section → Type 0
AllSections [] = Unit {0}
AllSections (t ∷ more) = (is_soa t.head ≡ true) × (list_all is_plain t.body ≡ true) × AllSections more

sections_are : (rs : List Record) → AllSections (sections rs)
sections_are [] = tt
sections_are (r ∷ more) = by (is_soa r) refl (sections_are more)
  where
    t : Section
    t = record { head = r; body = before is_soa more }

    by : (b : Bool) → is_soa r ≡ b → AllSections (sections more) → AllSections (if b then record { head = r; body = before is_soa more } ∷ sections more else sections more)
    by true e h = (e, before_fails is_soa more, h)
    by false e h = h

cons_batches : (s : Record) (ended : Bool) (b : Batch) (bs : List Batch) → is_batch s b ≡ true → is_some b.new ≡ true → are_batches s ended bs ≡ true → are_batches s ended (b ∷ bs) ≡ true
cons_batches s ended b [] is new h = both_true is (ap (λ n. n || not ended) new)
cons_batches s ended b (c ∷ bs) is new h = both_true (both_true is new) h

-- deletes and adds of two sections make a batch
two_sections : (s : Record) (t u : Section) → is_soa t.head ≡ true → list_all is_plain t.body ≡ true → is_soa u.head ≡ true → list_all is_plain u.body ≡ true → is_same_soa s t.head ≡ false
    → is_batch s (record { old = t.head; deletes = t.body; new = Some u.head; adds = u.body }) ≡ true
two_sections s t u a b c d e = both_true (both_true (both_true a (ap not e)) b) (both_true c d)

one_section : (s : Record) (t : Section) → is_soa t.head ≡ true → list_all is_plain t.body ≡ true → is_same_soa s t.head ≡ false → is_batch s (record { old = t.head; deletes = t.body; new = None; adds = [] }) ≡ true
one_section s t a b e = both_true (both_true (both_true a (ap not e)) b) refl

batches_are : (s : Record) (ts : List Section) → AllSections ts → are_batches s (is_some (ending_in s ts)) (batches_in s ts) ≡ true
batches_are s [] h = refl
batches_are s (t ∷ []) h = by (is_same_soa s t.head) refl
  where
    b : Batch
    b = record { old = t.head; deletes = t.body; new = None; adds = [] }

    by : (c : Bool) → is_same_soa s t.head ≡ c → are_batches s (is_some {T = Ending} (if c then Some (record { last = t.head; rest = t.body }) else None)) (if c then [] else record { old = t.head; deletes = t.body; new = None; adds = [] } ∷ []) ≡ true
    by true e = refl
    by false e = both_true (one_section s t h.0 h.1 e) refl
batches_are s (t ∷ u ∷ more) h = by (is_same_soa s t.head) refl (batches_are s more h.2.2)
  where
    by : (c : Bool) → is_same_soa s t.head ≡ c → are_batches s (is_some (ending_in s more)) (batches_in s more) ≡ true
        → are_batches s (is_some {T = Ending} (if c then Some (record { last = t.head; rest = t.body ++ section_records u ++ flat_map section_records more }) else ending_in s more)) (if c then [] else record { old = t.head; deletes = t.body; new = Some u.head; adds = u.body } ∷ batches_in s more) ≡ true
    by true e g = refl
    by false e g = cons_batches s (is_some (ending_in s more)) (record { old = t.head; deletes = t.body; new = Some u.head; adds = u.body }) (batches_in s more) (two_sections s t u h.0 h.1 h.2.0 h.2.1 e) refl g

ending_is : (s : Record) (ts : List Section) → is_ending s (ending_in s ts) ≡ true
ending_is s [] = refl
ending_is s (t ∷ []) = by (is_same_soa s t.head) refl
  where
    by : (c : Bool) → is_same_soa s t.head ≡ c → is_ending s (if c then Some (record { last = t.head; rest = t.body }) else None) ≡ true
    by true e = e
    by false e = refl
ending_is s (t ∷ u ∷ more) = by (is_same_soa s t.head) refl (ending_is s more)
  where
    by : (c : Bool) → is_same_soa s t.head ≡ c → is_ending s (ending_in s more) ≡ true → is_ending s (if c then Some (record { last = t.head; rest = t.body ++ section_records u ++ flat_map section_records more }) else ending_in s more) ≡ true
    by true e h = e
    by false e h = h

whole_ending_is : (s : Record) (rs : List Record) → is_ending s (whole_ending s rs) ≡ true
whole_ending_is s [] = refl
whole_ending_is s (r ∷ more) = by (is_same_soa s r) refl (whole_ending_is s more)
  where
    by : (c : Bool) → is_same_soa s r ≡ c → is_ending s (whole_ending s more) ≡ true → is_ending s (if c then Some (record { last = r; rest = more }) else whole_ending s more) ≡ true
    by true e h = e
    by false e h = h

-- the middle of a whole text begins with the second record, if that is no SOA
begins : (s r : Record) (more : List Record) → is_soa r ≡ false → begins_plain Ixfr (before (is_same_soa s) (r ∷ more)) ≡ true
begins s r more e = ap (λ c. begins_plain Ixfr (if c then [] else r ∷ before (is_same_soa s) more)) (ap (λ b. b && same_data s.fields r.fields) e) ∙ ap not e

by_second : (s r : Record) (more : List Record) → is_soa s ≡ true → (b : Bool) → is_soa r ≡ b
    → is_text Ixfr (if b then Changes s (batches_in s (sections (r ∷ more))) (ending_in s (sections (r ∷ more))) else Whole s (before (is_same_soa s) (r ∷ more)) (whole_ending s (r ∷ more))) ≡ true
by_second s r more is true e = both_true (both_true is (batches_are s (sections (r ∷ more)) (sections_are (r ∷ more)))) (ending_is s (sections (r ∷ more)))
by_second s r more is false e = both_true (both_true (both_true is (begins s r more e)) (before_fails (is_same_soa s) (r ∷ more))) (whole_ending_is s (r ∷ more))

pub reads_text : ReadsText
reads_text Axfr s more is = both_true (both_true (both_true is refl) (before_fails (is_same_soa s) more)) (whole_ending_is s more)
reads_text Ixfr s [] is = both_true (both_true is refl) refl
reads_text Ixfr s (r ∷ more) is = by_second s r more is (is_soa r) refl
