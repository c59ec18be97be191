-- Updates one by one, up to the first refusal, commit what is spelt.
use Rattle.std.proofs.Common.{◌≡◌, Bool, true, false, ◌&&◌, if◌then◌else◌, List, [], ◌∷◌, ◌++◌, map, flat_map, refl, sym, ap, ◌∙◌, append_assoc, append-nil, subst, Option, Some, None, is_some, Result, Ok, Err}
use Rattle.std.specs.Option.{option_map_or, option_map}
use Rattle.std.specs.List.{list_all}
use Rattle.std.specs.Cmp.{first_so, second_so}
use Rattle.dns_name.specs.Names.{under}
use Rattle.dns_rdata.specs.Records.{Record, same_data}
use Rattle.zone_model.specs.Version.{Version}
use Rattle.zone_model.specs.Edits.{Refusal, with_sets, has_data, add, add_all, delete, delete_all, set_soa, close, and_then}
use Rattle.zone_model.specs.TransferText.{no_records, Axfr, Ixfr, Text, Whole, Changes, Batch, Ending, Section, before, is_soa, is_plain, is_same_soa, are_batches, is_ending, sections, section_records, batches_in, ending_in, whole_ending}
use Rattle.zone_model.specs.Spells.{Spelling, add_all_new, apply_new, apply_batch, spell_changes, spell_whole, spell_text}
use Rattle.zone_model.specs.Updates.{Update, DeleteAllRecords, DeleteRecord, AddRecord, BeginBatchAdd, Progress, UpdateFault, Edit, NotSoaRecord, apply_update, begin, updates_of, edited, with_soa, finish, batch_updates, end_update}
use Rattle.xfr_model.specs.Applying.{Applied, unless_refused, apply_all, then_applied, AppliesOn, AppliedSays, CommitsToRefusal, CommitsRead}
use Rattle.zone_model.proofs.Applied.{first_batch, more_batches}

pub applies_on : AppliesOn
applies_on p [] more = refl
applies_on p (u ∷ us) more =
    elim (apply_update p u) as (λ z. unless_refused p (λ q. apply_all q (us ++ more)) z ≡ then_applied (unless_refused p (λ q. apply_all q us) z) more) [
      | Ok q ↦ applies_on q us more
      | Err e ↦ refl
    ]

-- progress that isn't finished
abbrev st : List Version → Version → Bool → Progress
st c v b = record { committed = c; pending = v; replacing = b; finished = false }

-- a refusal, with what was committed by then
pub record Halts (a : Applied) (c : List Version) (e : Refusal) : Type 0 where
  pub committed : a.progress.committed ≡ c
  pub refused : a.refused ≡ Some (Edit e)

-- some updates, with more after them, lead where a result says
abbrev Leads : (List Update → Applied) → List Version → Bool → Result Version Refusal → Type 0
Leads F c b (Ok w) = (us : List Update) → F us ≡ apply_all (st c w b) us
Leads F c b (Err e) = (us : List Update) → Halts (F us) c e

leads_same : (F G : List Update → Applied) (c : List Version) (b : Bool) (o : Result Version Refusal) → ((us : List Update) → F us ≡ G us) → Leads G c b o → Leads F c b o
leads_same F G c b (Ok w) h g = λ us. h us ∙ g us
leads_same F G c b (Err e) h g = λ us. record { committed = ap (λ a. a.progress.committed) (h us) ∙ (g us).committed; refused = ap (λ a. a.refused) (h us) ∙ (g us).refused }

leads_then : (F : List Update → Applied) (us : List Update) (c : List Version) (b : Bool) (o : Result Version Refusal) (next : Version → Result Version Refusal) → Leads F c b o
    → ((w : Version) → Leads (λ vs. apply_all (st c w b) (us ++ vs)) c b (next w)) → Leads (λ vs. F (us ++ vs)) c b (and_then o next)
leads_then F us c b (Ok w) next f g = leads_same (λ vs. F (us ++ vs)) (λ vs. apply_all (st c w b) (us ++ vs)) c b (next w) (λ vs. f (us ++ vs)) (g w)
leads_then F us c b (Err e) next f g = λ vs. f (us ++ vs)

deletes : (ds : List Record) (c : List Version) (v : Version) (b : Bool) → Leads (λ us. apply_all (st c v b) (map DeleteRecord ds ++ us)) c b (delete_all v ds)
deletes [] c v b = λ us. refl
deletes (r ∷ ds) c v b =
    elim (delete v r) as (λ o. Leads (λ us. unless_refused (st c v b) (λ q. apply_all q (map DeleteRecord ds ++ us)) (edited (st c v b) o)) c b (and_then o (λ x. delete_all x ds))) [
      | Ok x ↦ deletes ds c x b
      | Err e ↦ λ us. record { committed = refl; refused = refl }
    ]

adds : (rs : List Record) (c : List Version) (v : Version) → Leads (λ us. apply_all (st c v false) (map AddRecord rs ++ us)) c false (add_all v rs)
adds [] c v = λ us. refl
adds (r ∷ rs) c v =
    elim (add v r) as (λ o. Leads (λ us. unless_refused (st c v false) (λ q. apply_all q (map AddRecord rs ++ us)) (edited (st c v false) o)) c false (and_then o (λ x. add_all x rs))) [
      | Ok x ↦ adds rs c x
      | Err e ↦ λ us. record { committed = refl; refused = refl }
    ]

adds_new : (rs : List Record) (c : List Version) (v : Version) → Leads (λ us. apply_all (st c v true) (map AddRecord rs ++ us)) c true (add_all_new v rs)
adds_new [] c v = λ us. refl
adds_new (r ∷ rs) c v =
    elim (under r.owner v.apex && has_data v r) as (λ t. Leads (λ us. unless_refused (st c v true) (λ q. apply_all q (map AddRecord rs ++ us)) (if t then Ok (st c v true) else edited (st c v true) (add v r))) c true (and_then (if t then Ok v else add v r) (λ x. add_all_new x rs))) [
      | true ↦ adds_new rs c v
      | false ↦ elim (add v r) as (λ o. Leads (λ us. unless_refused (st c v true) (λ q. apply_all q (map AddRecord rs ++ us)) (edited (st c v true) o)) c true (and_then o (λ x. add_all_new x rs))) [
        | Ok x ↦ adds_new rs c x
        | Err e ↦ λ us. record { committed = refl; refused = refl }
      ]
    ]

soa_taken : (p : Progress) (r : Record) → is_soa r ≡ true → with_soa p r ≡ Ok (record p { pending = set_soa p.pending r })
soa_taken p r e = ap (λ b. if b then Ok (record p { pending = set_soa p.pending r }) else Err NotSoaRecord) e

-- the SOA records of a text's second halves, and of its end, are some
abbrev NewIsSoa : Option Record → Type 0
NewIsSoa None = Unit {0}
NewIsSoa (Some n) = is_soa n ≡ true

abbrev NewSoas : List Batch → Type 0
NewSoas [] = Unit {0}
NewSoas (b ∷ more) = NewIsSoa b.new × NewSoas more

abbrev EndIsSoa : Option Ending → Type 0
EndIsSoa None = Unit {0}
EndIsSoa (Some end) = is_soa end.last ≡ true

abbrev second : Option Record → List Record → List Update
second new rs = option_map_or (λ n. BeginBatchAdd n ∷ map AddRecord rs) new []

second_half : (c : List Version) (v : Version) (new : Option Record) (rs : List Record) → NewIsSoa new → Leads (λ us. apply_all (st c v false) (second new rs ++ us)) c false (apply_new v rs new)
second_half c v None rs is = λ us. refl
second_half c v (Some n) rs is =
    let P : Result Progress UpdateFault → Type 0 = λ z. Leads (λ us. unless_refused (st c v false) (λ q. apply_all q (map AddRecord rs ++ us)) z) c false (add_all (set_soa v n) rs) in
    subst P (sym (soa_taken (st c v false) n is)) (adds rs c (set_soa v n))

batch : (c : List Version) (v : Version) (b : Batch) → NewIsSoa b.new → Leads (λ us. apply_all (st c v false) (batch_updates b ++ us)) (c ++ close v ∷ []) false (apply_batch (close v) b)
batch c v b is =
    let d : List Version = c ++ close v ∷ [] in
    let F : List Update → Applied = λ us. apply_all (st d (close v) false) (map DeleteRecord b.deletes ++ us) in
    leads_same (λ us. apply_all (st c v false) (batch_updates b ++ us)) (λ us. F (second b.new b.adds ++ us)) d false (apply_batch (close v) b)
    (λ us. ap (apply_all (st d (close v) false)) (append_assoc (map DeleteRecord b.deletes) (second b.new b.adds) us))
    (leads_then F (second b.new b.adds) d false (delete_all (close v) b.deletes) (λ w. apply_new w b.adds b.new) (deletes b.deletes d (close v) false) (λ w. second_half d w b.new b.adds is))

-- all that is applied, after versions committed before
pub record Says (a : Applied) (c : List Version) (s : Spelling) : Type 0 where
  pub versions : a.progress.committed ≡ c ++ s.versions
  pub refused : a.refused ≡ option_map Edit s.fault

ended : (c : List Version) (v : Version) (b : Bool) (end : Ending) → is_soa end.last ≡ true → apply_all (st c v b) (end_update (Some end)) ≡ record { progress = record { committed = c ++ close (set_soa v end.last) ∷ []; pending = close (set_soa v end.last); replacing = false; finished = true }; refused = None }
ended c v b end is = ap (λ z. unless_refused (st c v b) (λ q. apply_all q []) (finish z)) (soa_taken (st c v b) end.last is)

after_batch : (c : List Version) (v : Version) (F : List Update → Applied) (us : List Update) (more : List Batch) (end : Option Ending) (o : Result Version Refusal) → Leads F (c ++ close v ∷ []) false o
    → ((w : Version) → Says (apply_all (st (c ++ close v ∷ []) w false) us) (c ++ close v ∷ []) (spell_changes more end (Ok w)))
    → Says (F us) c (record { versions = close v ∷ (spell_changes more end o).versions; fault = (spell_changes more end o).fault })
after_batch c v F us more end (Ok w) f next = record {
  versions = ap (λ a. a.progress.committed) (f us) ∙ (next w).versions ∙ append_assoc c (close v ∷ []) (spell_changes more end (Ok w)).versions;
  refused = ap (λ a. a.refused) (f us) ∙ (next w).refused;
}
after_batch c v F us more end (Err e) f next = record { versions = (f us).committed; refused = (f us).refused }

changes : (end : Option Ending) (bs : List Batch) (c : List Version) (v : Version) → NewSoas bs → EndIsSoa end → Says (apply_all (st c v false) (flat_map batch_updates bs ++ end_update end)) c (spell_changes bs end (Ok v))
changes None [] c v news is = record { versions = sym (append-nil c); refused = refl }
changes (Some end) [] c v news is = record { versions = ap (λ a. a.progress.committed) (ended c v false end is); refused = ap (λ a. a.refused) (ended c v false end is) }
changes end (b ∷ more) c v news is =
    let us : List Update = flat_map batch_updates more ++ end_update end in
    let s = after_batch c v (λ l. apply_all (st c v false) (batch_updates b ++ l)) us more end (apply_batch (close v) b) (batch c v b news.0) (λ w. changes end more (c ++ close v ∷ []) w news.1 is) in
    let e = ap (apply_all (st c v false)) (append_assoc (batch_updates b) (flat_map batch_updates more) (end_update end)) in
    record { versions = ap (λ a. a.progress.committed) e ∙ s.versions; refused = ap (λ a. a.refused) e ∙ s.refused }

whole_says : (F : List Update → Applied) (end : Option Ending) (o : Result Version Refusal) → EndIsSoa end → Leads F [] true o → AppliedSays (F (end_update end)) (spell_whole end o)
whole_says F end (Err e) is f = record { versions = (f (end_update end)).committed; refused = (f (end_update end)).refused }
whole_says F None (Ok w) is f = record { versions = ap (λ a. a.progress.committed) (f []); refused = ap (λ a. a.refused) (f []) }
whole_says F (Some end) (Ok w) is f =
    let e = f (end_update (Some end)) ∙ ended [] w true end is in record { versions = ap (λ a. a.progress.committed) e; refused = ap (λ a. a.refused) e }

whole : (base : Version) (s : Record) (middle : List Record) (end : Option Ending) → EndIsSoa end → AppliedSays (apply_all (st [] base false) (DeleteAllRecords ∷ map AddRecord middle ++ end_update end)) (spell_text base (Whole s middle end))
whole base s middle end is = whole_says (λ us. apply_all (st [] (with_sets base []) true) (map AddRecord middle ++ us)) end (add_all_new (with_sets base []) middle) is (adds_new middle [] (with_sets base []))

all_changes : (base : Version) (s : Record) (bs : List Batch) (end : Option Ending) → NewSoas bs → EndIsSoa end → AppliedSays (apply_all (st [] base false) (flat_map batch_updates bs ++ end_update end)) (spell_text base (Changes s bs end))
all_changes base s bs end news is = let r = changes end bs [] base news is in record { versions = r.versions; refused = r.refused }

-- of a text of the grammar
new_is_soa : (new : Option Record) (rs : List Record) → option_map_or (λ n. is_soa n && list_all is_plain rs) new (no_records rs) ≡ true → NewIsSoa new
new_is_soa None rs h = tt
new_is_soa (Some n) rs h = first_so (is_soa n) (list_all is_plain rs) h

new_soas : (s : Record) (ended : Bool) (bs : List Batch) → are_batches s ended bs ≡ true → NewSoas bs
new_soas s ended [] h = tt
new_soas s ended (b ∷ more) h = (new_is_soa b.new b.adds (second_so _ _ (first_batch s ended b more h)), new_soas s ended more (more_batches s ended b more h))

end_is_soa : (s : Record) (end : Option Ending) → is_ending s end ≡ true → EndIsSoa end
end_is_soa s None h = tt
end_is_soa s (Some end) h = first_so (is_soa end.last) (same_data s.fields end.last.fields) h

pub commits_to_refusal : CommitsToRefusal
commits_to_refusal mode base (Whole s middle end) is = whole base s middle end (end_is_soa s end (second_so _ (is_ending s end) is))
commits_to_refusal Axfr base (Changes s bs end) is = cc
commits_to_refusal Ixfr base (Changes s bs end) is =
    all_changes base s bs end (new_soas s (is_some end) bs (second_so (is_soa s) (are_batches s (is_some end) bs) (first_so _ (is_ending s end) is))) (end_is_soa s end (second_so _ (is_ending s end) is))

-- of what a list is read as
abbrev Heads : List Section → Type 0
Heads [] = Unit {0}
Heads (t ∷ more) = (is_soa t.head ≡ true) × Heads more

heads : (rs : List Record) → Heads (sections rs)
heads [] = tt
heads (r ∷ more) = by (is_soa r) refl (heads more)
  where
    by : (b : Bool) → is_soa r ≡ b → Heads (sections more) → Heads (if b then record { head = r; body = before is_soa more } ∷ sections more else sections more)
    by true e h = (e, h)
    by false e h = h

news_read : (s : Record) (ts : List Section) → Heads ts → NewSoas (batches_in s ts)
news_read s [] h = tt
news_read s (t ∷ []) h =
    elim (is_same_soa s t.head) as (λ c. NewSoas (if c then [] else record { old = t.head; deletes = t.body; new = None; adds = [] } ∷ [])) [
      | true ↦ tt
      | false ↦ (tt, tt)
    ]
news_read s (t ∷ u ∷ more) h =
    elim (is_same_soa s t.head) as (λ c. NewSoas (if c then [] else record { old = t.head; deletes = t.body; new = Some u.head; adds = u.body } ∷ batches_in s more)) [
      | true ↦ tt
      | false ↦ (h.1.0, news_read s more h.1.1)
    ]

end_read : (s : Record) (ts : List Section) → Heads ts → EndIsSoa (ending_in s ts)
end_read s [] h = tt
end_read s (t ∷ []) h =
    elim (is_same_soa s t.head) as (λ c. EndIsSoa (if c then Some (record { last = t.head; rest = t.body }) else None)) [
      | true ↦ h.0
      | false ↦ tt
    ]
end_read s (t ∷ u ∷ more) h =
    elim (is_same_soa s t.head) as (λ c. EndIsSoa (if c then Some (record { last = t.head; rest = t.body ++ section_records u ++ flat_map section_records more }) else ending_in s more)) [
      | true ↦ h.0
      | false ↦ end_read s more h.1.1
    ]

whole_end_read : (s : Record) (rs : List Record) → EndIsSoa (whole_ending s rs)
whole_end_read s [] = tt
whole_end_read s (r ∷ more) = by (is_same_soa s r) refl (whole_end_read s more)
  where
    by : (b : Bool) → is_same_soa s r ≡ b → EndIsSoa (whole_ending s more) → EndIsSoa (if b then Some (record { last = r; rest = more }) else whole_ending s more)
    by true e h = first_so (is_soa r) (same_data s.fields r.fields) e
    by false e h = h

pub commits_read : CommitsRead
commits_read mode base [] = record { versions = refl; refused = refl }
commits_read Axfr base (s ∷ more) = whole base s (before (is_same_soa s) more) (whole_ending s more) (whole_end_read s more)
commits_read Ixfr base (s ∷ []) = all_changes base s [] None tt tt
commits_read Ixfr base (s ∷ r ∷ more) =
    let changed : Text = Changes s (batches_in s (sections (r ∷ more))) (ending_in s (sections (r ∷ more))) in
    let replaced : Text = Whole s (before (is_same_soa s) (r ∷ more)) (whole_ending s (r ∷ more)) in
    elim (is_soa r) as (λ b. AppliedSays (apply_all (begin base) (updates_of (if b then changed else replaced))) (spell_text base (if b then changed else replaced))) [
      | true ↦ all_changes base s (batches_in s (sections (r ∷ more))) (ending_in s (sections (r ∷ more))) (news_read s (sections (r ∷ more)) (heads (r ∷ more))) (end_read s (sections (r ∷ more)) (heads (r ∷ more)))
      | false ↦ whole base s (before (is_same_soa s) (r ∷ more)) (whole_ending s (r ∷ more)) (whole_end_read s (r ∷ more))
    ]
