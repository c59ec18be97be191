-- The updates of a text commit what the text spells.
use Rattle.std.proofs.Common.{◌≡◌, Bool, true, false, ◌&&◌, if◌then◌else◌, List, [], ◌∷◌, ◌++◌, map, flat_map, refl, sym, ap, ◌∙◌, append_assoc, append-nil, Option, Some, None, is_some, Result, Ok, Err}
use Rattle.std.specs.Option.{option_map_or}
use Rattle.std.specs.Result.{result_unwrap_or}
use Rattle.std.specs.List.{list_all}
use Rattle.std.specs.Cmp.{first_so, second_so}
use Rattle.dns_name.specs.Names.{under}
use Rattle.dns_name.specs.Records.{Record, same_data}
use Rattle.zone_model.specs.Version.{Version}
use Rattle.zone_model.specs.Edits.{Refusal, with_sets, has_data, add, add_all, delete, delete_all, set_soa, close, and_then}
use Rattle.zone_model.specs.TransferText.{no_records, Axfr, Ixfr, Whole, Changes, Batch, Ending, is_soa, is_plain, is_same_soa, is_batch, are_batches, is_ending}
use Rattle.zone_model.specs.Spells.{add_all_new, apply_new, apply_batch, spell_changes, spell_whole}
use Rattle.zone_model.specs.Updates.{Update, DeleteRecord, AddRecord, BeginBatchAdd, Progress, NotSoaRecord, edited, with_soa, finish, settled, progress, batch_updates, end_update, CommitsSpelling}

-- progress that isn't finished
abbrev st : List Version → Version → Bool → Progress
st c v b = record { committed = c; pending = v; replacing = b; finished = false }

one_value : {A E : Type 0} (x y : A) → ◌≡◌ {A = Result A E} (Ok x) (Ok y) → x ≡ y
one_value x y e = ap (λ r. result_unwrap_or r x) e

progress-append : (xs ys : List Update) (p : Progress) → progress p (xs ++ ys) ≡ progress (progress p xs) ys
progress-append [] ys p = refl
progress-append (u ∷ xs) ys p = progress-append xs ys _

deletes : (ds : List Record) (c : List Version) (v : Version) (b : Bool) (w : Version) → delete_all v ds ≡ Ok w → progress (st c v b) (map DeleteRecord ds) ≡ st c w b
deletes [] c v b w h = ap (λ x. st c x b) (one_value v w h)
deletes (r ∷ ds) c v b w h =
    elim (delete v r) as (λ o. and_then o (λ x. delete_all x ds) ≡ Ok w → progress (settled (st c v b) (edited (st c v b) o)) (map DeleteRecord ds) ≡ st c w b) [
      | Ok x ↦ λ g. deletes ds c x b w g
      | Err e ↦ λ g. cc
    ] h

adds : (rs : List Record) (c : List Version) (v : Version) (w : Version) → add_all v rs ≡ Ok w → progress (st c v false) (map AddRecord rs) ≡ st c w false
adds [] c v w h = ap (λ x. st c x false) (one_value v w h)
adds (r ∷ rs) c v w h =
    elim (add v r) as (λ o. and_then o (λ x. add_all x rs) ≡ Ok w → progress (settled (st c v false) (edited (st c v false) o)) (map AddRecord rs) ≡ st c w false) [
      | Ok x ↦ λ g. adds rs c x w g
      | Err e ↦ λ g. cc
    ] h

adds_new : (rs : List Record) (c : List Version) (v : Version) (w : Version) → add_all_new v rs ≡ Ok w → progress (st c v true) (map AddRecord rs) ≡ st c w true
adds_new [] c v w h = ap (λ x. st c x true) (one_value v w h)
adds_new (r ∷ rs) c v w h =
    elim (under r.owner v.apex && has_data v r) as (λ t. and_then (if t then Ok v else add v r) (λ x. add_all_new x rs) ≡ Ok w → progress (settled (st c v true) (if t then Ok (st c v true) else edited (st c v true) (add v r))) (map AddRecord rs) ≡ st c w true) [
      | true ↦ λ g. adds_new rs c v w g
      | false ↦ λ g. elim (add v r) as (λ o. and_then o (λ x. add_all_new x rs) ≡ Ok w → progress (settled (st c v true) (edited (st c v true) o)) (map AddRecord rs) ≡ st c w true) [
        | Ok x ↦ λ k. adds_new rs c x w k
        | Err e ↦ λ k. cc
      ] g
    ] h

soa_taken : (p : Progress) (r : Record) → is_soa r ≡ true → with_soa p r ≡ Ok (record p { pending = set_soa p.pending r })
soa_taken p r e = ap (λ b. if b then Ok (record p { pending = set_soa p.pending r }) else Err NotSoaRecord) e

-- the SOA of a batch's second half is one
abbrev NewIsSoa : Option Record → Type 0
NewIsSoa None = Unit {0}
NewIsSoa (Some n) = is_soa n ≡ true

second_half : (c : List Version) (v : Version) (new : Option Record) (rs : List Record) (w : Version) → NewIsSoa new → apply_new v rs new ≡ Ok w
    → progress (st c v false) (option_map_or (λ n. BeginBatchAdd n ∷ map AddRecord rs) new []) ≡ st c w false
second_half c v None rs w is h = ap (λ x. st c x false) (one_value v w h)
second_half c v (Some n) rs w is h = ap (λ z. progress (settled (st c v false) z) (map AddRecord rs)) (soa_taken (st c v false) n is) ∙ adds rs c (set_soa v n) w h

batch : (c : List Version) (v : Version) (b : Batch) (w : Version) → NewIsSoa b.new → apply_batch (close v) b ≡ Ok w → progress (st c v false) (batch_updates b) ≡ st (c ++ close v ∷ []) w false
batch c v b w is h = by (delete_all (close v) b.deletes) refl h
  where
    d : List Version
    d = c ++ close v ∷ []

    second : List Update
    second = option_map_or (λ n. BeginBatchAdd n ∷ map AddRecord b.adds) b.new []

    by : (o : Result Version Refusal) → delete_all (close v) b.deletes ≡ o → and_then o (λ x. apply_new x b.adds b.new) ≡ Ok w → progress (st d (close v) false) (map DeleteRecord b.deletes ++ second) ≡ st d w false
    by (Ok x) e g = progress-append (map DeleteRecord b.deletes) second (st d (close v) false) ∙ ap (λ p. progress p second) (deletes b.deletes d (close v) false x e) ∙ second_half d x b.new b.adds w is g
    by (Err k) e g = cc

new_is_soa : (new : Option Record) (rs : List Record) → option_map_or (λ n. is_soa n && list_all is_plain rs) new (no_records rs) ≡ true → NewIsSoa new
new_is_soa None rs h = tt
new_is_soa (Some n) rs h = first_so (is_soa n) (list_all is_plain rs) h

batch_is : (s : Record) (b : Batch) → is_batch s b ≡ true → NewIsSoa b.new
batch_is s b h = new_is_soa b.new b.adds (second_so _ _ h)

pub first_batch : (s : Record) (ended : Bool) (b : Batch) (more : List Batch) → are_batches s ended (b ∷ more) ≡ true → is_batch s b ≡ true
first_batch s ended b [] h = first_so _ _ h
first_batch s ended b (c ∷ more) h = first_so (is_batch s b) (is_some b.new) (first_so _ _ h)

pub more_batches : (s : Record) (ended : Bool) (b : Batch) (more : List Batch) → are_batches s ended (b ∷ more) ≡ true → are_batches s ended more ≡ true
more_batches s ended b [] h = refl
more_batches s ended b (c ∷ more) h = second_so (is_batch s b && is_some b.new) _ h

-- the end commits the version with its SOA
ended : (s : Record) (c : List Version) (v : Version) (b : Bool) (end : Ending) → is_same_soa s end.last ≡ true → (progress (st c v b) (end_update (Some end))).committed ≡ c ++ close (set_soa v end.last) ∷ []
ended s c v b end h = ap (λ z. (settled (st c v b) (finish z)).committed) (soa_taken (st c v b) end.last (first_so (is_soa end.last) (same_data s.fields end.last.fields) h))

-- the batches after one, given what they commit
after_batch : (c : List Version) (v : Version) (b : Batch) (more : List Batch) (end : Option Ending) (o : Result Version Refusal) → NewIsSoa b.new → apply_batch (close v) b ≡ o
    → ((w : Version) → (spell_changes more end (Ok w)).fault ≡ None → (progress (st (c ++ close v ∷ []) w false) (flat_map batch_updates more ++ end_update end)).committed ≡ (c ++ close v ∷ []) ++ (spell_changes more end (Ok w)).versions)
    → (spell_changes more end o).fault ≡ None → (progress (progress (st c v false) (batch_updates b)) (flat_map batch_updates more ++ end_update end)).committed ≡ c ++ close v ∷ (spell_changes more end o).versions
after_batch c v b more end (Ok w) is e next g =
    ap (λ p. (progress p (flat_map batch_updates more ++ end_update end)).committed) (batch c v b w is e) ∙ next w g ∙ append_assoc c (close v ∷ []) (spell_changes more end (Ok w)).versions
after_batch c v b more end (Err k) is e next g = cc

changes : (s : Record) (end : Option Ending) (batches : List Batch) (c : List Version) (v : Version) → are_batches s (is_some end) batches ≡ true → is_ending s end ≡ true
    → (spell_changes batches end (Ok v)).fault ≡ None → (progress (st c v false) (flat_map batch_updates batches ++ end_update end)).committed ≡ c ++ (spell_changes batches end (Ok v)).versions
changes s None [] c v are is h = sym (append-nil c)
changes s (Some end) [] c v are is h = ended s c v false end is
changes s end (b ∷ more) c v are is h =
    ap (λ l. (progress (st c v false) l).committed) (append_assoc (batch_updates b) (flat_map batch_updates more) (end_update end))
    ∙ ap (λ p. p.committed) (progress-append (batch_updates b) (flat_map batch_updates more ++ end_update end) (st c v false))
    ∙ after_batch c v b more end (apply_batch (close v) b) (batch_is s b (first_batch s (is_some end) b more are)) refl
    (λ w g. changes s end more (c ++ close v ∷ []) w (more_batches s (is_some end) b more are) is g) h

-- a whole text, given what its records made
whole : (s : Record) (base : Version) (middle : List Record) (end : Option Ending) (o : Result Version Refusal) → is_ending s end ≡ true → add_all_new (with_sets base []) middle ≡ o → (spell_whole end o).fault ≡ None
    → (progress (st [] (with_sets base []) true) (map AddRecord middle ++ end_update end)).committed ≡ (spell_whole end o).versions
whole s base middle None (Ok w) is e h =
    ap (λ p. p.committed) (progress-append (map AddRecord middle) [] (st [] (with_sets base []) true) ∙ adds_new middle [] (with_sets base []) w e)
whole s base middle (Some end) (Ok w) is e h =
    ap (λ p. p.committed) (progress-append (map AddRecord middle) (end_update (Some end)) (st [] (with_sets base []) true))
    ∙ ap (λ p. (progress p (end_update (Some end))).committed) (adds_new middle [] (with_sets base []) w e)
    ∙ ended s [] w true end is
whole s base middle end (Err k) is e h = cc

pub commits_spelling : CommitsSpelling
commits_spelling mode base (Whole s middle end) is h = whole s base middle end (add_all_new (with_sets base []) middle) (second_so _ (is_ending s end) is) refl h
commits_spelling Axfr base (Changes s batches end) is h = cc
commits_spelling Ixfr base (Changes s batches end) is h =
    changes s end batches [] base (second_so (is_soa s) (are_batches s (is_some end) batches) (first_so _ (is_ending s end) is)) (second_so _ (is_ending s end) is) h
