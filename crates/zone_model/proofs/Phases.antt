-- What adding or deleting the records of many sets does to a version's sets, as look-ups.
use Rattle.std.proofs.Common.{◌≡◌, ℕ, Bool, true, false, cond, ◌&&◌, ◌==◌, List, [], ◌∷◌, ◌++◌, flat_map, refl, sym, ap, ◌∙◌, subst, Equal, is_eq, Option, Some, None, Result, Ok, Err}
use Rattle.std.specs.List.{AllByRecursion}
use Rattle.std.specs.Cmp.{Equal-is, tied_back}
use Rattle.std.specs.Map.{keys_of}
use Rattle.std.proofs.lemmas.Map.Keys.{sorted_tail}
use Rattle.dns_name.specs.Names.{Name, fold, under, same_name}
use Rattle.dns_name.specs.Records.{Field, Record}
use Rattle.dns_numbers.specs.Codes.{type_cname}
use Rattle.zone_model.specs.Version.{RecordSet, Key, Sets, Version, key_cmp, set_in, below_apex}
use Rattle.zone_model.specs.Answer.{records_of}
use Rattle.zone_model.specs.Walk.{shown_owner}
use Rattle.zone_model.specs.Edits.{Refusal, with_sets, add, delete, add_all, delete_all, and_then}
use Rattle.zone_model.specs.Spells.{add_new, add_all_new}
use Rattle.zone_model.proofs.Folded.{key_total, same_name-Decides, under_alike}
use Rattle.zone_model.proofs.Ordered.{past_head, apart_from_tail, in_tail, at_head}
use Rattle.zone_model.proofs.Steps.{Good, Does, set_of, below_alike}

-- the owner that is shown folds as the owner
pub shown_folds : (u : Version) (n : Name) → fold (shown_owner u n) ≡ fold n
shown_folds u n = by (same_name n u.apex) refl
  where
    by : (b : Bool) → same_name n u.apex ≡ b → fold (cond b u.apex n) ≡ fold n
    by true h = sym ((same_name-Decides n u.apex).0 h)
    by false h = refl

-- runs of edits one after the other
abbrev pub Appends : (Version → List Record → Result Version Refusal) → Type 0
Appends run = (v : Version) (xs ys : List Record) → run v (xs ++ ys) ≡ and_then (run v xs) (λ w. run w ys)

then_then : (r : Result Version Refusal) (f g : Version → Result Version Refusal) → and_then r (λ w. and_then (f w) g) ≡ and_then (and_then r f) g
then_then (Ok v) f g = refl
then_then (Err e) f g = refl

pub add_all-append : Appends add_all
add_all-append v [] ys = refl
add_all-append v (r ∷ xs) ys = (λ i. and_then (add v r) (λ w. add_all-append w xs ys i)) ∙ then_then (add v r) (λ w. add_all w xs) (λ w. add_all w ys)

pub delete_all-append : Appends delete_all
delete_all-append v [] ys = refl
delete_all-append v (r ∷ xs) ys = (λ i. and_then (delete v r) (λ w. delete_all-append w xs ys i)) ∙ then_then (delete v r) (λ w. delete_all w xs) (λ w. delete_all w ys)

pub add_all_new-append : Appends add_all_new
add_all_new-append v [] ys = refl
add_all_new-append v (r ∷ xs) ys = (λ i. and_then (add_new v r) (λ w. add_all_new-append w xs ys i)) ∙ then_then (add_new v r) (λ w. add_all_new w xs) (λ w. add_all_new w ys)

-- some data of each set as records, under the owner that is shown
abbrev pub recs : (Name → Name) → ℕ → (Key → RecordSet → List (List Field)) → Key × RecordSet → List Record
recs show cl g e = records_of (show e.0.0) e.0.1 cl (set_of e.1.ttl (g e.0 e.1))

abbrev pub AllInZone : Version → Sets → Type 0
AllInZone st es = AllByRecursion (λ (k : Key). under k.0 st.apex ≡ true) (keys_of es)

pub good_tail : (e : Key × RecordSet) (es : Sets) → Good (e ∷ es) → Good es
good_tail e es g = record { sorted = sorted_tail key_cmp e.0 (keys_of es) g.sorted; folded = g.folded.1 }

module _ (run : Version → List Record → Result Version Refusal) (append : Appends run) (H : ℕ → Option RecordSet → List (List Field) → Option RecordSet) (Can : Option RecordSet → Bool → List (List Field) → Type 0)
    (none : (v : Version) → run v [] ≡ Ok v) (st : Version)
    (one : (o : Name) (ty t cl : ℕ) (ds : List (List Field)) (es : Sets) → Good es → under o st.apex ≡ true → Can (set_in es (fold o, ty)) (below_apex st o && (ty == type_cname)) ds
    → Does run st es (records_of o ty cl (set_of t ds)) (λ q. cond (is_eq (key_cmp q (fold o, ty))) (H t (set_in es q) ds) (set_in es q)))
    (show : Name → Name) (show_folds : (n : Name) → fold (show n) ≡ fold n) (cl : ℕ) (g : Key → RecordSet → List (List Field)) (ties : (k q : Key) (s : RecordSet) → key_cmp k q ≡ Equal → g k s ≡ g q s) where
  abbrev pub after : Key → Option RecordSet → Option RecordSet → Option RecordSet
  after q old None = old
  after q old (Some s) = H s.ttl old (g q s)

  pub phase : (L : Sets) → Good L → AllInZone st L → (es : Sets) → Good es → ((q : Key) (s : RecordSet) → set_in L q ≡ Some s → Can (set_in es q) (below_apex st q.0 && (q.1 == type_cname)) (g q s))
      → Does run st es (flat_map (recs show cl g) L) (λ q. after q (set_in es q) (set_in L q))
  phase [] gl zl es ge fits = record { sets = es; good = ge; done = none (with_sets st es); found = λ q. refl }
  phase (e ∷ L) gl zl es ge fits =
      let o : Name = show e.0.0 in
      let ty : ℕ = e.0.1 in
      let ds : List (List Field) = g e.0 e.1 in
      let folds : fold o ≡ fold e.0.0 = show_folds e.0.0 in
      let same : e.0 ≡ (fold o, ty) = λ i. (sym (folds ∙ gl.folded.0) i, ty) in
      let can0 : Can (set_in es e.0) (below_apex st e.0.0 && (ty == type_cname)) ds = fits e.0 e.1 (at_head key_total e L) in
      let can1 : Can (set_in es (fold o, ty)) (below_apex st e.0.0 && (ty == type_cname)) ds = subst (λ k. Can (set_in es k) (below_apex st e.0.0 && (ty == type_cname)) ds) same can0 in
      let can2 : Can (set_in es (fold o, ty)) (below_apex st o && (ty == type_cname)) ds = subst (λ b. Can (set_in es (fold o, ty)) (b && (ty == type_cname)) ds) (below_alike st e.0.0 o (sym folds)) can1 in
      let step = one o ty e.1.ttl cl ds es ge (under_alike o e.0.0 st.apex st.apex folds refl ∙ zl.0) can2 in
      let now : (q : Key) → set_in step.sets q ≡ cond (is_eq (key_cmp q e.0)) (H e.1.ttl (set_in es q) ds) (set_in es q)
      = λ q. step.found q ∙ ap (λ k. cond (is_eq (key_cmp q k)) (H e.1.ttl (set_in es q) ds) (set_in es q)) (sym same) in
      let next = phase L (good_tail e L gl) zl.1 step.sets step.good (λ q s found.
      subst (λ z. Can z (below_apex st q.0 && (q.1 == type_cname)) (g q s))
      (sym (now q ∙ ap (λ b. cond b (H e.1.ttl (set_in es q) ds) (set_in es q)) (apart_from_tail key_total q s e L gl.sorted found)))
      (fits q s (in_tail key_total q s e L gl.sorted found))) in
      record {
        sets = next.sets;
        good = next.good;
        done = append (with_sets st es) (recs show cl g e) (flat_map (recs show cl g) L) ∙ ap (λ r. and_then r (λ w. run w (flat_map (recs show cl g) L))) step.done ∙ next.done;
        found = λ q. next.found q ∙ final q (set_in step.sets q) (set_in es q) (is_eq (key_cmp q e.0)) refl (now q);
      }
    where
      final : (q : Key) (x old : Option RecordSet) (b : Bool) → is_eq (key_cmp q e.0) ≡ b → x ≡ cond b (H e.1.ttl old (g e.0 e.1)) old → after q x (set_in L q) ≡ after q old (cond b (Some e.1) (set_in L q))
      final q x old true p f = ap (after q x) (past_head key_total q e L gl.sorted p) ∙ f ∙ ap (H e.1.ttl old) (ties e.0 q e.1 (tied_back key_total q e.0 ((Equal-is (key_cmp q e.0)).0 p)))
      final q x old false p f = ap (λ z. after q z (set_in L q)) f
