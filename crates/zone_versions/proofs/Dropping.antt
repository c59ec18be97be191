-- Stray sets taken out key by key.
use Rattle.std.proofs.Common.{◌≡◌, Bool, true, false, cond, not, if◌then◌else◌, List, [], ◌∷◌, ◌++◌, refl, sym, ap, ◌∙◌, subst, is_eq, Less}
use Rattle.std.specs.List.{AllByRecursion, list_all, filter}
use Rattle.std.specs.List.Sorted.{IsStrictlySortedBy}
use Rattle.std.specs.Map.{keys_of, remove_entry}
use Rattle.std.specs.Cmp.{first_so, second_so, tied_itself}
use Rattle.std.specs.Ordering.{ordering_reverse}
use mathlib.Core.List.{append_assoc}
use Rattle.std.proofs.lemmas.Map.Keys.{sorted_head, sorted_tail}
use Rattle.dns_name.specs.Names.{fold}
use Rattle.zone_model.specs.Version.{RecordSet, Key, Sets, Version, key_cmp, has_key}
use Rattle.zone_model.specs.Edits.{with_sets, remove_set, is_stray, close}
use Rattle.zone_model.proofs.Folded.{key_total}
use Rattle.zone_versions.specs.Sound.{is_sound_at, IsSound}
use Rattle.zone_versions.specs.Strays.{is_stray_at}
use Rattle.zone_versions.proofs.Sound.{taken_apart}

-- a version without the sets at those of some keys that are stray in another
abbrev pub dropped : Version → Version → List Key → Version
dropped v w [] = w
dropped v w (k ∷ ks) = dropped v (if is_stray_at v k then remove_set w k.0 k.1 else w) ks

-- a key is none of these
abbrev AreOthers : List Key → Key → Type 0
AreOthers ks k = AllByRecursion (λ l. has_key k l ≡ false) ks

drop_here : (k : Key) (done : Sets) (e : Key × RecordSet) (es : Sets) → AreOthers (keys_of done) k → has_key k e.0 ≡ true → remove_entry (has_key k) (done ++ e ∷ es) ≡ done ++ es
drop_here k [] e es a h = ap (λ b. cond b es (e ∷ remove_entry (has_key k) es)) h
drop_here k (d ∷ done) e es a h =
    ap (λ b. cond b (done ++ e ∷ es) (d ∷ remove_entry (has_key k) (done ++ e ∷ es))) a.0 ∙ ap (λ l. d ∷ l) (drop_here k done e es a.1 h)

one_more : (k : Key) (done : Sets) (e : Key × RecordSet) → AreOthers (keys_of done) k → has_key k e.0 ≡ false → AreOthers (keys_of (done ++ e ∷ [])) k
one_more k [] e a h = (h, tt)
one_more k (d ∷ done) e a h = (a.0, one_more k done e a.1 h)

turned : (k l : Key) → key_cmp k l ≡ Less → has_key l k ≡ false
turned k l h = ap is_eq (key_total.antisymm l k ∙ ap ordering_reverse h)

all_one_more : (ks : List Key) (done : Sets) (e : Key × RecordSet) → AllByRecursion (AreOthers (keys_of done)) ks → AllByRecursion (λ k. key_cmp e.0 k ≡ Less) ks → AllByRecursion (AreOthers (keys_of (done ++ e ∷ []))) ks
all_one_more [] done e a b = tt
all_one_more (k ∷ ks) done e a b = (one_more k done e a.0 (turned e.0 k b.0), all_one_more ks done e a.1 b.1)

module _ (v : Version) where
  drop_rest : (done es : Sets) → IsStrictlySortedBy key_cmp (keys_of es) → list_all (is_sound_at v) es ≡ true → AllByRecursion (AreOthers (keys_of done)) (keys_of es)
      → dropped v (with_sets v (done ++ es)) (keys_of es) ≡ with_sets v (done ++ filter (λ e. not (is_stray v e)) es)
  drop_rest done [] s h a = refl
  drop_rest done (e ∷ es) s h a =
      by (is_stray_at v e.0) (drop_rest done es sorted sound a.1) (drop_rest (done ++ e ∷ []) es sorted sound (all_one_more (keys_of es) done e a.1 (sorted_head key_cmp e.0 (keys_of es) s)))
    where
      sorted : IsStrictlySortedBy key_cmp (keys_of es)
      sorted = sorted_tail key_cmp e.0 (keys_of es) s

      sound : list_all (is_sound_at v) es ≡ true
      sound = second_so (is_sound_at v e) _ h

      same : fold e.0.0 ≡ e.0.0
      same = (taken_apart v e (first_so (is_sound_at v e) _ h)).folded

      own : has_key (fold e.0.0, e.0.1) e.0 ≡ true
      own = ap (λ n. has_key (n, e.0.1) e.0) same ∙ ap is_eq (tied_itself key_total e.0)

      others : AreOthers (keys_of done) (fold e.0.0, e.0.1)
      others = subst (λ n. AreOthers (keys_of done) (n, e.0.1)) (sym same) a.0

      gone : remove_set (with_sets v (done ++ e ∷ es)) e.0.0 e.0.1 ≡ with_sets v (done ++ es)
      gone = ap (with_sets v) (drop_here (fold e.0.0, e.0.1) done e es others own)

      by : (b : Bool) → dropped v (with_sets v (done ++ es)) (keys_of es) ≡ with_sets v (done ++ filter (λ x. not (is_stray v x)) es)
          → dropped v (with_sets v ((done ++ e ∷ []) ++ es)) (keys_of es) ≡ with_sets v ((done ++ e ∷ []) ++ filter (λ x. not (is_stray v x)) es)
          → dropped v (if b then remove_set (with_sets v (done ++ e ∷ es)) e.0.0 e.0.1 else with_sets v (done ++ e ∷ es)) (keys_of es)
          ≡ with_sets v (done ++ cond (not b) (e ∷ filter (λ x. not (is_stray v x)) es) (filter (λ x. not (is_stray v x)) es))
      by true without with_it = ap (λ w. dropped v w (keys_of es)) gone ∙ without
      by false without with_it =
          ap (λ (l : Sets). dropped v (with_sets v l) (keys_of es)) (sym (append_assoc done (e ∷ []) es)) ∙ with_it
          ∙ ap (with_sets v) (append_assoc done (e ∷ []) (filter (λ x. not (is_stray v x)) es))

none_before : (ks : List Key) → AllByRecursion (AreOthers []) ks
none_before [] = tt
none_before (k ∷ ks) = (tt, none_before ks)

-- without its own stray sets, a sound version is closed
pub dropped_all : (v : Version) → IsSound v → dropped v v (keys_of v.sets) ≡ close v
dropped_all v h = drop_rest v [] v.sets h.ordered h.kept (none_before (keys_of v.sets))
