-- The stops of a walk as the first of what is behind a key.
use Rattle.std.proofs.Common.{◌≡◌, ℕ, Bool, true, false, cond, if◌then◌else◌, [], ◌∷◌, map, refl, sym, ap, ◌∙◌, subst, Ordering, Less, Equal, Greater, is_lt, is_gt, is_eq, Option, Some, option_map}
use Rattle.std.specs.List.{find, AllByRecursion}
use Rattle.std.specs.Ordering.{ordering_reverse, ordering_then, nat_cmp}
use Rattle.std.specs.Map.{lookup}
use Rattle.dns_name.specs.Names.{Name, fold, same_name, spelling_cmp}
use Rattle.zone_model.specs.Version.{RecordSet, Key, Sets, Version, IsValid, key_cmp, set_in}
use Rattle.zone_model.specs.Walk.{Stop, shown_owner, next_stop}
use Rattle.zone_model.proofs.Folded.{fold-fold, key_total, same_name-Decides}
use Rattle.zone_model.proofs.Valid.{Kept, kept, all_entries}
use Rattle.zone_versions.specs.Stops.{stop_of, first_of, first_stop}
use Rattle.xfr_replies.specs.Sides.{behind}
use Rattle.xfr_replies.specs.Steps.{Heads, HeadsAt}
use Rattle.xfr_replies.proofs.Behind.{IsRest, HasData, all_rest, behind_rest, each_behind, first_entry, heads_first}

-- ---- an owner as it is shown

-- it is shown up to its case
pub shown_folds : (v : Version) (n : Name) → fold (shown_owner v n) ≡ fold n
shown_folds v n = by (same_name n v.apex) refl
  where
    by : (b : Bool) → same_name n v.apex ≡ b → fold (if b then v.apex else n) ≡ fold n
    by true h = sym ((same_name-Decides n v.apex).0 h)
    by false h = refl

-- so its key stands where the shown one does
pub shown_key : (v : Version) (n : Name) (t : ℕ) (l : Key) → key_cmp (fold (shown_owner v n), t) l ≡ key_cmp (n, t) l
shown_key v n t l = ap (λ m. ordering_then (spelling_cmp m (fold l.0)) (nat_cmp t l.1)) (fold-fold (shown_owner v n) ∙ shown_folds v n)

pub shown_set : (v : Version) (n : Name) (t : ℕ) (sets : Sets) → set_in sets (fold (shown_owner v n), t) ≡ set_in sets (n, t)
shown_set v n t sets = ap (λ (f : Key → Bool). lookup f sets) (λ i l. is_eq (shown_key v n t l i))

pub shown_behind : (v : Version) (n : Name) (t : ℕ) (sets : Sets) → behind (fold (shown_owner v n), t) sets ≡ behind (n, t) sets
shown_behind v n t [] = refl
shown_behind v n t (e ∷ es) = λ i. cond (is_lt (shown_key v n t e.0 i)) (e ∷ shown_behind v n t es i) (shown_behind v n t es i)

-- a folded owner is shown again as it was
pub shown_again : (v : Version) (n : Name) → fold n ≡ n → shown_owner v (fold (shown_owner v n)) ≡ shown_owner v n
shown_again v n f = ap (shown_owner v) (shown_folds v n ∙ f)

-- ---- the first stop

turned : (r : Ordering) → is_gt (ordering_reverse r) ≡ is_lt r
turned Less = refl
turned Equal = refl
turned Greater = refl

stop_behind : (v : Version) (k : Key) (e : Key × RecordSet) → is_gt (key_cmp (fold (stop_of v e).owner, (stop_of v e).rtype) k) ≡ is_lt (key_cmp k e.0)
stop_behind v k e = ap is_gt (shown_key v e.0.0 e.0.1 k ∙ key_total.antisymm e.0 k) ∙ turned (key_cmp k e.0)

found_stop : (v : Version) (k : Key) (es : Sets)
    → find (λ (s : Stop). is_gt (key_cmp (fold s.owner, s.rtype) k)) (map (stop_of v) es) ≡ option_map (stop_of v) (first_entry (behind k es))
found_stop v k [] = refl
found_stop v k (e ∷ es) =
    ap (λ b. cond b (Some (stop_of v e)) (find (λ (s : Stop). is_gt (key_cmp (fold s.owner, s.rtype) k)) (map (stop_of v) es))) (stop_behind v k e)
    ∙ by (is_lt (key_cmp k e.0)) (found_stop v k es)
  where
    by : (b : Bool) → find (λ (s : Stop). is_gt (key_cmp (fold s.owner, s.rtype) k)) (map (stop_of v) es) ≡ option_map (stop_of v) (first_entry (behind k es))
        → cond b (Some (stop_of v e)) (find (λ (s : Stop). is_gt (key_cmp (fold s.owner, s.rtype) k)) (map (stop_of v) es)) ≡ option_map (stop_of v) (first_entry (cond b (e ∷ behind k es) (behind k es)))
    by true h = refl
    by false h = h

heads_at : (v : Version) (rest : Sets) → IsRest v.sets rest → AllByRecursion (Kept v) rest → HeadsAt v rest (option_map (stop_of v) (first_entry rest))
heads_at v [] r h = refl
heads_at v (e ∷ es) r h =
    let key : (fold (shown_owner v e.0.0), e.0.1) ≡ e.0 = λ i. ((shown_folds v e.0.0 ∙ h.0.folded) i, e.0.1) in
    let P : Key → Type 0 = λ k. Heads v.sets (e ∷ es) (Some k) in (
      subst P (sym key) (heads_first v.sets (e ∷ es) r (all_entries (Kept v) HasData (e ∷ es) (λ f g. g.holds_some) h)),
      shown_again v e.0.0 h.0.folded,
      shown_set v e.0.0 e.0.1 v.sets ∙ r.1,
    )

first_is : (v : Version) (es : Sets) → first_of (map (stop_of v) es) ≡ option_map (stop_of v) (first_entry es)
first_is v [] = refl
first_is v (e ∷ es) = refl

pub heads_at_first : (v : Version) (o : Option Stop) → IsValid v → o ≡ first_stop v → HeadsAt v v.sets o
heads_at_first v o h is = subst (HeadsAt v v.sets) (sym (is ∙ first_is v v.sets)) (heads_at v v.sets (all_rest v.sets h.ordered) (kept v h))

pub heads_at_next : (v : Version) (owner : Name) (rtype : ℕ) (o : Option Stop) → IsValid v → o ≡ next_stop v owner rtype → HeadsAt v (behind (fold owner, rtype) v.sets) o
heads_at_next v owner rtype o h is =
    let k : Key = (fold owner, rtype) in
    subst (HeadsAt v (behind k v.sets)) (sym (is ∙ found_stop v k v.sets)) (heads_at v (behind k v.sets) (behind_rest k v.sets h.ordered) (each_behind (Kept v) k v.sets (kept v h)))
