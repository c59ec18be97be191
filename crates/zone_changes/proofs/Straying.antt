-- A version that agrees with a published one but at noted keys: a DS set without NS stands beside one of those.
use Rattle.std.proofs.Common.{◌≡◌, ℕ, ◌==◌, Bool, true, false, cond, ◌&&◌, ◌||◌, not, List, [], ◌∷◌, refl, sym, ap, ◌∙◌, true≢false, Equal, is_eq, Option, Some, None, is_some, eqb-true}
use Rattle.std.specs.List.{AllByRecursion, list_any, list_all}
use Rattle.std.specs.Cmp.{Equal-is, first_so, second_so, tied_itself}
use Rattle.std.specs.Cmp.Derive.{both_true}
use Rattle.std.specs.Map.{keys_of}
use Rattle.dns_name.specs.Names.{Name, fold}
use Rattle.dns_numbers.specs.Codes.{type_ns, type_ds}
use Rattle.zone_model.specs.Version.{RecordSet, Key, Sets, Version, IsValid, is_kept, key_cmp, set_in, set_at, below_apex}
use Rattle.zone_model.proofs.Folded.{IsFolded, key_total, key_from_tie, fold-fold}
use Rattle.zone_model.proofs.Steps.{below_alike}
use Rattle.zone_model.proofs.Valid.{Kept, Found, kept, all_entries, found_entry}
use Rattle.zone_model.proofs.WholeText.{below_near}
use Rattle.zone_versions.specs.Sound.{is_sound_at, IsSound}
use Rattle.zone_versions.specs.Strays.{is_stray_at}
use Rattle.zone_changes.specs.Touched.{is_touched, is_stray_beside, Covers}
use Rattle.zone_changes.proofs.SoundSets.{zoned_folded}

or_right : (a b : Bool) → b ≡ true → (a || b) ≡ true
or_right true b h = refl
or_right false b h = h

-- a test that holds of each key that ties with a touched one
any_touched : (p : Key → Bool) (keys : List Key) (q : Key) → ((k : Key) → key_cmp q k ≡ Equal → p k ≡ true) → is_touched keys q ≡ true → list_any p keys ≡ true
any_touched p [] q f t = t
any_touched p (k ∷ ks) q f t = by (is_eq (key_cmp q k)) refl t (any_touched p ks q f)
  where
    by : (b : Bool) → is_eq (key_cmp q k) ≡ b → (b || is_touched ks q) ≡ true → (is_touched ks q ≡ true → list_any p ks ≡ true) → (p k || list_any p ks) ≡ true
    by true e h later = ap (λ c. c || list_any p ks) (f k ((Equal-is (key_cmp q k)).0 e))
    by false e h later = or_right (p k) (list_any p ks) (later h)

-- each key of a map is found in it
all_found : (es : Sets) → AllByRecursion (λ (e : Key × RecordSet). is_some (set_in es e.0) ≡ true) es
all_found [] = tt
all_found (e ∷ es) = (
  ap (λ b. is_some (cond b (Some e.1) (set_in es e.0))) (ap is_eq (tied_itself key_total e.0)),
  all_entries (λ (x : Key × RecordSet). is_some (set_in es x.0) ≡ true) (λ (x : Key × RecordSet). is_some (set_in (e ∷ es) x.0) ≡ true) es (λ x h. more x (is_eq (key_cmp x.0 e.0)) h) (all_found es),
)
  where
    more : (x : Key × RecordSet) (b : Bool) → is_some (set_in es x.0) ≡ true → is_some (cond b (Some e.1) (set_in es x.0)) ≡ true
    more x true h = refl
    more x false h = h

module _ (v base : Version) (keys : List Key) (valid : IsValid base) (apex : v.apex ≡ base.apex) (covered : Covers keys base.sets v.sets) (none : list_any (is_stray_beside v) keys ≡ false) where
  -- neither set of such an owner was touched
  untouched : (o : Name) (rtype : ℕ) → ((rtype == type_ns) || (rtype == type_ds)) ≡ true → below_apex v o ≡ true → is_some (set_at v o type_ds) ≡ true → is_some (set_at v o type_ns) ≡ false
      → is_touched keys (fold o, rtype) ≡ false
  untouched o rtype typed below signer lacks = by (is_touched keys (fold o, rtype)) refl
    where
      beside : (k : Key) → key_cmp (fold o, rtype) k ≡ Equal → is_stray_beside v k ≡ true
      beside k tie =
          let t = key_from_tie (fold o, rtype) k tie in
          let same : fold o ≡ fold k.0 = sym (fold-fold o) ∙ t.0 in
          let here : ((k.1 == type_ns) || (k.1 == type_ds)) ≡ true = sym (ap (λ x. (x == type_ns) || (x == type_ds)) t.1) ∙ typed in
          let under_it : below_apex v k.0 ≡ true = sym (below_alike v o k.0 same) ∙ below in
          let ds : is_some (set_at v k.0 type_ds) ≡ true = sym (ap (λ n. is_some (set_in v.sets (n, type_ds))) same) ∙ signer in
          let ns : is_some (set_at v k.0 type_ns) ≡ false = sym (ap (λ n. is_some (set_in v.sets (n, type_ns))) same) ∙ lacks in
          λ i. here i && (under_it i && ds i && not (ns i))

      by : (b : Bool) → is_touched keys (fold o, rtype) ≡ b → b ≡ false
      by true t = absurd (true≢false (sym (any_touched (is_stray_beside v) keys (fold o, rtype) beside t) ∙ none))
      by false t = refl

  -- so the published version would have it
  entry_stays : (e : Key × RecordSet) → IsFolded e.0 → is_some (set_in v.sets e.0) ≡ true → is_stray_at v e.0 ≡ false
  entry_stays e folded found = by (below_apex v e.0.0 && (e.0.1 == type_ds)) (is_some (set_at v e.0.0 type_ns)) refl refl
    where
      o : Name
      o = e.0.0

      stray : (below_apex v o && (e.0.1 == type_ds)) ≡ true → is_some (set_at v o type_ns) ≡ false → true ≡ false
      stray p lacks = there (set_in base.sets (fold o, type_ds)) refl
        where
          below : below_apex v o ≡ true
          below = first_so (below_apex v o) (e.0.1 == type_ds) p

          typed : e.0.1 ≡ type_ds
          typed = eqb-true e.0.1 type_ds (second_so (below_apex v o) (e.0.1 == type_ds) p)

          signer : is_some (set_at v o type_ds) ≡ true
          signer = (λ i. is_some (set_in v.sets (folded i, sym typed i))) ∙ found

          same_ds : set_in base.sets (fold o, type_ds) ≡ set_in v.sets (fold o, type_ds)
          same_ds = covered.same (fold o, type_ds) (untouched o type_ds refl below signer lacks)

          same_ns : set_in base.sets (fold o, type_ns) ≡ set_in v.sets (fold o, type_ns)
          same_ns = covered.same (fold o, type_ns) (untouched o type_ns refl below signer lacks)

          there : (s : Option RecordSet) → set_in base.sets (fold o, type_ds) ≡ s → true ≡ false
          there None q = sym signer ∙ ap is_some (sym same_ds ∙ q)
          there (Some s) q =
              let f : Found (Kept base) (fold o, type_ds) s = found_entry (Kept base) base.sets (fold o, type_ds) s (kept base valid) q in
              let t = key_from_tie (fold o, type_ds) f.key f.tied in
              let same : fold o ≡ fold f.key.0 = sym (fold-fold o) ∙ t.0 in
              let under_it : below_apex base f.key.0 ≡ true = sym (below_near v base o f.key.0 (ap fold apex) same) ∙ below in
              let holds : is_some (set_at base f.key.0 type_ns) ≡ true = f.holds_of.signed (λ i. under_it i && (sym t.1 i == type_ds)) in
              sym holds ∙ ap (λ n. is_some (set_in base.sets (n, type_ns))) (sym same) ∙ ap is_some same_ns ∙ lacks

      by : (b n : Bool) → (below_apex v o && (e.0.1 == type_ds)) ≡ b → is_some (set_at v o type_ns) ≡ n → (b && not n) ≡ false
      by true true p q = refl
      by true false p q = absurd (true≢false (stray p q))
      by false n p q = refl

  none_stays : (es : Sets) → list_all (is_sound_at v) es ≡ true → AllByRecursion (λ (e : Key × RecordSet). is_some (set_in v.sets e.0) ≡ true) es → list_any (is_stray_at v) (keys_of es) ≡ false
  none_stays [] h a = refl
  none_stays (e ∷ es) h a =
      ap (λ b. b || list_any (is_stray_at v) (keys_of es)) (entry_stays e (zoned_folded v e (first_so (is_sound_at v e) _ h)).1 a.0)
      ∙ none_stays es (second_so (is_sound_at v e) _ h) a.1

  pub none_beside : IsSound v → list_any (is_stray_at v) (keys_of v.sets) ≡ false
  none_beside sound = none_stays v.sets sound.kept (all_found v.sets)

-- ---- and without a stray set it may be published

none_of : (a b : Bool) → (a || b) ≡ false → (a ≡ false) × (b ≡ false)
none_of true b h = absurd (true≢false h)
none_of false b h = (refl, h)

signed : (b n : Bool) → (b && not n) ≡ false → (not b || n) ≡ true
signed true true h = refl
signed true false h = absurd (true≢false h)
signed false n h = refl

all_kept : (v : Version) (es : Sets) → list_all (is_sound_at v) es ≡ true → list_any (is_stray_at v) (keys_of es) ≡ false → list_all (is_kept v) es ≡ true
all_kept v [] h n = refl
all_kept v (e ∷ es) h n =
    let both = none_of (is_stray_at v e.0) (list_any (is_stray_at v) (keys_of es)) n in
    both_true (both_true (first_so (is_sound_at v e) _ h) (signed (below_apex v e.0.0 && (e.0.1 == type_ds)) (is_some (set_at v e.0.0 type_ns)) both.0)) (all_kept v es (second_so (is_sound_at v e) _ h) both.1)

pub valid_closed : (v : Version) → IsSound v → list_any (is_stray_at v) (keys_of v.sets) ≡ false → IsValid v
valid_closed v h n = record { ordered = h.ordered; kept = all_kept v v.sets h.kept n }
