-- A provider's differences stay those of a history, and so do those that it offers.
use Rattle.std.proofs.Common.{◌≡◌, ℕ, Bool, true, false, ◌||◌, ◌==◌, nat_eq, not, if◌then◌else◌, List, [], ◌∷◌, ◌++◌, map, refl, sym, ap, ◌∙◌, subst, true≢false, Option, Some, None, is_some, unwrap_or, IsTrue, eqb-true}
use Rattle.std.specs.Option.{option_map_or}
use Rattle.std.specs.List.{AllByRecursion, last_or, list_any}
use Rattle.std.specs.Cmp.{first_so, second_so, nat_eq_equiv}
use Rattle.std.specs.Cmp.Derive.{both_true}
use Rattle.dns_name.specs.Records.{Field}
use Rattle.dns_name.specs.Soa.{serial_of}
use Rattle.dns_numbers.specs.Serial.{serial_upto, serial_lt}
use Rattle.zone_model.specs.Version.{Version, apex_soa}
use Rattle.zone_model.specs.Difference.{Difference, difference, diffable, both_serials, zone_serial}
use Rattle.zone_model.specs.Offer.{first_is, IsHistory, offer_of, successive, all_diffable, all_distinct, has_start, after_serial, from_serial}
use Rattle.zone_model.specs.TransferLaws.{IsPublished}
use Rattle.zone_model.specs.Pushes.{behind, kept_part, offered_history, PushKeeps, PushPublishes, OfferHasHistory, OfferPublishes, OfferStarts}
use Rattle.zone_model.proofs.Steps.{not_true}

abbrev at_serial : ℕ → Version → Bool
at_serial n v = zone_serial v == n

-- versions with a difference to tell have different serials
news_differ : (v w : Version) → diffable v w ≡ true → (zone_serial v == zone_serial w) ≡ false
news_differ v w h = by (apex_soa v) (apex_soa w) h
  where
    apart : (m n : ℕ) → not (serial_upto n m) ≡ true → (m == n) ≡ false
    apart m n k = at (n == m) refl (not_true (serial_upto n m) k)
      where
        at : (b : Bool) → (n == m) ≡ b → (b || serial_lt n m) ≡ false → (m == n) ≡ false
        at true e f = absurd (true≢false f)
        at false e f = nat_eq_equiv.symm m n ∙ e

    by : (p q : Option (List Field)) → both_serials p q ≡ true → (option_map_or serial_of p 0 == option_map_or serial_of q 0) ≡ false
    by None q k = absurd (true≢false (sym k))
    by (Some p) None k = absurd (true≢false (sym k))
    by (Some p) (Some q) k = apart (serial_of p) (serial_of q) k

last_is : (v u : Version) → ◌≡◌ {A = Option Version} (Some v) (Some u) → v ≡ u
last_is v u e = ap (λ o. unwrap_or o v) e

-- ---- one version more

successive_push : (v : Version) (more : List Version) (u w : Version) → last_or (Some v) more ≡ Some u → successive (v ∷ more ++ w ∷ []) ≡ successive (v ∷ more) ++ difference u w ∷ []
successive_push v [] u w e = ap (λ x. difference x w ∷ []) (last_is v u e)
successive_push v (x ∷ more) u w e = ap (λ l. difference v x ∷ l) (successive_push x more u w e)

diffable_push : (v : Version) (more : List Version) (u w : Version) → last_or (Some v) more ≡ Some u → all_diffable (v ∷ more) ≡ true → diffable u w ≡ true → all_diffable (v ∷ more ++ w ∷ []) ≡ true
diffable_push v [] u w e a d = both_true (ap (λ x. diffable x w) (last_is v u e) ∙ d) refl
diffable_push v (x ∷ more) u w e a d = both_true (first_so (diffable v x) _ a) (diffable_push x more u w e (second_so (diffable v x) _ a) d)

last_push : (o : Option Version) (h : List Version) (w : Version) → last_or o (h ++ w ∷ []) ≡ Some w
last_push o [] w = refl
last_push o (x ∷ h) w = last_push (Some x) h w

or_parts : (a b : Bool) → (a || b) ≡ false → (a ≡ false) × (b ≡ false)
or_parts true b h = absurd (true≢false h)
or_parts false b h = (refl, h)

none_equal_push : (m : ℕ) (h : List Version) (w : Version) → list_any (nat_eq m) (map zone_serial h) ≡ false → (m == zone_serial w) ≡ false → list_any (nat_eq m) (map zone_serial (h ++ w ∷ [])) ≡ false
none_equal_push m [] w a n = ap (λ b. b || false) n
none_equal_push m (x ∷ h) w a n =
    let p = or_parts (nat_eq m (zone_serial x)) _ a in ap (λ b. b || list_any (nat_eq m) (map zone_serial (h ++ w ∷ []))) p.0 ∙ none_equal_push m h w p.1 n

distinct_push : (h : List Version) (w : Version) → all_distinct (map zone_serial h) ≡ true → list_any (at_serial (zone_serial w)) h ≡ false → all_distinct (map zone_serial (h ++ w ∷ [])) ≡ true
distinct_push [] w a n = refl
distinct_push (x ∷ h) w a n =
    let p = or_parts (at_serial (zone_serial w) x) _ n in
    both_true (ap not (none_equal_push (zone_serial x) h w (not_true _ (first_so (not (list_any (nat_eq (zone_serial x)) (map zone_serial h))) _ a)) p.0))
    (distinct_push h w (second_so (not (list_any (nat_eq (zone_serial x)) (map zone_serial h))) _ a) p.1)

-- ---- what is kept

none_of_serial : (n m : ℕ) (h : List Version) → m ≡ n → list_any (nat_eq m) (map zone_serial h) ≡ false → list_any (at_serial n) h ≡ false
none_of_serial n m [] e a = refl
none_of_serial n m (x ∷ h) e a =
    let p = or_parts (nat_eq m (zone_serial x)) _ a in
    ap (λ b. b || list_any (at_serial n) h) (nat_eq_equiv.symm (zone_serial x) n ∙ ap (λ k. k == zone_serial x) (sym e) ∙ p.0) ∙ none_of_serial n m h e p.1

-- a part of a history that ends as it does
record IsPart (n : ℕ) (u : Version) (h : List Version) (ds : List Difference) : Type 0 where
  ends : last_or None h ≡ Some u
  tells : ds ≡ successive h
  newer : all_diffable h ≡ true
  distinct : all_distinct (map zone_serial h) ≡ true
  without_it : list_any (at_serial n) h ≡ false

module _ (n : ℕ) (u : Version) (other : (zone_serial u == n) ≡ false) where
  same_starts : (v : Version) (more : List Version) → last_or (Some v) more ≡ Some u → has_start n (successive (v ∷ more)) ≡ list_any (at_serial n) (v ∷ more)
  same_starts v [] e = sym (ap (λ b. b || false) (ap (at_serial n) (last_is v u e) ∙ other))
  same_starts v (w ∷ more) e = ap (λ b. (zone_serial v == n) || b) (same_starts w more e)

  part_behind : (v : Version) (more : List Version) → last_or (Some v) more ≡ Some u → all_diffable (v ∷ more) ≡ true → all_distinct (map zone_serial (v ∷ more)) ≡ true → list_any (at_serial n) (v ∷ more) ≡ true
      → IsPart n u (behind n (v ∷ more)) (after_serial n (successive (v ∷ more)))
  part_behind v [] e a d h = absurd (true≢false (sym h ∙ ap (λ b. b || false) (ap (at_serial n) (last_is v u e) ∙ other)))
  part_behind v (w ∷ more) e a d h =
      by (zone_serial v == n) refl h (λ k. part_behind w more e (second_so (diffable v w) _ a) (second_so (not (list_any (nat_eq (zone_serial v)) (map zone_serial (w ∷ more)))) _ d) k)
    where
      by : (b : Bool) → (zone_serial v == n) ≡ b → (b || list_any (at_serial n) (w ∷ more)) ≡ true → (list_any (at_serial n) (w ∷ more) ≡ true → IsPart n u (behind n (w ∷ more)) (after_serial n (successive (w ∷ more))))
          → IsPart n u (if b then w ∷ more else behind n (w ∷ more)) (if b then successive (w ∷ more) else after_serial n (successive (w ∷ more)))
      by true p k later = record {
        ends = e;
        tells = refl;
        newer = second_so (diffable v w) _ a;
        distinct = second_so (not (list_any (nat_eq (zone_serial v)) (map zone_serial (w ∷ more)))) _ d;
        without_it = none_of_serial n (zone_serial v) (w ∷ more) (eqb-true (zone_serial v) n p) (not_true _ (first_so (not (list_any (nat_eq (zone_serial v)) (map zone_serial (w ∷ more)))) _ d));
      }
      by false p k later = later k

  part_kept : (h : List Version) → last_or None h ≡ Some u → all_diffable h ≡ true → all_distinct (map zone_serial h) ≡ true
      → IsPart n u (kept_part n h) (if has_start n (successive h) then after_serial n (successive h) else successive h)
  part_kept [] e a d = absurd (true≢false (sym (ap is_some e)))
  part_kept (v ∷ more) e a d =
      subst (λ b. IsPart n u (kept_part n (v ∷ more)) (if b then after_serial n (successive (v ∷ more)) else successive (v ∷ more))) (sym (same_starts v more e)) (by (list_any (at_serial n) (v ∷ more)) refl)
    where
      by : (b : Bool) → list_any (at_serial n) (v ∷ more) ≡ b → IsPart n u (if b then behind n (v ∷ more) else v ∷ more) (if b then after_serial n (successive (v ∷ more)) else successive (v ∷ more))
      by true p = part_behind v more e a d p
      by false p = record { ends = e; tells = refl; newer = a; distinct = d; without_it = p }

with_one : (n : ℕ) (u w : Version) (h : List Version) (ds : List Difference) (compatibility : Bool) → n ≡ zone_serial w → diffable u w ≡ true → IsPart n u h ds
    → IsHistory (record { version = w; differences = ds ++ difference u w ∷ []; compatibility = compatibility }) (h ++ w ∷ [])
with_one n u w [] ds c e d p = absurd (true≢false (sym (ap is_some p.ends)))
with_one n u w (v ∷ more) ds c e d p = record {
  ends = last_push (Some v) more w;
  tells = ap (λ l. l ++ difference u w ∷ []) p.tells ∙ sym (successive_push v more u w p.ends);
  newer = diffable_push v more u w p.ends p.newer d;
  distinct = distinct_push (v ∷ more) w p.distinct (ap (λ k. list_any (at_serial k) (v ∷ more)) (sym e) ∙ p.without_it);
}

pub push_keeps : PushKeeps
push_keeps p history v None h may = record { ends = refl; tells = refl; newer = refl; distinct = refl }
push_keeps p history v (Some d) h may =
    let n : ℕ = zone_serial v in
    let part = part_kept n p.kept (news_differ p.kept v may.1) history h.ends h.newer h.distinct in
    let P : Difference → List Difference → Type 0 = λ x ds.
    IsHistory (record { version = v; differences = (if has_start x.end_serial ds then after_serial x.end_serial ds else ds) ++ x ∷ []; compatibility = p.compatibility }) (kept_part n history ++ v ∷ []) in
    subst (λ x. P x p.differences) (sym may.0) (subst (P (difference p.kept v)) (sym h.tells) (with_one n p.kept v (kept_part n history) _ p.compatibility refl may.1 part))

all_behind : (P : Version → Type 0) (n : ℕ) (h : List Version) → AllByRecursion P h → AllByRecursion P (behind n h)
all_behind P n [] a = tt
all_behind P n (v ∷ h) a = elim (zone_serial v == n) as (λ b. AllByRecursion P (if b then h else behind n h)) [ true ↦ a.1 | false ↦ all_behind P n h a.1 ]

all_push : (P : Version → Type 0) (h : List Version) (w : Version) → AllByRecursion P h → P w → AllByRecursion P (h ++ w ∷ [])
all_push P [] w a p = (p, tt)
all_push P (v ∷ h) w a p = (a.0, all_push P h w a.1 p)

pub push_publishes : PushPublishes
push_publishes apex history v None a p = (p, tt)
push_publishes apex history v (Some d) a p =
    all_push (IsPublished apex) (kept_part (zone_serial v) history) v
    (elim (list_any (at_serial (zone_serial v)) history) as (λ b. AllByRecursion (IsPublished apex) (if b then behind (zone_serial v) history else history)) [ true ↦ all_behind (IsPublished apex) (zone_serial v) history a | false ↦ a ])
    p

-- ---- what is offered

offered_part : (n : ℕ) (u v : Version) (more : List Version) (compatibility : Bool) → IsHistory (record { version = u; differences = successive (v ∷ more); compatibility = compatibility }) (v ∷ more)
    → IsHistory (record { version = u; differences = from_serial n (successive (v ∷ more)); compatibility = compatibility }) (offered_history n (v ∷ more))
offered_part n u v [] c h = h
offered_part n u v (w ∷ more) c h =
    by (zone_serial v == n) (offered_part n u w more c (record { ends = h.ends; tells = refl; newer = second_so (diffable v w) _ h.newer; distinct = second_so (not (list_any (nat_eq (zone_serial v)) (map zone_serial (w ∷ more)))) _ h.distinct }))
  where
    by : (b : Bool) → IsHistory (record { version = u; differences = from_serial n (successive (w ∷ more)); compatibility = c }) (offered_history n (w ∷ more))
        → IsHistory (record { version = u; differences = if b then successive (v ∷ w ∷ more) else from_serial n (successive (w ∷ more)); compatibility = c }) (if b then v ∷ w ∷ more else offered_history n (w ∷ more))
    by true k = h
    by false k = k

pub offer_has_history : OfferHasHistory
offer_has_history p [] asked h = absurd (true≢false (sym (ap is_some h.ends)))
offer_has_history p (v ∷ more) asked h =
    subst (λ ds. IsHistory (offer_of p.kept ds p.compatibility asked) (offered_history asked (v ∷ more))) (sym h.tells)
    (offered_part asked p.kept v more p.compatibility (record { ends = h.ends; tells = refl; newer = h.newer; distinct = h.distinct }))

pub offer_publishes : OfferPublishes
offer_publishes apex [] n a = tt
offer_publishes apex (v ∷ []) n a = a
offer_publishes apex (v ∷ w ∷ more) n a =
    elim (zone_serial v == n) as (λ b. AllByRecursion (IsPublished apex) (if b then v ∷ w ∷ more else offered_history n (w ∷ more))) [ true ↦ a | false ↦ offer_publishes apex (w ∷ more) n a.1 ]

pub offer_starts : OfferStarts
offer_starts [] base a = refl
offer_starts (v ∷ []) base a = refl
offer_starts (v ∷ w ∷ more) base a = by (zone_serial v == zone_serial base) refl (offer_starts (w ∷ more) base a.1)
  where
    by : (b : Bool) → (zone_serial v == zone_serial base) ≡ b → IsTrue (first_is base (offered_history (zone_serial base) (w ∷ more))) → IsTrue (first_is base (if b then v ∷ w ∷ more else offered_history (zone_serial base) (w ∷ more)))
    by true e k = a.0 e
    by false e k = k
