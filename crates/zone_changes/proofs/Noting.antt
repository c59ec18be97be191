-- Keys that are noted, and whether a key is among them.
use Rattle.std.proofs.Common.{◌≡◌, Bool, true, false, cond, if◌then◌else◌, ◌||◌, subst, List, [], ◌∷◌, refl, sym, ap, ◌∙◌, true≢false, Ordering, Less, Equal, Greater, is_eq}
use Rattle.std.specs.Ordering.{match_ordering}
use Rattle.std.specs.Cmp.{alike_right, Equal-is, tied_itself}
use Rattle.std.specs.List.{filter, AllByRecursion}
use Rattle.zone_model.specs.Version.{Key, key_cmp}
use Rattle.zone_model.proofs.Folded.{key_total}
use Rattle.zone_changes.specs.Touched.{is_touched, noted, noted_all, Keeps}

either : (a b : Bool) → (a || b) ≡ (a || (a || b))
either true b = refl
either false b = refl

turned : (a b c : Bool) → (a || (b || c)) ≡ (b || (a || c))
turned true true c = refl
turned true false c = refl
turned false b c = refl

joined : (a b c : Bool) → ((a || b) || c) ≡ (b || (a || c))
joined true true c = refl
joined true false c = refl
joined false b c = refl

-- one more key
pub touched-noted : (keys : List Key) (k q : Key) → is_touched (noted keys k) q ≡ (is_eq (key_cmp q k) || is_touched keys q)
touched-noted [] k q = refl
touched-noted (x ∷ xs) k q = by (key_cmp k x) refl (touched-noted xs k q)
  where
    by : (o : Ordering) → key_cmp k x ≡ o → is_touched (noted xs k) q ≡ (is_eq (key_cmp q k) || is_touched xs q)
        → is_touched (match_ordering o (k ∷ x ∷ xs) (x ∷ xs) (x ∷ noted xs k)) q ≡ (is_eq (key_cmp q k) || (is_eq (key_cmp q x) || is_touched xs q))
    by Less p later = refl
    by Equal p later =
        either (is_eq (key_cmp q x)) (is_touched xs q) ∙ ap (λ b. b || (is_eq (key_cmp q x) || is_touched xs q)) (sym (ap is_eq (alike_right key_total k x q p)))
    by Greater p later = ap (λ b. is_eq (key_cmp q x) || b) later ∙ turned (is_eq (key_cmp q x)) (is_eq (key_cmp q k)) (is_touched xs q)

or_false : (b : Bool) → b ≡ (b || false)
or_false true = refl
or_false false = refl

pub touched-noted_all : (keys more : List Key) (q : Key) → is_touched (noted_all keys more) q ≡ (is_touched keys q || is_touched more q)
touched-noted_all keys [] q = or_false (is_touched keys q)
touched-noted_all keys (k ∷ more) q =
    touched-noted_all (noted keys k) more q ∙ ap (λ b. b || is_touched more q) (touched-noted keys k q)
    ∙ joined (is_eq (key_cmp q k)) (is_touched keys q) (is_touched more q)

or_right : (a b : Bool) → b ≡ true → (a || b) ≡ true
or_right true b h = refl
or_right false b h = h

or_left : (a b : Bool) → a ≡ true → (a || b) ≡ true
or_left true b h = refl
or_left false b h = absurd (true≢false (sym h))

-- a noted key is among the keys
pub noted_itself : (keys : List Key) (k : Key) → is_touched (noted keys k) k ≡ true
noted_itself keys k = touched-noted keys k k ∙ ap (λ b. b || is_touched keys k) (ap is_eq (tied_itself key_total k))

-- what was noted stays so
pub keeps_all : (keys : List Key) → Keeps keys keys
keeps_all keys = record { still = λ k h. h }

pub keeps_noted : (old keys : List Key) (k : Key) → Keeps old keys → Keeps old (noted keys k)
keeps_noted old keys k h = record { still = λ q t. touched-noted keys k q ∙ or_right (is_eq (key_cmp q k)) (is_touched keys q) (h.still q t) }

pub keeps_noted_all : (old keys more : List Key) → Keeps old keys → Keeps old (noted_all keys more)
keeps_noted_all old keys more h = record { still = λ q t. touched-noted_all keys more q ∙ or_left (is_touched keys q) (is_touched more q) (h.still q t) }

-- two keys that tie are both among some keys, or neither is
pub touched_alike : (keys : List Key) (k q : Key) → is_eq (key_cmp q k) ≡ true → is_touched keys q ≡ is_touched keys k
touched_alike [] k q t = refl
touched_alike (x ∷ xs) k q t = λ i. is_eq (key_total.congr q k x ((Equal-is (key_cmp q k)).0 t) i) || touched_alike xs k q t i

-- so an untouched key ties with no touched one
pub apart : (keys : List Key) (k q : Key) → is_touched keys k ≡ true → is_touched keys q ≡ false → is_eq (key_cmp q k) ≡ false
apart keys k q t n = by (is_eq (key_cmp q k)) refl
  where
    by : (b : Bool) → is_eq (key_cmp q k) ≡ b → b ≡ false
    by true h = absurd (true≢false (sym t ∙ sym (touched_alike keys k q h) ∙ n))
    by false h = refl

-- each key that passes a test is among those that do
pub passing : (p : Key → Bool) (ks all : List Key) → ((q : Key) → is_touched (filter p ks) q ≡ true → is_touched all q ≡ true) → AllByRecursion (λ k. p k ≡ true → is_touched all k ≡ true) ks
passing p [] all f = tt
passing p (k ∷ ks) all f = (λ h. f k (here h), passing p ks all (λ q t. f q (more (p k) q t)))
  where
    here : p k ≡ true → is_touched (filter p (k ∷ ks)) k ≡ true
    here h = ap (λ b. is_touched (cond b (k ∷ filter p ks) (filter p ks)) k) h ∙ ap (λ b. b || is_touched (filter p ks) k) (ap is_eq (tied_itself key_total k))

    more : (b : Bool) (q : Key) → is_touched (filter p ks) q ≡ true → is_touched (cond b (k ∷ filter p ks) (filter p ks)) q ≡ true
    more true q t = or_right (is_eq (key_cmp q k)) (is_touched (filter p ks) q) t
    more false q t = t

-- .. and so among all that are noted
pub passing_noted : (p : Key → Bool) (keys ks : List Key) → AllByRecursion (λ k. p k ≡ true → is_touched (noted_all keys (filter p ks)) k ≡ true) ks
passing_noted p keys ks = passing p ks (noted_all keys (filter p ks)) (λ q t. touched-noted_all keys (filter p ks) q ∙ or_right (is_touched keys q) (is_touched (filter p ks) q) t)

-- one step of a loop that notes what passes a test
pub note_step : (p : Key → Bool) (keys now rest : List Key) (k : Key) → now ≡ (if p k then noted keys k else keys) → noted_all now (filter p rest) ≡ noted_all keys (filter p (k ∷ rest))
note_step p keys now rest k e = ap (λ l. noted_all l (filter p rest)) e ∙ by (p k)
  where
    by : (b : Bool) → noted_all (if b then noted keys k else keys) (filter p rest) ≡ noted_all keys (cond b (k ∷ filter p rest) (filter p rest))
    by true = refl
    by false = refl

pub keeps_step : (b : Bool) (old keys now : List Key) (k : Key) → now ≡ (if b then noted keys k else keys) → Keeps old keys → Keeps old now
keeps_step b old keys now k e h = subst (λ l. Keeps old l) (sym e) (by b)
  where
    by : (c : Bool) → Keeps old (if c then noted keys k else keys)
    by true = keeps_noted old keys k h
    by false = h
