-- Hosts may be put in another order, where those of one rank keep theirs: the zone is the same.
use Rattle.std.proofs.Common.{◌≡◌, ℕ, ◌/◌, ◌^◌, ◌<◌, ◌==◌, Bool, true, false, cond, ◌&&◌, not, List, [], ◌∷◌, length, get_or, drop, filter, refl, sym, ap, ◌∙◌, subst, true≢false, Ordering, Less, Equal, Greater, is_eq, is_lt, nat_cmp, Some, decimal, arith, mod-lt, eq-eqb, eqb-true}
use Rattle.std.specs.Ordering.{match_ordering, ordering_reverse}
use Rattle.std.specs.Cmp.{IsTotalOrder, alike_right, nat_cmp_total, unsigned_ties, Equal-is}
use Rattle.std.specs.List.Sorted.{IsStableByKey, ties}
use Rattle.std.specs.BTreeMap.{insert_entry}
use Rattle.std.specs.Str.{str_to_ascii_lowercase}
use Rattle.std.specs.Str.Parse.{AllDigits}
use Rattle.std.proofs.lemmas.Str.Parse.{tells_digits}
use Rattle.std.proofs.lemmas.Str.Ascii.{lowercase_is}
use Rattle.std.proofs.lemmas.Fmt.{decimal_is_IsNumeral, decimal_injective}
use Rattle.dns_name.specs.Names.{Name}
use Rattle.dns_name.specs.Names as names
use Rattle.dns_name.specs.Records.{Record}
use Rattle.zone_model.specs.Version.{RecordSet, Key, Sets, Version, key_cmp, set_in}
use Rattle.zone_model.specs.Edits.{with_sets}
use Rattle.zone_model.specs.Classify.{opened_with}
use Rattle.zone_model.proofs.Folded.{key_total, key_from_tie, fold-fold}
use Rattle.zone_model.proofs.Steps.{found-insert}
use Rattle.zone_generated.specs.Generated.{host_number, host_label, host_record}
use Rattle.zone_generated.specs.Ranks.{rank, host_rank}
use Rattle.zone_generated.proofs.HostNames.{host_owner}
use Rattle.zone_generated.proofs.Opened.{with_hosts}
use Rattle.zone_generated.proofs.Content.{key_of, set_with, put_to, opened_puts}

-- ---- two entries are inserted in either order

module _ {K X : Type 0} {R : K → K → Ordering} (o : IsTotalOrder R) where
  abbrev EitherWay : K → K → X → X → List (K × X) → Type 0
  EitherWay k l s t es = insert_entry R (insert_entry R es k s) l t ≡ insert_entry R (insert_entry R es l t) k s

  past : (e : K × X) (es : List (K × X)) (k : K) (v : X) → R k e.0 ≡ Greater → insert_entry R (e ∷ es) k v ≡ e ∷ insert_entry R es k v
  past e es k v p = ap (λ r. match_ordering r ((k, v) ∷ e ∷ es) ((e.0, v) ∷ es) (e ∷ insert_entry R es k v)) p

  module _ (k l : K) (s t : X) (h : R k l ≡ Less) where
    above : R l k ≡ Greater
    above = o.antisymm l k ∙ ap ordering_reverse h

    ahead : (e : K × X) (es : List (K × X)) (r : Ordering) → R k e.0 ≡ Less
        → (k, s) ∷ match_ordering r ((l, t) ∷ e ∷ es) ((e.0, t) ∷ es) (e ∷ insert_entry R es l t) ≡ insert_entry R (match_ordering r ((l, t) ∷ e ∷ es) ((e.0, t) ∷ es) (e ∷ insert_entry R es l t)) k s
    ahead e es Less p = rw (h) refl
    ahead e es Equal p = rw (p) refl
    ahead e es Greater p = rw (p) refl

    first_below : (es : List (K × X)) → EitherWay k l s t es
    first_below [] = rw (h, above) refl
    first_below (e ∷ es) = by (R k e.0) refl (first_below es)
      where
        by : (r : Ordering) → R k e.0 ≡ r → EitherWay k l s t es → EitherWay k l s t (e ∷ es)
        by Less p later = rw (p, above) (ahead e es (R l e.0) p)
        by Equal p later =
            let q : R l e.0 ≡ Greater = sym (alike_right o k e.0 l p) ∙ above in
            rw (p, q, p) refl
        by Greater p later =
            let q : R l e.0 ≡ Greater = o.antisymm l e.0 ∙ ap ordering_reverse (o.trans e.0 k l (o.antisymm e.0 k ∙ ap ordering_reverse p) h) in
            ap (λ z. insert_entry R z l t) (past e es k s p) ∙ past e (insert_entry R es k s) l t q ∙ ap (λ z. e ∷ z) later
            ∙ sym (ap (λ z. insert_entry R z k s) (past e es l t q) ∙ past e (insert_entry R es l t) k s p)

  either_way : (k l : K) (s t : X) → is_eq (R k l) ≡ false → (es : List (K × X)) → EitherWay k l s t es
  either_way k l s t h es = by (R k l) refl h
    where
      by : (r : Ordering) → R k l ≡ r → is_eq r ≡ false → EitherWay k l s t es
      by Less p h = first_below k l s t p es
      by Equal p h = absurd (true≢false h)
      by Greater p h = sym (first_below l k t s (o.antisymm l k ∙ ap ordering_reverse p) es)

-- ---- so are two records of different keys

puts_either_way : (es : Sets) (r q : Record) → is_eq (key_cmp (key_of r) (key_of q)) ≡ false → put_to (put_to es r) q ≡ put_to (put_to es q) r
puts_either_way es r q h =
    let k = key_of r in
    let l = key_of q in
    let back : is_eq (key_cmp l k) ≡ false = ap is_eq (key_total.antisymm l k) ∙ turned (key_cmp k l) h in
    let one : put_to (put_to es r) q ≡ insert_entry key_cmp (put_to es r) l (set_with q (set_in es l)) = ap (λ o. insert_entry key_cmp (put_to es r) l (set_with q o)) (found-insert es k (set_with r (set_in es k)) l ∙ ap (λ b. cond b (Some (set_with r (set_in es k))) (set_in es l)) back) in
    let two : put_to (put_to es q) r ≡ insert_entry key_cmp (put_to es q) k (set_with r (set_in es k)) = ap (λ o. insert_entry key_cmp (put_to es q) k (set_with r o)) (found-insert es l (set_with q (set_in es l)) k ∙ ap (λ b. cond b (Some (set_with q (set_in es l))) (set_in es k)) h) in
    one ∙ either_way key_total k l (set_with r (set_in es k)) (set_with q (set_in es l)) h es ∙ sym two
  where
    turned : (c : Ordering) → is_eq c ≡ false → is_eq (ordering_reverse c) ≡ false
    turned Less h = refl
    turned Equal h = absurd (true≢false h)
    turned Greater h = refl

opened_either_way : (v : Version) (r q : Record) → is_eq (key_cmp (key_of r) (key_of q)) ≡ false → opened_with (opened_with v r) q ≡ opened_with (opened_with v q) r
opened_either_way v r q h =
    ap (λ w. opened_with w q) (opened_puts v r) ∙ opened_puts (with_sets v (put_to v.sets r)) q
    ∙ ap (with_sets v) (puts_either_way v.sets r q h)
    ∙ sym (ap (λ w. opened_with w r) (opened_puts v q) ∙ opened_puts (with_sets v (put_to v.sets q)) r)

-- ---- hosts of one owner have one number

in_lower_case : (l : List ℕ) → AllDigits 10 l → str_to_ascii_lowercase l ≡ l
in_lower_case [] a = refl
in_lower_case (c ∷ l) a =
    let p = tells_digits.parts c l a in
    λ i. (lowercase_is c).1 (omega (arith, p.0)) i ∷ in_lower_case l p.1 i

module _ (n : ℕ) (some : 0 < n) (small : n < 2 ^ 32) where
  number_small : (x : ℕ) → host_number n x < 2 ^ 64
  number_small x =
      let below : host_number n x < n = mod-lt (x / 2 ^ 33) some in
      omega (arith, below, small)

  folded_digits : (x : ℕ) → str_to_ascii_lowercase (decimal (host_number n x)) ≡ decimal (host_number n x)
  folded_digits x = in_lower_case (decimal (host_number n x)) (decimal_is_IsNumeral (host_number n x) (number_small x)).0.1

  first_label : Name → List ℕ
  first_label [] = []
  first_label (l ∷ more) = drop 1 l

  one_number : (x y : ℕ) → names.fold (host_owner n x) ≡ names.fold (host_owner n y) → host_number n x ≡ host_number n y
  unfolding first_label
  one_number x y e = decimal_injective (host_number n x) (host_number n y) (number_small x) (number_small y) (sym (folded_digits x) ∙ ap first_label e ∙ folded_digits y)

  -- ---- a draw moves ahead of those of other ranks

  same_rank : ℕ → ℕ → Bool
  same_rank x y = host_rank n x == host_rank n y

  alike : (x y : ℕ) → host_rank n x ≡ host_rank n y → same_rank x y ≡ true
  unfolding same_rank
  alike x y e = eq-eqb (host_rank n x) (host_rank n y) e

  alike_both : (x y z : ℕ) → same_rank z x ≡ true → same_rank z y ≡ true → same_rank x y ≡ true
  unfolding same_rank
  alike_both x y z e f = eq-eqb (host_rank n x) (host_rank n y) (sym (eqb-true (host_rank n z) (host_rank n x) e) ∙ eqb-true (host_rank n z) (host_rank n y) f)

  with_itself : (x : ℕ) (xs : List ℕ) → filter (same_rank x) (x ∷ xs) ≡ x ∷ filter (same_rank x) xs
  with_itself x xs = ap (λ b. cond b (x ∷ filter (same_rank x) xs) (filter (same_rank x) xs)) (alike x x refl)

  other_key : (x y : ℕ) → same_rank x y ≡ false → is_eq (key_cmp (key_of (host_record n x)) (key_of (host_record n y))) ≡ false
  other_key x y h = by (is_eq (key_cmp k l)) refl
    where
      k : Key
      k = key_of (host_record n x)

      l : Key
      l = key_of (host_record n y)

      by : (b : Bool) → is_eq (key_cmp k l) ≡ b → b ≡ false
      by true p =
          let tie = (key_from_tie k l ((Equal-is (key_cmp k l)).0 p)).0 in
          let same = one_number x y (sym (fold-fold (host_owner n x)) ∙ tie ∙ fold-fold (host_owner n y)) in
          sym (alike x y (ap rank same)) ∙ h
      by false p = refl

  record Pulled (x : ℕ) (ys : List ℕ) : Type 0 where
    pub left : List ℕ
    pub kept : (z : ℕ) → filter (same_rank z) ys ≡ filter (same_rank z) (x ∷ left)
    pub same_zone : (v : Version) → with_hosts n v ys ≡ with_hosts n v (x ∷ left)

  pulled_over : (x y : ℕ) (ys : List ℕ) → same_rank x y ≡ false → Pulled x ys → Pulled x (y ∷ ys)
  pulled_over x y ys h p = record {
    left = y ∷ p.left;
    kept = λ z. ap (λ l. cond (same_rank z y) (y ∷ l) l) (p.kept z) ∙ swapped z (same_rank z x) (same_rank z y) refl refl;
    same_zone = λ v. p.same_zone (opened_with v (host_record n y)) ∙ ap (λ w. with_hosts n w p.left) (sym (opened_either_way v (host_record n x) (host_record n y) (other_key x y h)));
  }
    where
      swapped : (z : ℕ) (a b : Bool) → same_rank z x ≡ a → same_rank z y ≡ b → cond b (y ∷ cond a (x ∷ filter (same_rank z) p.left) (filter (same_rank z) p.left)) (cond a (x ∷ filter (same_rank z) p.left) (filter (same_rank z) p.left))
          ≡ cond a (x ∷ cond b (y ∷ filter (same_rank z) p.left) (filter (same_rank z) p.left)) (cond b (y ∷ filter (same_rank z) p.left) (filter (same_rank z) p.left))
      swapped z true true e f = absurd (true≢false (sym (alike_both x y z e f) ∙ h))
      swapped z true false e f = refl
      swapped z false true e f = refl
      swapped z false false e f = refl

  pulled : (x : ℕ) (rest ys : List ℕ) → filter (same_rank x) ys ≡ x ∷ rest → Pulled x ys
  pulled x rest [] e = cc
  pulled x rest (y ∷ ys) e = by (same_rank x y) refl e (pulled x rest ys)
    where
      by : (b : Bool) → same_rank x y ≡ b → cond b (y ∷ filter (same_rank x) ys) (filter (same_rank x) ys) ≡ x ∷ rest → (filter (same_rank x) ys ≡ x ∷ rest → Pulled x ys) → Pulled x (y ∷ ys)
      by true p e later = subst (λ z. Pulled x (z ∷ ys)) (sym (ap (λ l. get_or l 0 0) e)) (record { left = ys; kept = λ z. refl; same_zone = λ v. refl })
      by false p e later = pulled_over x y ys p (later e)

  -- ---- so those of one rank alone need to keep their order

  without_first : (x : ℕ) (b : Bool) (xs ys : List ℕ) → cond b (x ∷ ys) ys ≡ cond b (x ∷ xs) xs → ys ≡ xs
  without_first x true xs ys e = ap (drop 1) e
  without_first x false xs ys e = e

  none_left : (ys : List ℕ) → ((z : ℕ) → filter (same_rank z) ys ≡ []) → ys ≡ []
  none_left [] h = refl
  none_left (y ∷ ys) h = absurd (some_none (sym (with_itself y ys) ∙ h y))
    where
      some_none : y ∷ filter (same_rank y) ys ≡ [] → ⊥
      some_none e = cc

  by_ranks : (xs ys : List ℕ) → ((z : ℕ) → filter (same_rank z) ys ≡ filter (same_rank z) xs) → (v : Version) → with_hosts n v ys ≡ with_hosts n v xs
  by_ranks [] ys h v = ap (with_hosts n v) (none_left ys h)
  by_ranks (x ∷ xs) ys h v =
      let p = pulled x (filter (same_rank x) xs) ys (h x ∙ with_itself x xs) in
      p.same_zone v ∙ by_ranks xs p.left (λ z. without_first x (same_rank z x) (filter (same_rank z) xs) (filter (same_rank z) p.left) (sym (p.kept z) ∙ h z)) (opened_with v (host_record n x))

  tied_ranks : (x y : ℕ) → ties (λ x y. is_lt (nat_cmp (host_rank n x) (host_rank n y))) x y ≡ same_rank x y
  unfolding same_rank
  tied_ranks x y =
      ap (λ c. not (is_lt (nat_cmp (host_rank n x) (host_rank n y))) && not (is_lt c)) (nat_cmp_total.antisymm (host_rank n y) (host_rank n x))
      ∙ by (nat_cmp (host_rank n x) (host_rank n y)) ∙ sym (unsigned_ties (host_rank n x) (host_rank n y))
    where
      by : (c : Ordering) → (not (is_lt c) && not (is_lt (ordering_reverse c))) ≡ is_eq c
      by Less = refl
      by Equal = refl
      by Greater = refl

  -- the zone with hosts in a stable order by rank
  pub same_hosts : (xs ys : List ℕ) → IsStableByKey (host_rank n) nat_cmp xs ys → (v : Version) → with_hosts n v ys ≡ with_hosts n v xs
  same_hosts xs ys h = by_ranks xs ys (λ z. sym (ap (λ p. filter p ys) (λ i y. tied_ranks z y i)) ∙ h z ∙ ap (λ p. filter p xs) (λ i y. tied_ranks z y i))
