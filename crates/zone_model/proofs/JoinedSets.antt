-- Two differences joined at each key.
use Rattle.std.proofs.Common.{◌≡◌, ℕ, ◌≤◌, Bool, true, false, ◌&&◌, ◌||◌, ◌==◌, not, if◌then◌else◌, List, [], ◌∷◌, ◌++◌, filter, length, refl, sym, ap, ◌∙◌, subst, true≢false, Option, Some, None, is_some, option_map, eqb-true, eq-eqb, arith}
use Rattle.std.specs.Option.{option_map_or}
use Rattle.std.specs.List.{list_all}
use Rattle.std.specs.Cmp.{first_so, second_so, nat_eq_equiv}
use Rattle.std.specs.Cmp.Derive.{both_true}
use Rattle.dns_name.specs.Records.{Field, same_data}
use Rattle.zone_model.specs.Version.{RecordSet, Key, Sets, set_in, all_differ}
use Rattle.zone_model.specs.Difference.{without, merged_set}
use Rattle.zone_model.proofs.Steps.{Good, set_of, items_of, unless_empty, any-append, items-unless_empty, not_true}
use Rattle.zone_model.proofs.SameVersions.{any, any_alike, all_in, Respects, any-filter}
use Rattle.zone_model.proofs.Differences.{held, lack, together, Full, full_unless, any-lack, first_data, differ_part}
use Rattle.zone_model.proofs.ChangesText.{lookup-without, lookup-without_none}

-- ---- what is taken from one version on the way to another, as look-ups

abbrev pub ttl_at : Option RecordSet → Option ℕ
ttl_at o = option_map (λ (s : RecordSet). s.ttl) o

-- whether two TTLs are there and equal
abbrev pub tie : Option ℕ → Option ℕ → Bool
tie None n = false
tie (Some m) None = false
tie (Some m) (Some n) = n == m

-- what the set o lacks of x to y: the data of x that y, where its TTL is the same, has not
pub record Lacks (o x y : Option RecordSet) : Type 0 where
  pub full : Full o
  pub holds_data : (d : List Field) → any d (items_of o) ≡ (any d (items_of x) && not (tie (ttl_at x) (ttl_at y) && any d (items_of y)))
  pub differ : all_differ (items_of o) ≡ true
  pub ttl : (s : RecordSet) → o ≡ Some s → ttl_at x ≡ Some s.ttl

pub together-is : (x y : Option RecordSet) → together x y ≡ tie (ttl_at x) (ttl_at y)
together-is None y = refl
together-is (Some x) None = refl
together-is (Some x) (Some y) = refl

-- of one set what another lacks, as a look-up in `without`
abbrev pub except : Option RecordSet → Option RecordSet → Option RecordSet
except None w = None
except (Some s) w = unless_empty (set_of s.ttl (lack w s))

pub found-without : (es others : Sets) (q : Key) → Good es → set_in (without es others) q ≡ except (set_in es q) (set_in others q)
found-without es others q g = by (set_in es q) refl
  where
    by : (o : Option RecordSet) → set_in es q ≡ o → set_in (without es others) q ≡ except o (set_in others q)
    by None e = lookup-without_none es others q e
    by (Some s) e = lookup-without es others q s g e

pub any-except : (a b : Option RecordSet) (d : List Field) → any d (items_of (except a b)) ≡ (any d (items_of a) && not (tie (ttl_at a) (ttl_at b) && any d (items_of b)))
any-except None b d = refl
any-except (Some s) b d = ap (any d) (items-unless_empty s.ttl (lack b s)) ∙ any-lack b s d ∙ ap (λ c. any d s.items && not (c && any d (items_of b))) (together-is (Some s) b)

pub full-except : (a b : Option RecordSet) → Full (except a b)
full-except None b = tt
full-except (Some s) b = full_unless (set_of s.ttl (lack b s)) (lack b s) refl

pub differ-except : (a b : Option RecordSet) → all_differ (items_of a) ≡ true → all_differ (items_of (except a b)) ≡ true
differ-except None b h = refl
differ-except (Some s) b h = ap all_differ (items-unless_empty s.ttl (lack b s)) ∙ differ_part (λ d. not (held b s.ttl d)) s.items h

pub some_ttl : (b : Bool) (s x : RecordSet) → (if b then None else Some s) ≡ Some x → s.ttl ≡ x.ttl
some_ttl true s x e = absurd (true≢false (sym (ap is_some e)))
some_ttl false s x e = ap (λ o. option_map_or (λ (r : RecordSet). r.ttl) o 0) e

pub ttl-except : (a b : Option RecordSet) (x : RecordSet) → except a b ≡ Some x → ttl_at a ≡ Some x.ttl
ttl-except None b x e = absurd (true≢false (sym (ap is_some e)))
ttl-except (Some s) b x e = ap Some (some_ttl (length (lack b s) == 0) (set_of s.ttl (lack b s)) x e)

-- the difference of two versions lacks so
pub lacks_first : (x y : Option RecordSet) → all_differ (items_of x) ≡ true → Lacks (except x y) x y
lacks_first x y h = record { full = full-except x y; holds_data = any-except x y; differ = differ-except x y h; ttl = λ s e. ttl-except x y s e }

-- ---- two differences at one key

pub and_false : (a : Bool) → (a && false) ≡ false
and_false true = refl
and_false false = refl

pub any-except_of : (a b x y z w : Option RecordSet) → Lacks a x y → Lacks b z w → (d : List Field) → any d (items_of (except a b)) ≡ (any d (items_of a) && not (tie (ttl_at x) (ttl_at z) && any d (items_of b)))
any-except_of None b x y z w l m d = refl
any-except_of (Some s) None x y z w l m d = any-except (Some s) None d ∙ ap (λ c. any d s.items && not c) (sym (and_false (tie (ttl_at x) (ttl_at z))))
any-except_of (Some s) (Some t) x y z w l m d = any-except (Some s) (Some t) d ∙ (λ i. any d s.items && not (tie (sym (l.ttl s refl) i) (sym (m.ttl t refl) i) && any d t.items))

pub tie-turned : (p q : Option ℕ) → tie p q ≡ tie q p
tie-turned None None = refl
tie-turned None (Some n) = refl
tie-turned (Some m) None = refl
tie-turned (Some m) (Some n) = nat_eq_equiv.symm n m

pub tie_same : (p q : Option ℕ) → tie p q ≡ true → p ≡ q
tie_same None q h = absurd (true≢false (sym h))
tie_same (Some m) None h = absurd (true≢false (sym h))
tie_same (Some m) (Some n) h = ap Some (sym (eqb-true n m h))

pub tie_itself : (o : Option RecordSet) (d : List Field) → any d (items_of o) ≡ true → tie (ttl_at o) (ttl_at o) ≡ true
tie_itself None d h = absurd (true≢false (sym h))
tie_itself (Some s) d h = eq-eqb s.ttl s.ttl refl

-- x, y and z say whether the data stand in each of three versions; the others, whether their TTLs are one
pub far_or_near : (x y z xy yz xz yy : Bool) → (y ≡ true → yy ≡ true) → (xy ≡ true → yz ≡ xz) → (xy ≡ false → xz ≡ true → yz ≡ false)
    → (((x && not (xy && y)) && not (xz && (z && not (yz && y)))) || ((y && not (yz && z)) && not (yy && (y && not (xy && x))))) ≡ (x && not (xz && z))
far_or_near x false z xy yz xz yy a b c = λ i. by xy xz z x yz i
  where
    by : (xy xz z x yz : Bool) → (((x && not (xy && false)) && not (xz && (z && not (yz && false)))) || false) ≡ (x && not (xz && z))
    by xy xz z false yz = refl
    by true true true true true = refl
    by true true true true false = refl
    by false true true true true = refl
    by false true true true false = refl
    by true true false true yz = refl
    by false true false true yz = refl
    by true false z true yz = refl
    by false false z true yz = refl
far_or_near x true z xy yz xz false a b c = absurd (true≢false (sym (a refl)))
far_or_near false true z xy true xz true a b c = by z xy
  where
    by : (z xy : Bool) → (not z && not (not (xy && false))) ≡ false
    by true xy = refl
    by false true = refl
    by false false = refl
far_or_near false true z xy false xz true a b c = by xy
  where
    by : (xy : Bool) → not (not (xy && false)) ≡ false
    by true = refl
    by false = refl
far_or_near true true z true yz xz true a b c = by yz xz z (b refl)
  where
    by : (yz xz z : Bool) → yz ≡ xz → (not (yz && z) && true) ≡ not (xz && z)
    by true true true e = refl
    by true true false e = refl
    by true false z e = absurd (true≢false e)
    by false true z e = absurd (true≢false (sym e))
    by false false z e = refl
far_or_near true true z false yz true true a b c = by yz z (c refl refl)
  where
    by : (yz z : Bool) → yz ≡ false → (not (z && not (yz && true)) || (not (yz && z) && false)) ≡ not z
    by true z e = absurd (true≢false e)
    by false true e = refl
    by false false e = refl
far_or_near true true z false yz false true a b c = refl

module _ (x y z a b c f : Option RecordSet) (la : Lacks a x y) (lb : Lacks b z y) (lc : Lacks c y z) (lf : Lacks f y x) where
  abbrev pub far : Option RecordSet
  far = except a b

  abbrev pub near : Option RecordSet
  near = except c f

  abbrev in_x : List Field → Bool
  in_x d = any d (items_of x)

  abbrev in_y : List Field → Bool
  in_y d = any d (items_of y)

  abbrev in_z : List Field → Bool
  in_z d = any d (items_of z)

  abbrev xy : Bool
  xy = tie (ttl_at x) (ttl_at y)

  abbrev yz : Bool
  yz = tie (ttl_at y) (ttl_at z)

  abbrev xz : Bool
  xz = tie (ttl_at x) (ttl_at z)

  abbrev yy : Bool
  yy = tie (ttl_at y) (ttl_at y)

  any-far : (d : List Field) → any d (items_of far) ≡ ((in_x d && not (xy && in_y d)) && not (xz && (in_z d && not (yz && in_y d))))
  any-far d = any-except_of a b x y z y la lb d ∙ (λ i. la.holds_data d i && not (xz && (lb.holds_data d ∙ ap (λ t. in_z d && not (t && in_y d)) (tie-turned (ttl_at z) (ttl_at y))) i))

  any-near : (d : List Field) → any d (items_of near) ≡ ((in_y d && not (yz && in_z d)) && not (yy && (in_y d && not (xy && in_x d))))
  any-near d = any-except_of c f y z y x lc lf d ∙ (λ i. lc.holds_data d i && not (yy && (lf.holds_data d ∙ ap (λ t. in_y d && not (t && in_x d)) (tie-turned (ttl_at y) (ttl_at x))) i))

  pub any-both : (d : List Field) → (any d (items_of far) || any d (items_of near)) ≡ (in_x d && not (xz && in_z d))
  any-both d =
      (λ i. any-far d i || any-near d i)
      ∙ far_or_near (in_x d) (in_y d) (in_z d) xy yz xz yy (tie_itself y d)
      (λ e. ap (λ t. tie t (ttl_at z)) (sym (tie_same (ttl_at x) (ttl_at y) e)))
      (λ n e. ap (tie (ttl_at y)) (sym (tie_same (ttl_at x) (ttl_at z) e)) ∙ tie-turned (ttl_at y) (ttl_at x) ∙ n)

  pub ttl-far : (s : RecordSet) → far ≡ Some s → ttl_at x ≡ Some s.ttl
  ttl-far s e = by a refl
    where
      by : (o : Option RecordSet) → a ≡ o → ttl_at x ≡ Some s.ttl
      by None q = absurd (true≢false (sym (ap is_some e) ∙ ap (λ o. is_some (except o b)) q))
      by (Some t) q = la.ttl t q ∙ sym (ap ttl_at q) ∙ ttl-except a b s e

  near_ties : (w t : Bool) (u y x : Bool) → ((y && w) && not (u && (y && not (t && x)))) ≡ true → (y ≡ true → u ≡ true) → t ≡ true
  near_ties w true u y x h k = refl
  near_ties w false u false x h k = absurd (true≢false (sym h))
  near_ties w false false true x h k = absurd (true≢false (sym (k refl)))
  near_ties true false true true x h k = absurd (true≢false (sym h))
  near_ties false false true true x h k = absurd (true≢false (sym h))

  pub ttl-near : (s : RecordSet) → near ≡ Some s → ttl_at x ≡ Some s.ttl
  ttl-near s e = by c refl
    where
      d : (d : List Field) × (any d s.items ≡ true)
      d = first_data s.items (subst Full e (full-except c f))

      tied : xy ≡ true
      tied = near_ties (not (yz && in_z d.0)) xy yy (in_y d.0) (in_x d.0) (sym (any-near d.0) ∙ ap (λ o. any d.0 (items_of o)) e ∙ d.1) (tie_itself y d.0)

      by : (o : Option RecordSet) → c ≡ o → ttl_at x ≡ Some s.ttl
      by None q = absurd (true≢false (sym (ap is_some e) ∙ ap (λ o. is_some (except o f)) q))
      by (Some t) q = tie_same (ttl_at x) (ttl_at y) tied ∙ lc.ttl t q ∙ sym (ap ttl_at q) ∙ ttl-except c f s e

-- ---- joined sets

abbrev pub joined_at : Option RecordSet → Option RecordSet → Option RecordSet
joined_at a None = a
joined_at a (Some s) = Some (merged_set a s)

pub not_in : (xs : List (List Field)) → Respects (λ d. not (any d xs))
not_in xs d e h = ap not (any_alike d e h xs)

pub once : (p q : Bool) → (p || (q && not p)) ≡ (p || q)
once true q = refl
once false true = refl
once false false = refl

pub or_nothing : (p : Bool) → p ≡ (p || false)
or_nothing true = refl
or_nothing false = refl

pub or_turned : (p q : Bool) → (p || q) ≡ (q || p)
or_turned true true = refl
or_turned true false = refl
or_turned false true = refl
or_turned false false = refl

pub any-joined : (a b : Option RecordSet) (d : List Field) → any d (items_of (joined_at a b)) ≡ (any d (items_of a) || any d (items_of b))
any-joined a None d = or_nothing (any d (items_of a))
any-joined None (Some s) d = refl
any-joined (Some o) (Some s) d =
    any-append (same_data d) o.items (filter (λ e. not (any e o.items)) s.items) ∙ ap (λ b. any d o.items || b) (any-filter (λ e. not (any e o.items)) (not_in o.items) d s.items) ∙ once (any d o.items) (any d s.items)

pub long_first : (xs ys : List (List Field)) → 1 ≤ length xs → 1 ≤ length (xs ++ ys)
long_first [] ys h = absurd (omega arith)
long_first (x ∷ xs) ys h = omega arith

pub full-joined : (a b : Option RecordSet) → Full a → Full b → Full (joined_at a b)
full-joined a None f g = f
full-joined None (Some s) f g = g
full-joined (Some o) (Some s) f g = long_first o.items (filter (λ e. not (any e o.items)) s.items) f

pub differ_append : (xs ys : List (List Field)) → all_differ xs ≡ true → all_differ ys ≡ true → list_all (λ x. not (any x ys)) xs ≡ true → all_differ (xs ++ ys) ≡ true
differ_append [] ys h k n = k
differ_append (x ∷ xs) ys h k n =
    both_true
    (ap not (any-append (same_data x) xs ys ∙ (λ i. not_true (any x xs) (first_so (not (any x xs)) _ h) i || not_true (any x ys) (first_so (not (any x ys)) _ n) i)))
    (differ_append xs ys (second_so (not (any x xs)) _ h) k (second_so (not (any x ys)) _ n))

pub list_all_then : (p r : List Field → Bool) (xs : List (List Field)) → ((x : List Field) → p x ≡ true → r x ≡ true) → list_all p xs ≡ true → list_all r xs ≡ true
list_all_then p r [] f h = refl
list_all_then p r (x ∷ xs) f h = both_true (f x (first_so (p x) _ h)) (list_all_then p r xs f (second_so (p x) _ h))

pub differ-joined : (a b : Option RecordSet) → all_differ (items_of a) ≡ true → all_differ (items_of b) ≡ true → all_differ (items_of (joined_at a b)) ≡ true
differ-joined a None h k = h
differ-joined None (Some s) h k = k
differ-joined (Some o) (Some s) h k =
    differ_append o.items (filter (λ e. not (any e o.items)) s.items) h (differ_part (λ e. not (any e o.items)) s.items k)
    (list_all_then (λ x. any x o.items) (λ x. not (any x (filter (λ e. not (any e o.items)) s.items))) o.items
    (λ x e. ap not (any-filter (λ y. not (any y o.items)) (not_in o.items) x s.items ∙ ap (λ b. any x s.items && not b) e ∙ and_false (any x s.items)))
    (all_in o.items o.items (λ d. refl)))

pub ttl-joined : (p : Option ℕ) (a b : Option RecordSet) → ((s : RecordSet) → a ≡ Some s → p ≡ Some s.ttl) → ((s : RecordSet) → b ≡ Some s → p ≡ Some s.ttl) → (s : RecordSet) → joined_at a b ≡ Some s → p ≡ Some s.ttl
ttl-joined p a None f g s e = f s e
ttl-joined p None (Some t) f g s e = g s e
ttl-joined p (Some o) (Some t) f g s e = f o refl ∙ ap ttl_at e

pub lacks_joined : (a b x z : Option RecordSet) → Full a → Full b → ((d : List Field) → (any d (items_of a) || any d (items_of b)) ≡ (any d (items_of x) && not (tie (ttl_at x) (ttl_at z) && any d (items_of z))))
    → all_differ (items_of a) ≡ true → all_differ (items_of b) ≡ true → ((s : RecordSet) → a ≡ Some s → ttl_at x ≡ Some s.ttl) → ((s : RecordSet) → b ≡ Some s → ttl_at x ≡ Some s.ttl) → Lacks (joined_at a b) x z
lacks_joined a b x z fa fb h da db ta tb = record {
  full = full-joined a b fa fb;
  holds_data = λ d. any-joined a b d ∙ h d;
  differ = differ-joined a b da db;
  ttl = ttl-joined (ttl_at x) a b ta tb;
}
