-- A difference leads from any version that is the same as the one to any that is the same as the other.
use Rattle.std.proofs.Common.{◌≡◌, ℕ, ◌≤◌, Bool, true, false, cond, ◌&&◌, ◌||◌, ◌==◌, not, if◌then◌else◌, List, [], ◌∷◌, ◌++◌, filter, flat_map, length, refl, sym, ap, ◌∙◌, subst, append-nil, true≢false, Equal, Option, Some, None, is_some, eqb-true, arith}
use Rattle.std.specs.Option.{option_map_or}
use Rattle.std.specs.List.{list_all, list_any}
use Rattle.std.specs.Cmp.{first_so, second_so, nat_eq_equiv}
use Rattle.std.specs.Cmp.Derive.{both_true}
use Rattle.dns_name.specs.Names.{Name, fold, under}
use Rattle.dns_name.specs.Records.{Field, same_data}
use Rattle.dns_numbers.specs.Codes.{type_cname}
use Rattle.zone_model.specs.Version.{RecordSet, Key, Sets, Version, IsValid, key_cmp, set_in, below_apex, all_differ}
use Rattle.zone_model.specs.Edits.{with_sets, add_all, delete_all}
use Rattle.zone_model.proofs.Folded.{key_total, key_from_tie}
use Rattle.zone_model.proofs.Ordered.{Alike, find_alike}
use Rattle.zone_model.proofs.Steps.{Good, Does, set_of, items_of, unless_empty, more, cut, minus, CanAdd, CanDelete, AliasOk, adding_all, entry_adds, entry_deletes, any-append, items-unless_empty, not_true}
use Rattle.zone_model.proofs.Phases.{recs, AllInZone, phase, after, add_all-append, delete_all-append}
use Rattle.zone_model.proofs.Valid.{Kept, kept, all_keys, valid_good, found_entry, one_only}
use Rattle.zone_model.proofs.WholeText.{below_near, zone_near, can_add_nothing}
use Rattle.zone_model.proofs.SameVersions.{any, EqAny, any_alike, all_in, Respects, any-filter, any-minus, any_here, none_any, SameSet, Like}

-- ---- at one key

-- whether a set holds data with this TTL, and the data of a set that another lacks
abbrev pub held : Option RecordSet → ℕ → List Field → Bool
held o ttl d = option_map_or (λ (s : RecordSet). (s.ttl == ttl) && any d s.items) o false

abbrev pub lack : Option RecordSet → RecordSet → List (List Field)
lack o s = filter (λ d. not (held o s.ttl d)) s.items

abbrev pub agree : Option RecordSet → ℕ → Bool
agree o ttl = option_map_or (λ (s : RecordSet). s.ttl == ttl) o false

held-is : (o : Option RecordSet) (ttl : ℕ) (d : List Field) → held o ttl d ≡ (agree o ttl && any d (items_of o))
held-is None ttl d = refl
held-is (Some s) ttl d = refl

lack_respects : (o : Option RecordSet) (ttl : ℕ) → Respects (λ d. not (held o ttl d))
lack_respects None ttl x y e = refl
lack_respects (Some s) ttl x y e = ap (λ b. not ((s.ttl == ttl) && b)) (any_alike x y e s.items)

pub any-lack : (o : Option RecordSet) (s : RecordSet) (d : List Field) → any d (lack o s) ≡ (any d s.items && not (agree o s.ttl && any d (items_of o)))
any-lack o s d = any-filter (λ x. not (held o s.ttl x)) (lack_respects o s.ttl) d s.items ∙ ap (λ b. any d s.items && not b) (held-is o s.ttl d)

-- whether two sets have one TTL
abbrev pub together : Option RecordSet → Option RecordSet → Bool
together None w = false
together (Some x) w = agree w x.ttl

-- what deletes leave, and then what adds leave, of a set in place of the old one
abbrev pub reduced : Option RecordSet → Option RecordSet → Option RecordSet → Option RecordSet
reduced None w b = b
reduced (Some s) w b = cut s.ttl b (lack w s)

abbrev pub extended : Option RecordSet → Option RecordSet → Option RecordSet → Option RecordSet
extended v None c = c
extended v (Some s) c = more s.ttl c (lack v s)

abbrev pub Full : Option RecordSet → Type 0
Full None = Unit {0}
Full (Some s) = 1 ≤ length s.items

pub items-cut : (t : ℕ) (old : Option RecordSet) (ds : List (List Field)) → items_of (cut t old ds) ≡ minus (items_of old) ds
items-cut t old [] = refl
items-cut t old (d ∷ ds) = items-unless_empty t (minus (items_of old) (d ∷ ds))

pub items-more : (t : ℕ) (old : Option RecordSet) (ds : List (List Field)) → items_of (more t old ds) ≡ items_of old ++ ds
items-more t old [] = sym (append-nil (items_of old))
items-more t old (d ∷ ds) = refl

pub left_over : (a h : Bool) → (a && not (a && not h)) ≡ (a && h)
left_over true true = refl
left_over true false = refl
left_over false h = refl

abbrev pub AlikeSets : Option RecordSet → Option RecordSet → Type 0
AlikeSets o p = Alike key_total SameSet o p

any-reduced : (v w b : Option RecordSet) → AlikeSets b v → (d : List Field) → any d (items_of (reduced v w b)) ≡ (any d (items_of v) && (together v w && any d (items_of w)))
any-reduced None w None a d = refl
any-reduced None w (Some y) a d = absurd a
any-reduced (Some x) w None a d = absurd a
any-reduced (Some x) w (Some y) a d =
    ap (any d) (items-cut x.ttl (Some y) (lack w x)) ∙ any-minus d (lack w x) y.items
    ∙ (λ i. a.items d i && not (any-lack w x d i))
    ∙ left_over (any d x.items) (agree w x.ttl && any d (items_of w))

pub put_together : (v s w : Bool) → ((v && (s && w)) || (w && not (s && v))) ≡ w
put_together true true true = refl
put_together true true false = refl
put_together true false true = refl
put_together true false false = refl
put_together false s true = by s
  where
    by : (b : Bool) → not (b && false) ≡ true
    by true = refl
    by false = refl
put_together false s false = refl

pub and_none : (v s : Bool) → (v && (s && false)) ≡ false
and_none true true = refl
and_none true false = refl
and_none false s = refl

together-turned : (v : Option RecordSet) (s : RecordSet) → together v (Some s) ≡ agree v s.ttl
together-turned None s = refl
together-turned (Some x) s = nat_eq_equiv.symm s.ttl x.ttl

any-extended : (v w c : Option RecordSet) → ((d : List Field) → any d (items_of c) ≡ (any d (items_of v) && (together v w && any d (items_of w)))) → (d : List Field) → any d (items_of (extended v w c)) ≡ any d (items_of w)
any-extended v None c h d = h d ∙ and_none (any d (items_of v)) (together v None)
any-extended v (Some s) c h d =
    ap (any d) (items-more s.ttl c (lack v s)) ∙ any-append (same_data d) (items_of c) (lack v s)
    ∙ (λ i. (h d ∙ ap (λ b. any d (items_of v) && (b && any d s.items)) (together-turned v s)) i || any-lack v s d i)
    ∙ put_together (any d (items_of v)) (agree v s.ttl) (any d s.items)

pub full_unless : (s : RecordSet) (l : List (List Field)) → s.items ≡ l → Full (unless_empty s)
full_unless s [] e = subst (λ l. Full (if length l == 0 then None else Some s)) (sym e) tt
full_unless s (x ∷ l) e =
    let n : 1 ≤ length s.items = subst (λ l. 1 ≤ length l) (sym e) (let k : 1 ≤ length (x ∷ l) = omega arith in k) in
    elim (length s.items == 0) as (λ b. Full (if b then None else Some s)) [ true ↦ tt | false ↦ n ]

pub full_cut : (t : ℕ) (old : Option RecordSet) (ds : List (List Field)) → Full old → Full (cut t old ds)
full_cut t old [] f = f
full_cut t old (d ∷ ds) f = full_unless (set_of t (minus (items_of old) (d ∷ ds))) (minus (items_of old) (d ∷ ds)) refl

pub full_alike : (b v : Option RecordSet) → AlikeSets b v → Full v → Full b
full_alike None v a f = tt
full_alike (Some y) None a f = absurd a
full_alike (Some y) (Some x) a f = by y.items x.items a.items f
  where
    by : (ys xs : List (List Field)) → EqAny ys xs → 1 ≤ length xs → 1 ≤ length ys
    by ys [] e n = absurd (omega arith)
    by [] (x ∷ xs) e n = absurd (true≢false (sym (any_here x xs) ∙ sym (e x)))
    by (y ∷ ys) (x ∷ xs) e n = omega arith

full_reduced : (v w b : Option RecordSet) → AlikeSets b v → Full v → Full (reduced v w b)
full_reduced None w b a f = full_alike b None a tt
full_reduced (Some x) w b a f = full_cut x.ttl b (lack w x) (full_alike b (Some x) a f)

-- no data, no set
pub none_left : (c : Option RecordSet) → Full c → ((d : List Field) → any d (items_of c) ≡ false) → c ≡ None
none_left None f h = refl
none_left (Some s) f h = let e : s.items ≡ [] = none_any s.items h in let n : length s.items ≡ 0 = ap length e in let g : 1 ≤ length s.items = f in absurd (omega arith)

-- the TTL of what deletes leave
ttl_inside : (x y : RecordSet) → ◌≡◌ {A = Option RecordSet} (Some x) (Some y) → x.ttl ≡ y.ttl
ttl_inside x y e = ap (λ o. option_map_or (λ (s : RecordSet). s.ttl) o 0) e

pub ttl_cut : (t : ℕ) (old : Option RecordSet) (ds : List (List Field)) (x : RecordSet) → ((y : RecordSet) → old ≡ Some y → y.ttl ≡ t) → cut t old ds ≡ Some x → x.ttl ≡ t
ttl_cut t old [] x h e = h x e
ttl_cut t old (d ∷ ds) x h e =
    elim (length (minus (items_of old) (d ∷ ds)) == 0) as (λ b. (if b then None else Some (set_of t (minus (items_of old) (d ∷ ds)))) ≡ Some x → x.ttl ≡ t) [
      | true ↦ λ k. absurd (true≢false (sym (ap is_some k)))
      | false ↦ λ k. sym (ttl_inside (set_of t (minus (items_of old) (d ∷ ds))) x k)
    ] e

pub ttl_of_alike : (b : Option RecordSet) (x y : RecordSet) → AlikeSets b (Some x) → b ≡ Some y → y.ttl ≡ x.ttl
ttl_of_alike None x y a e = absurd a
ttl_of_alike (Some z) x y a e = sym (ttl_inside z y e) ∙ a.ttl

-- a set whose data are among those of both has their TTL
same_ttl : (v : Option RecordSet) (s : RecordSet) (b : Option RecordSet) (x : RecordSet) (d : List Field) → AlikeSets b v → reduced v (Some s) b ≡ Some x → (any d (items_of v) && (together v (Some s) && any d s.items)) ≡ true → x.ttl ≡ s.ttl
same_ttl None s b x d a e h = absurd (true≢false (sym h))
same_ttl (Some y) s b x d a e h =
    ttl_cut y.ttl b (lack (Some s) y) x (λ z k. ttl_of_alike b y z a k) e ∙ sym (eqb-true s.ttl y.ttl (first_so (s.ttl == y.ttl) (any d s.items) (second_so (any d y.items) _ h)))

pub first_data : (xs : List (List Field)) → 1 ≤ length xs → (d : List Field) × (any d xs ≡ true)
first_data [] h = absurd (omega arith)
first_data (x ∷ xs) h = (x, any_here x xs)

pub leads : (v w b : Option RecordSet) → AlikeSets b v → Full v → Full w → AlikeSets (extended v w (reduced v w b)) w
leads v None b a fv fw =
    let c : Option RecordSet = reduced v None b in
    subst (λ z. AlikeSets z None) (sym (none_left c (full_reduced v None b a fv) (any-extended v None c (any-reduced v None b a)))) tt
leads v (Some s) b a fv fw = by (lack v s) refl
  where
    c : Option RecordSet
    c = reduced v (Some s) b

    same_data_left : (d : List Field) → any d (items_of (more s.ttl c (lack v s))) ≡ any d s.items
    same_data_left = any-extended v (Some s) c (any-reduced v (Some s) b a)

    left : (o : Option RecordSet) → c ≡ o → ((d : List Field) → any d (items_of o) ≡ any d s.items) → AlikeSets o (Some s)
    left None e h = let p = first_data s.items fw in absurd (true≢false (sym (h p.0 ∙ p.1)))
    left (Some x) e h =
        let p = first_data s.items fw in
        record { ttl = same_ttl v s b x p.0 a e (sym (any-reduced v (Some s) b a p.0) ∙ ap (λ o. any p.0 (items_of o)) e ∙ h p.0 ∙ p.1); items = h }

    by : (l : List (List Field)) → lack v s ≡ l → AlikeSets (more s.ttl c (lack v s)) (Some s)
    by [] e = subst (λ l. AlikeSets (more s.ttl c l) (Some s)) (sym e) (left c refl (λ d. sym (ap (λ l. any d (items_of (more s.ttl c l))) e) ∙ same_data_left d))
    by (d ∷ ds) e = subst (λ l. AlikeSets (more s.ttl c l) (Some s)) (sym e) (record { ttl = refl; items = λ x. sym (ap (λ l. any x (items_of (more s.ttl c l))) e) ∙ same_data_left x })

-- ---- what may be deleted and added there

list_all_filter : (p r : List Field → Bool) (xs : List (List Field)) → ((x : List Field) → p x ≡ true → r x ≡ true) → list_all r (filter p xs) ≡ true
list_all_filter p r [] h = refl
list_all_filter p r (x ∷ xs) h = by (p x) refl (list_all_filter p r xs h)
  where
    by : (b : Bool) → p x ≡ b → list_all r (filter p xs) ≡ true → list_all r (cond b (x ∷ filter p xs) (filter p xs)) ≡ true
    by true e k = both_true (h x e) k
    by false e k = k

list_all_part : (p r : List Field → Bool) (xs : List (List Field)) → list_all r xs ≡ true → list_all r (filter p xs) ≡ true
list_all_part p r [] h = refl
list_all_part p r (x ∷ xs) h = by (p x) (list_all_part p r xs (second_so (r x) _ h))
  where
    by : (b : Bool) → list_all r (filter p xs) ≡ true → list_all r (cond b (x ∷ filter p xs) (filter p xs)) ≡ true
    by true k = both_true (first_so (r x) _ h) k
    by false k = k

none_in_part : (p : List Field → Bool) (d : List Field) (xs : List (List Field)) → any d xs ≡ false → any d (filter p xs) ≡ false
none_in_part p d [] h = refl
none_in_part p d (x ∷ xs) h = by (p x) (same_data d x) refl h (λ k. none_in_part p d xs k)
  where
    by : (a b : Bool) → same_data d x ≡ b → (b || any d xs) ≡ false → (any d xs ≡ false → any d (filter p xs) ≡ false) → any d (cond a (x ∷ filter p xs) (filter p xs)) ≡ false
    by a true e k later = absurd (true≢false k)
    by true false e k later = ap (λ c. c || any d (filter p xs)) e ∙ later k
    by false false e k later = later k

pub differ_part : (p : List Field → Bool) (xs : List (List Field)) → all_differ xs ≡ true → all_differ (filter p xs) ≡ true
differ_part p [] h = refl
differ_part p (x ∷ xs) h = by (p x) (differ_part p xs (second_so (not (any x xs)) _ h))
  where
    by : (b : Bool) → all_differ (filter p xs) ≡ true → all_differ (cond b (x ∷ filter p xs) (filter p xs)) ≡ true
    by true k = both_true (ap not (none_in_part p x xs (not_true (any x xs) (first_so (not (any x xs)) _ h)))) k
    by false k = k

can_delete : (w b : Option RecordSet) (s : RecordSet) (is_alias : Bool) → AlikeSets b (Some s) → all_differ s.items ≡ true → CanDelete b is_alias (lack w s)
can_delete w None s is_alias a h = absurd a
can_delete w (Some y) s is_alias a h = record {
  stand = list_all_part (λ d. not (held w s.ttl d)) (λ d. any d y.items) s.items (all_in s.items y.items (λ d. sym (a.items d)));
  differ = differ_part (λ d. not (held w s.ttl d)) s.items h;
}

apart : (v s w : Bool) → not (s && v) ≡ true → (v && (s && w)) ≡ false
apart true true w h = absurd (true≢false (sym h))
apart true false w h = refl
apart false s w h = refl

module _ (v : Option RecordSet) (s : RecordSet) (c : Option RecordSet) (full : Full c) (h : (d : List Field) → any d (items_of c) ≡ (any d (items_of v) && (together v (Some s) && any d s.items))) where
  lacking : (d : List Field) → not (held v s.ttl d) ≡ true → any d (items_of c) ≡ false
  lacking d n =
      h d ∙ ap (λ b. any d (items_of v) && (b && any d s.items)) (together-turned v s)
      ∙ apart (any d (items_of v)) (agree v s.ttl) (any d s.items) (sym (ap not (held-is v s.ttl d)) ∙ n)

  no_other : (x : List Field) → s.items ≡ x ∷ [] → not (held v s.ttl x) ≡ true → (d : List Field) → any d (items_of c) ≡ false
  no_other x e n d = by (same_data d x) refl
    where
      by : (b : Bool) → same_data d x ≡ b → any d (items_of c) ≡ false
      by true p = lacking d (lack_respects v s.ttl d x p ∙ n)
      by false p =
          h d ∙ ap (λ l. any d (items_of v) && (together v (Some s) && any d l)) e ∙ ap (λ b. any d (items_of v) && (together v (Some s) && (b || false))) p ∙ and_none (any d (items_of v)) (together v (Some s))

  second_alias_none : (x : List Field) → s.items ≡ x ∷ [] → (l : List (List Field)) → lack v s ≡ l → (b : Bool) → AliasOk b c l
  second_alias_none x e [] k b = tt
  second_alias_none x e (d ∷ ds) k b = by (not (held v s.ttl x)) refl (sym (ap (filter (λ y. not (held v s.ttl y))) e) ∙ k)
    where
      by : (a : Bool) → not (held v s.ttl x) ≡ a → cond a (x ∷ []) [] ≡ d ∷ ds → b ≡ true → (c ≡ None) × (ds ≡ [])
      by true n q i = (none_left c full (no_other x e n), sym (ap tail_of q))
        where
          tail_of : List (List Field) → List (List Field)
          tail_of [] = []
          tail_of (y ∷ ys) = ys
      by false n q i = absurd (true≢false (sym (ap (list_any (λ y. true)) q)))

  alias_ok : (b : Bool) → (b ≡ true → length s.items ≡ 1) → AliasOk b c (lack v s)
  alias_ok true one = let p = one_only s.items (one refl) in second_alias_none p.0 p.1 (lack v s) refl true
  alias_ok false one = by (lack v s)
    where
      by : (l : List (List Field)) → AliasOk false c l
      by [] = tt
      by (d ∷ ds) = λ e. absurd (true≢false (sym e))

  can_add : (b : Bool) → (b ≡ true → length s.items ≡ 1) → all_differ s.items ≡ true → CanAdd c b (lack v s)
  can_add b one differ = record {
    fresh = list_all_filter (λ d. not (held v s.ttl d)) (λ d. not (any d (items_of c))) s.items (λ d n. ap not (lacking d n));
    differ = differ_part (λ d. not (held v s.ttl d)) s.items differ;
    alias = alias_ok b one;
  }

-- ---- over whole versions

pub full_valid : (v : Version) → IsValid v → (q : Key) → Full (set_in v.sets q)
full_valid v h q = by (set_in v.sets q) refl
  where
    by : (o : Option RecordSet) → set_in v.sets q ≡ o → Full o
    by None e = tt
    by (Some s) e = (found_entry (Kept v) v.sets q s (kept v h) e).holds_of.holds_some

abbrev zones : (v : Version) → IsValid v → AllInZone v v.sets
zones v h = all_keys (Kept v) (λ (k : Key). under k.0 v.apex ≡ true) v.sets (λ e k. k.zone) (kept v h)

module _ (v w base : Version) (hv : IsValid v) (hw : IsValid w) (near : fold v.apex ≡ fold w.apex) (l : Like base v) (show : Name → Name) (show_folds : (n : Name) → fold (show n) ≡ fold n) (cl : ℕ)
    (skip : Key → Bool) (skip_ties : (k q : Key) → key_cmp k q ≡ Equal → skip k ≡ skip q) where
  -- what is deleted and added of each set, of those that aren't skipped
  abbrev pub gone : Key → RecordSet → List (List Field)
  gone k s = if skip k then [] else lack (set_in w.sets k) s

  abbrev pub came : Key → RecordSet → List (List Field)
  came k s = if skip k then [] else lack (set_in v.sets k) s

  pub gone_ties : (k q : Key) (s : RecordSet) → key_cmp k q ≡ Equal → gone k s ≡ gone q s
  gone_ties k q s e i = if skip_ties k q e i then [] else lack (find_alike key_total w.sets k q e i) s

  pub came_ties : (k q : Key) (s : RecordSet) → key_cmp k q ≡ Equal → came k s ≡ came q s
  came_ties k q s e i = if skip_ties k q e i then [] else lack (find_alike key_total v.sets k q e i) s

  fits_deleted : (q : Key) (s : RecordSet) → set_in v.sets q ≡ Some s → CanDelete (set_in base.sets q) (below_apex base q.0 && (q.1 == type_cname)) (gone q s)
  fits_deleted q s found =
      let alike : AlikeSets (set_in base.sets q) (Some s) = subst (λ z. AlikeSets (set_in base.sets q) z) found (l.same q) in
      let differ : all_differ s.items ≡ true = (found_entry (Kept v) v.sets q s (kept v hv) found).holds_of.differ in
      elim (skip q) as (λ b. CanDelete (set_in base.sets q) (below_apex base q.0 && (q.1 == type_cname)) (if b then [] else lack (set_in w.sets q) s)) [
        | true ↦ record { stand = refl; differ = refl }
        | false ↦ can_delete (set_in w.sets q) (set_in base.sets q) s (below_apex base q.0 && (q.1 == type_cname)) alike differ
      ]

  abbrev after_deletes : Key → Option RecordSet → Option RecordSet → Option RecordSet
  after_deletes = after delete_all delete_all-append cut CanDelete (λ x. refl) base (entry_deletes base) show show_folds cl gone gone_ties

  pub deleted : Does delete_all base base.sets (flat_map (recs show cl gone) v.sets) (λ q. after_deletes q (set_in base.sets q) (set_in v.sets q))
  deleted = phase delete_all delete_all-append cut CanDelete (λ x. refl) base (entry_deletes base) show show_folds cl gone gone_ties v.sets (valid_good v hv) (zone_near v base v.sets (sym l.near) (zones v hv)) base.sets l.good fits_deleted

  pub left : (q : Key) → skip q ≡ false → set_in deleted.sets q ≡ reduced (set_in v.sets q) (set_in w.sets q) (set_in base.sets q)
  left q n = deleted.found q ∙ by (set_in v.sets q)
    where
      by : (o : Option RecordSet) → after_deletes q (set_in base.sets q) o ≡ reduced o (set_in w.sets q) (set_in base.sets q)
      by None = refl
      by (Some s) = ap (λ b. cut s.ttl (set_in base.sets q) (if b then [] else lack (set_in w.sets q) s)) n

  pub left_skipped : (q : Key) → skip q ≡ true → set_in deleted.sets q ≡ set_in base.sets q
  left_skipped q n = deleted.found q ∙ by (set_in v.sets q)
    where
      by : (o : Option RecordSet) → after_deletes q (set_in base.sets q) o ≡ set_in base.sets q
      by None = refl
      by (Some s) = ap (λ b. cut s.ttl (set_in base.sets q) (if b then [] else lack (set_in w.sets q) s)) n

  module _ (ms : Sets) (good : Good ms) (rest : (q : Key) → skip q ≡ false → set_in ms q ≡ reduced (set_in v.sets q) (set_in w.sets q) (set_in base.sets q))
      (skipped : (q : Key) → skip q ≡ true → AlikeSets (set_in ms q) (set_in w.sets q)) where
    one_alias : (q : Key) (s : RecordSet) → set_in w.sets q ≡ Some s → (below_apex base q.0 && (q.1 == type_cname)) ≡ true → length s.items ≡ 1
    one_alias q s found e =
        let f = found_entry (Kept w) w.sets q s (kept w hw) found in
        let t = key_from_tie q f.key f.tied in
        f.holds_of.alias (sym (λ i. below_near base w q.0 f.key.0 (l.near ∙ near) t.0 i && (t.1 i == type_cname)) ∙ e)

    fits_added : (q : Key) (s : RecordSet) → set_in w.sets q ≡ Some s → CanAdd (set_in ms q) (below_apex base q.0 && (q.1 == type_cname)) (came q s)
    fits_added q s found = by (skip q) refl
      where
        now : Option RecordSet
        now = reduced (set_in v.sets q) (Some s) (set_in base.sets q)

        can : CanAdd (reduced (set_in v.sets q) (Some s) (set_in base.sets q)) (below_apex base q.0 && (q.1 == type_cname)) (lack (set_in v.sets q) s)
        can = can_add (set_in v.sets q) s (reduced (set_in v.sets q) (Some s) (set_in base.sets q))
            (full_reduced (set_in v.sets q) (Some s) (set_in base.sets q) (l.same q) (full_valid v hv q)) (any-reduced (set_in v.sets q) (Some s) (set_in base.sets q) (l.same q))
            (below_apex base q.0 && (q.1 == type_cname)) (one_alias q s found) (found_entry (Kept w) w.sets q s (kept w hw) found).holds_of.differ

        by : (b : Bool) → skip q ≡ b → CanAdd (set_in ms q) (below_apex base q.0 && (q.1 == type_cname)) (if b then [] else lack (set_in v.sets q) s)
        by true n = can_add_nothing (below_apex base q.0 && (q.1 == type_cname)) (set_in ms q)
        by false n = subst (λ z. CanAdd z (below_apex base q.0 && (q.1 == type_cname)) (lack (set_in v.sets q) s)) (sym (rest q n ∙ ap (λ z. reduced (set_in v.sets q) z (set_in base.sets q)) found)) can

    abbrev after_adds : Key → Option RecordSet → Option RecordSet → Option RecordSet
    after_adds = after add_all add_all-append more CanAdd (λ x. refl) base (entry_adds adding_all base) show show_folds cl came came_ties

    pub added : Does add_all base ms (flat_map (recs show cl came) w.sets) (λ q. after_adds q (set_in ms q) (set_in w.sets q))
    added = phase add_all add_all-append more CanAdd (λ x. refl) base (entry_adds adding_all base) show show_folds cl came came_ties w.sets (valid_good w hw) (zone_near w base w.sets (sym (l.near ∙ near)) (zones w hw)) ms good fits_added

    arrives : (q : Key) → AlikeSets (after_adds q (set_in ms q) (set_in w.sets q)) (set_in w.sets q)
    arrives q = by (skip q) refl
      where
        stays : (o : Option RecordSet) → skip q ≡ true → after_adds q (set_in ms q) o ≡ set_in ms q
        stays None n = refl
        stays (Some s) n = ap (λ b. more s.ttl (set_in ms q) (if b then [] else lack (set_in v.sets q) s)) n

        grows : (o : Option RecordSet) → skip q ≡ false → after_adds q (set_in ms q) o ≡ extended (set_in v.sets q) o (set_in ms q)
        grows None n = refl
        grows (Some s) n = ap (λ b. more s.ttl (set_in ms q) (if b then [] else lack (set_in v.sets q) s)) n

        by : (b : Bool) → skip q ≡ b → AlikeSets (after_adds q (set_in ms q) (set_in w.sets q)) (set_in w.sets q)
        by true n = subst (λ z. AlikeSets z (set_in w.sets q)) (sym (stays (set_in w.sets q) n)) (skipped q n)
        by false n =
            subst (λ z. AlikeSets z (set_in w.sets q)) (sym (grows (set_in w.sets q) n ∙ ap (extended (set_in v.sets q) (set_in w.sets q)) (rest q n)))
            (leads (set_in v.sets q) (set_in w.sets q) (set_in base.sets q) (l.same q) (full_valid v hv q) (full_valid w hw q))

    pub arrived : Like (with_sets base added.sets) w
    arrived = record { near = l.near ∙ near; good = added.good; same = λ q. subst (λ z. AlikeSets z (set_in w.sets q)) (sym (added.found q)) (arrives q) }
