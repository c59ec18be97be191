-- What adding or deleting the records of one set does to a version's sets.
use Rattle.std.proofs.Common.{◌≡◌, ℕ, Bool, true, false, cond, ◌&&◌, ◌||◌, not, ◌==◌, if◌then◌else◌, List, [], ◌∷◌, ◌++◌, length, filter, refl, sym, ap, ◌∙◌, subst, append_assoc, true≢false, is_eq, Option, Some, None, is_some, Result, Ok, Err, eqb-true, ne_eqb, arith}
use Rattle.std.specs.Option.{option_map_or}
use Rattle.std.specs.List.{list_any, list_all, AllByRecursion}
use Rattle.std.specs.List.Sorted.{IsStrictlySortedBy}
use Rattle.std.specs.Cmp.{tied_itself, first_so, second_so, Equal-is}
use Rattle.std.specs.Cmp.Derive.{both_true}
use Rattle.std.specs.BTreeMap.{insert_entry}
use Rattle.std.specs.Map.{keys_of, remove_entry}
use Rattle.dns_name.specs.Names.{Name, fold, under}
use Rattle.dns_name.specs.Records.{Field, Record, same_data}
use Rattle.dns_numbers.specs.Codes.{type_cname}
use Rattle.zone_model.specs.Version.{RecordSet, Key, Sets, Version, key_cmp, has_key, set_in, below_apex, all_differ}
use Rattle.zone_model.specs.Answer.{records_of}
use Rattle.zone_model.specs.Edits.{Refusal, OutOfZone, Incompatible, InvalidData, with_sets, put_set, remove_set, has_data, second_alias, add, delete, add_all, delete_all, and_then}
use Rattle.zone_model.specs.Spells.{add_new, add_all_new}
use Rattle.dns_name.specs.SameData.{same_data_equiv}
use Rattle.zone_model.proofs.Folded.{IsFolded, key_total, fold-fold, under_alike, same_name_alike}
use Rattle.zone_model.proofs.Ordered.{lookup-insert_entry, lookup-remove_entry, sorted-insert_entry, sorted-remove_entry, passes-insert_entry, passes-remove_entry, find_alike}

-- entries in order under folded owners
pub record Good (es : Sets) : Type 0 where
  pub sorted : IsStrictlySortedBy key_cmp (keys_of es)
  pub folded : AllByRecursion IsFolded (keys_of es)

abbrev pub items_of : Option RecordSet → List (List Field)
items_of o = option_map_or (λ (s : RecordSet). s.items) o []

abbrev pub set_of : ℕ → List (List Field) → RecordSet
set_of ttl items = record { ttl = ttl; items = items }

-- a set, unless it is empty
abbrev pub unless_empty : RecordSet → Option RecordSet
unless_empty s = if length s.items == 0 then None else Some s

abbrev pub put : Sets → Key → RecordSet → Sets
put es k s = if length s.items == 0 then remove_entry (has_key k) es else insert_entry key_cmp es k s

pub found-insert : (es : Sets) (k : Key) (s : RecordSet) (q : Key) → set_in (insert_entry key_cmp es k s) q ≡ cond (is_eq (key_cmp q k)) (Some s) (set_in es q)
found-insert es k s q = lookup-insert_entry key_total es k s q

pub good-insert : (es : Sets) (k : Key) (s : RecordSet) → IsFolded k → Good es → Good (insert_entry key_cmp es k s)
good-insert es k s f g = record { sorted = sorted-insert_entry key_total es k s g.sorted; folded = passes-insert_entry key_total IsFolded es k s f g.folded }

pub found-put : (es : Sets) (k : Key) (s : RecordSet) (q : Key) → Good es → set_in (put es k s) q ≡ cond (is_eq (key_cmp q k)) (unless_empty s) (set_in es q)
found-put es k s q g =
    elim (length s.items == 0) as (λ b. set_in (if b then remove_entry (has_key k) es else insert_entry key_cmp es k s) q ≡ cond (is_eq (key_cmp q k)) (if b then None else Some s) (set_in es q)) [
      | true ↦ lookup-remove_entry key_total es k q g.sorted
      | false ↦ found-insert es k s q
    ]

pub good-put : (es : Sets) (k : Key) (s : RecordSet) → IsFolded k → Good es → Good (put es k s)
good-put es k s f g =
    elim (length s.items == 0) as (λ b. Good (if b then remove_entry (has_key k) es else insert_entry key_cmp es k s)) [
      | true ↦ record { sorted = sorted-remove_entry key_total (has_key k) es g.sorted; folded = passes-remove_entry key_total IsFolded (has_key k) es g.folded }
      | false ↦ good-insert es k s f g
    ]

pub put_set-is : (st : Version) (es : Sets) (o : Name) (ty : ℕ) (s : RecordSet) → put_set (with_sets st es) o ty s ≡ with_sets st (put es (fold o, ty) s)
put_set-is st es o ty s =
    elim (length s.items == 0) as (λ b. ◌≡◌ {A = Version} (if b then remove_set (with_sets st es) o ty else with_sets st (insert_entry key_cmp es (fold o, ty) s)) (with_sets st (if b then remove_entry (has_key (fold o, ty)) es else insert_entry key_cmp es (fold o, ty) s))) [
      | true ↦ refl
      | false ↦ refl
    ]

-- a run of edits that leaves these sets
pub record Does (run : Version → List Record → Result Version Refusal) (st : Version) (es : Sets) (rs : List Record) (here : Key → Option RecordSet) : Type 0 where
  pub sets : Sets
  pub good : Good sets
  pub done : run (with_sets st es) rs ≡ Ok (with_sets st sets)
  pub found : (q : Key) → set_in sets q ≡ here q

pub same_either : {A : Type 0} (b : Bool) (x : A) → x ≡ cond b x x
same_either true x = refl
same_either false x = refl

pub more_than_none : (xs : List (List Field)) (d : List Field) → (length (xs ++ d ∷ []) == 0) ≡ false
more_than_none [] d = refl
more_than_none (x ∷ xs) d = ne_eqb _ 0 (λ e. absurd (omega arith))

pub below_alike : (v : Version) (m n : Name) → fold m ≡ fold n → below_apex v m ≡ below_apex v n
below_alike v m n e i = under_alike m n v.apex v.apex e refl i && not (same_name_alike m n v.apex v.apex e refl i)

-- ---- one record

abbrev with_added : Version → Sets → Record → Version
with_added st es r = with_sets st (insert_entry key_cmp es (fold r.owner, r.rtype) (set_of r.ttl (items_of (set_in es (fold r.owner, r.rtype)) ++ r.fields ∷ [])))

add_one : (st : Version) (es : Sets) (r : Record) → under r.owner st.apex ≡ true → list_any (same_data r.fields) (items_of (set_in es (fold r.owner, r.rtype))) ≡ false → second_alias (with_sets st es) r ≡ false
    → add (with_sets st es) r ≡ Ok (with_added st es r)
add_one st es r zone fresh alias =
    let v : Version = with_sets st es in
    let s : RecordSet = set_of r.ttl (items_of (set_in es (fold r.owner, r.rtype)) ++ r.fields ∷ []) in
    let last : Result Version Refusal = Ok (put_set v r.owner r.rtype s) in
    ap (λ b. if not b then Err OutOfZone else if has_data v r then Err Incompatible else if second_alias v r then Err InvalidData else last) zone
    ∙ ap (λ b. if b then Err Incompatible else if second_alias v r then Err InvalidData else last) fresh
    ∙ ap (λ b. if b then Err InvalidData else last) alias
    ∙ ap (λ b. Ok (if b then remove_set v r.owner r.rtype else with_added st es r)) (more_than_none (items_of (set_in es (fold r.owner, r.rtype))) r.fields)

add_new_one : (v : Version) (r : Record) → has_data v r ≡ false → add_new v r ≡ add v r
add_new_one v r fresh = by (under r.owner v.apex)
  where
    by : (b : Bool) → (if b && has_data v r then Ok v else add v r) ≡ add v r
    by true = ap (λ b. if b then Ok v else add v r) fresh
    by false = refl

delete_one : (st : Version) (es : Sets) (r : Record) → under r.owner st.apex ≡ true → list_any (same_data r.fields) (items_of (set_in es (fold r.owner, r.rtype))) ≡ true
    → delete (with_sets st es) r ≡ Ok (with_sets st (put es (fold r.owner, r.rtype) (set_of r.ttl (filter (λ d. not (same_data r.fields d)) (items_of (set_in es (fold r.owner, r.rtype)))))))
delete_one st es r zone stands =
    let v : Version = with_sets st es in
    let s : RecordSet = set_of r.ttl (filter (λ d. not (same_data r.fields d)) (items_of (set_in es (fold r.owner, r.rtype)))) in
    let last : Result Version Refusal = Ok (put_set v r.owner r.rtype s) in
    ap (λ b. if not b then Err OutOfZone else if not (has_data v r) then Err Incompatible else last) zone
    ∙ ap (λ b. if not b then Err Incompatible else last) stands
    ∙ ap Ok (put_set-is st es r.owner r.rtype s)

-- ---- the records of a set, added

-- what adding data leaves
abbrev pub more : ℕ → Option RecordSet → List (List Field) → Option RecordSet
more t old [] = old
more t old (d ∷ ds) = Some (set_of t (items_of old ++ d ∷ ds))

-- a second CNAME isn't added
abbrev pub AliasOk : Bool → Option RecordSet → List (List Field) → Type 0
AliasOk b old [] = Unit {0}
AliasOk b old (d ∷ ds) = b ≡ true → (old ≡ None) × (ds ≡ [])

pub record CanAdd (old : Option RecordSet) (b : Bool) (ds : List (List Field)) : Type 0 where
  pub fresh : list_all (λ d. not (list_any (same_data d) (items_of old))) ds ≡ true
  pub differ : all_differ ds ≡ true
  pub alias : AliasOk b old ds

alias_none : (a b s : Bool) → ((a && b) ≡ true → s ≡ false) → (a && b && s) ≡ false
alias_none true true s h = h refl
alias_none true false s h = refl
alias_none false b s h = refl

no_second : (st : Version) (es : Sets) (o : Name) (ty cl t : ℕ) (d : List Field) → ((below_apex st o && (ty == type_cname)) ≡ true → set_in es (fold o, ty) ≡ None)
    → second_alias (with_sets st es) (record { owner = o; rtype = ty; class = cl; ttl = t; fields = d }) ≡ false
no_second st es o ty cl t d h =
    alias_none (below_apex st o) (ty == type_cname) (is_some (set_in es (fold o, type_cname)))
    (λ e. ap (λ (x : ℕ). is_some (set_in es (fold o, x))) (sym (eqb-true ty type_cname (second_so (below_apex st o) (ty == type_cname) e))) ∙ ap is_some (h e))

pub not_true : (b : Bool) → not b ≡ true → b ≡ false
not_true true h = cc
not_true false h = refl

not_false : (b : Bool) → b ≡ false → not b ≡ true
not_false b h = ap not h

pub any-append : (p : List Field → Bool) (xs ys : List (List Field)) → list_any p (xs ++ ys) ≡ (list_any p xs || list_any p ys)
any-append p [] ys = refl
any-append p (x ∷ xs) ys = ap (λ b. p x || b) (any-append p xs ys) ∙ by (p x)
  where
    by : (b : Bool) → (b || (list_any p xs || list_any p ys)) ≡ ((b || list_any p xs) || list_any p ys)
    by true = refl
    by false = refl

or_false : (a b : Bool) → (a || b) ≡ false → (a ≡ false) × (b ≡ false)
or_false true b h = absurd (true≢false h)
or_false false b h = (refl, h)

-- data that differ from what stands, and from one more, differ from both
still_fresh : (old : List (List Field)) (d : List Field) (ds : List (List Field)) → list_all (λ x. not (list_any (same_data x) old)) ds ≡ true → list_any (same_data d) ds ≡ false
    → list_all (λ x. not (list_any (same_data x) (old ++ d ∷ []))) ds ≡ true
still_fresh old d [] h n = refl
still_fresh old d (x ∷ ds) h n =
    let p = or_false (same_data d x) (list_any (same_data d) ds) n in
    let f = not_true (list_any (same_data x) old) (first_so (not (list_any (same_data x) old)) _ h) in
    both_true (ap not (any-append (same_data x) old (d ∷ []) ∙ ap (λ b. b || (same_data x d || false)) f ∙ ap (λ b. b || false) (same_data_equiv.symm x d ∙ p.0)))
    (still_fresh old d ds (second_so (not (list_any (same_data x) old)) _ h) p.1)

more_more : (t : ℕ) (old : List (List Field)) (d : List Field) (ds : List (List Field)) → more t (Some (set_of t (old ++ d ∷ []))) ds ≡ Some (set_of t (old ++ d ∷ ds))
more_more t old d [] = refl
more_more t old d (x ∷ ds) = ap (λ l. Some (set_of t l)) (append_assoc old (d ∷ []) (x ∷ ds))

-- adding on top of one more
added_found : (es es1 : Sets) (k q : Key) (t : ℕ) (d : List Field) (ds : List (List Field)) → set_in es1 q ≡ cond (is_eq (key_cmp q k)) (Some (set_of t (items_of (set_in es k) ++ d ∷ []))) (set_in es q)
    → cond (is_eq (key_cmp q k)) (more t (set_in es1 q) ds) (set_in es1 q) ≡ cond (is_eq (key_cmp q k)) (more t (set_in es q) (d ∷ ds)) (set_in es q)
added_found es es1 k q t d ds e = by (is_eq (key_cmp q k)) refl e
  where
    by : (b : Bool) → is_eq (key_cmp q k) ≡ b → set_in es1 q ≡ cond b (Some (set_of t (items_of (set_in es k) ++ d ∷ []))) (set_in es q) → cond b (more t (set_in es1 q) ds) (set_in es1 q) ≡ cond b (more t (set_in es q) (d ∷ ds)) (set_in es q)
    by true p f = ap (λ z. more t z ds) f ∙ more_more t (items_of (set_in es k)) d ds ∙ ap (λ z. Some (set_of t (items_of z ++ d ∷ ds))) (sym (find_alike key_total es q k ((Equal-is (key_cmp q k)).0 p)))
    by false p f = f

found_itself : (es : Sets) (k : Key) (s : RecordSet) → set_in (insert_entry key_cmp es k s) k ≡ Some s
found_itself es k s = found-insert es k s k ∙ ap (λ b. cond b (Some s) (set_in es k)) (ap is_eq (tied_itself key_total k))

-- one kind of adding: as a batch does, or as a whole text does
pub record Adding (run : Version → List Record → Result Version Refusal) : Type 0 where
  pub none : (v : Version) → run v [] ≡ Ok v
  pub next : (v w : Version) (r : Record) (rs : List Record) → has_data v r ≡ false → add v r ≡ Ok w → run v (r ∷ rs) ≡ run w rs

pub adding_all : Adding add_all
adding_all = record { none = λ v. refl; next = λ v w r rs n e. ap (λ o. and_then o (λ x. add_all x rs)) e }

pub adding_new : Adding add_all_new
adding_new = record { none = λ v. refl; next = λ v w r rs n e. ap (λ o. and_then o (λ x. add_all_new x rs)) (add_new_one v r n ∙ e) }

pub entry_adds : {run : Version → List Record → Result Version Refusal} → Adding run → (st : Version) (o : Name) (ty t cl : ℕ) (ds : List (List Field)) (es : Sets) → Good es → under o st.apex ≡ true
    → CanAdd (set_in es (fold o, ty)) (below_apex st o && (ty == type_cname)) ds
    → Does run st es (records_of o ty cl (set_of t ds)) (λ q. cond (is_eq (key_cmp q (fold o, ty))) (more t (set_in es q) ds) (set_in es q))
entry_adds {run} a st o ty t cl [] es g zone can = record { sets = es; good = g; done = a.none (with_sets st es); found = λ q. same_either (is_eq (key_cmp q (fold o, ty))) (set_in es q) }
entry_adds {run} a st o ty t cl (d ∷ ds) es g zone can =
    let k : Key = (fold o, ty) in
    let r : Record = record { owner = o; rtype = ty; class = cl; ttl = t; fields = d } in
    let old : List (List Field) = items_of (set_in es k) in
    let s : RecordSet = set_of t (old ++ d ∷ []) in
    let es1 : Sets = insert_entry key_cmp es k s in
    let b : Bool = below_apex st o && (ty == type_cname) in
    let fresh : list_any (same_data d) old ≡ false = not_true (list_any (same_data d) old) (first_so _ _ can.fresh) in
    let apart : list_any (same_data d) ds ≡ false = not_true (list_any (same_data d) ds) (first_so _ (all_differ ds) can.differ) in
    let no : second_alias (with_sets st es) r ≡ false = no_second st es o ty cl t d (λ e. (can.alias e).0) in
    let one : add (with_sets st es) r ≡ Ok (with_sets st es1) = add_one st es r zone fresh no in
    let now : set_in es1 k ≡ Some s = found_itself es k s in
    let later : list_all (λ x. not (list_any (same_data x) (old ++ d ∷ []))) ds ≡ true = still_fresh old d ds (second_so (not (list_any (same_data d) old)) _ can.fresh) apart in
    let next = entry_adds a st o ty t cl ds es1 (good-insert es k s (fold-fold o) g) zone (record {
      fresh = subst (λ z. list_all (λ x. not (list_any (same_data x) (items_of z))) ds ≡ true) (sym now) later;
      differ = second_so (not (list_any (same_data d) ds)) (all_differ ds) can.differ;
      alias = last ds b (λ e. (can.alias e).1) (set_in es1 k);
    }) in
    record {
      sets = next.sets;
      good = next.good;
      done = a.next (with_sets st es) (with_sets st es1) r (records_of o ty cl (set_of t ds)) fresh one ∙ next.done;
      found = λ q. next.found q ∙ added_found es es1 k q t d ds (found-insert es k s q);
    }
  where
    last : (ds : List (List Field)) (b : Bool) → (b ≡ true → ds ≡ []) → (old : Option RecordSet) → AliasOk b old ds
    last [] b h old = tt
    last (x ∷ ds) b h old = λ e. absurd (true≢false (ap (list_any (λ y. true)) (h e)))

-- ---- the records of a set, deleted

-- some data without those equal to others
abbrev pub minus : List (List Field) → List (List Field) → List (List Field)
minus xs [] = xs
minus xs (d ∷ ds) = minus (filter (λ x. not (same_data d x)) xs) ds

-- what deleting data leaves
abbrev pub cut : ℕ → Option RecordSet → List (List Field) → Option RecordSet
cut t old [] = old
cut t old (d ∷ ds) = unless_empty (set_of t (minus (items_of old) (d ∷ ds)))

pub record CanDelete (old : Option RecordSet) (b : Bool) (ds : List (List Field)) : Type 0 where
  pub stand : list_all (λ d. list_any (same_data d) (items_of old)) ds ≡ true
  pub differ : all_differ ds ≡ true

pub items-unless_empty : (t : ℕ) (xs : List (List Field)) → items_of (unless_empty (set_of t xs)) ≡ xs
items-unless_empty t [] = refl
items-unless_empty t (x ∷ xs) = ap (λ b. items_of (if b then None else Some (set_of t (x ∷ xs)))) (ne_eqb (length (x ∷ xs)) 0 (λ e. absurd (omega arith)))

-- data stand after others are gone
still_stands : (xs : List (List Field)) (d x : List Field) → list_any (same_data x) xs ≡ true → same_data d x ≡ false → list_any (same_data x) (filter (λ y. not (same_data d y)) xs) ≡ true
still_stands [] d x h n = absurd (true≢false (sym h))
still_stands (y ∷ xs) d x h n = by (same_data d y) (same_data x y) refl refl h (λ k. still_stands xs d x k n)
  where
    by : (a b : Bool) → same_data d y ≡ a → same_data x y ≡ b → (b || list_any (same_data x) xs) ≡ true → (list_any (same_data x) xs ≡ true → list_any (same_data x) (filter (λ z. not (same_data d z)) xs) ≡ true)
        → list_any (same_data x) (cond (not a) (y ∷ filter (λ z. not (same_data d z)) xs) (filter (λ z. not (same_data d z)) xs)) ≡ true
    by true true p q k more = absurd (true≢false (sym (same_data_equiv.symm d x ∙ same_data_equiv.congr x y d q ∙ same_data_equiv.symm y d ∙ p) ∙ n))
    by true false p q k more = more k
    by false true p q k more = ap (λ c. c || list_any (same_data x) (filter (λ z. not (same_data d z)) xs)) q
    by false false p q k more = ap (λ c. c || list_any (same_data x) (filter (λ z. not (same_data d z)) xs)) q ∙ more k

still_stand : (old : List (List Field)) (d : List Field) (ds : List (List Field)) → list_all (λ x. list_any (same_data x) old) ds ≡ true → list_any (same_data d) ds ≡ false
    → list_all (λ x. list_any (same_data x) (filter (λ y. not (same_data d y)) old)) ds ≡ true
still_stand old d [] h n = refl
still_stand old d (x ∷ ds) h n =
    let p = or_false (same_data d x) (list_any (same_data d) ds) n in
    both_true (still_stands old d x (first_so (list_any (same_data x) old) _ h) p.0) (still_stand old d ds (second_so (list_any (same_data x) old) _ h) p.1)

cut_cut : (t : ℕ) (xs : List (List Field)) (ds : List (List Field)) → cut t (unless_empty (set_of t xs)) ds ≡ unless_empty (set_of t (minus xs ds))
cut_cut t xs [] = refl
cut_cut t xs (d ∷ ds) = ap (λ l. unless_empty (set_of t (minus l (d ∷ ds)))) (items-unless_empty t xs)

cut_found : (es es1 : Sets) (k q : Key) (t : ℕ) (d : List Field) (ds : List (List Field)) → set_in es1 q ≡ cond (is_eq (key_cmp q k)) (unless_empty (set_of t (filter (λ y. not (same_data d y)) (items_of (set_in es k))))) (set_in es q)
    → cond (is_eq (key_cmp q k)) (cut t (set_in es1 q) ds) (set_in es1 q) ≡ cond (is_eq (key_cmp q k)) (cut t (set_in es q) (d ∷ ds)) (set_in es q)
cut_found es es1 k q t d ds e = by (is_eq (key_cmp q k)) refl e
  where
    left : List (List Field) → List (List Field)
    left l = filter (λ y. not (same_data d y)) l

    by : (b : Bool) → is_eq (key_cmp q k) ≡ b → set_in es1 q ≡ cond b (unless_empty (set_of t (filter (λ y. not (same_data d y)) (items_of (set_in es k))))) (set_in es q) → cond b (cut t (set_in es1 q) ds) (set_in es1 q) ≡ cond b (cut t (set_in es q) (d ∷ ds)) (set_in es q)
    by true p f = ap (λ z. cut t z ds) f ∙ cut_cut t (filter (λ y. not (same_data d y)) (items_of (set_in es k))) ds
        ∙ ap (λ z. unless_empty (set_of t (minus (items_of z) (d ∷ ds)))) (sym (find_alike key_total es q k ((Equal-is (key_cmp q k)).0 p)))
    by false p f = f

pub entry_deletes : (st : Version) (o : Name) (ty t cl : ℕ) (ds : List (List Field)) (es : Sets) → Good es → under o st.apex ≡ true
    → CanDelete (set_in es (fold o, ty)) (below_apex st o && (ty == type_cname)) ds
    → Does delete_all st es (records_of o ty cl (set_of t ds)) (λ q. cond (is_eq (key_cmp q (fold o, ty))) (cut t (set_in es q) ds) (set_in es q))
entry_deletes st o ty t cl [] es g zone can = record { sets = es; good = g; done = refl; found = λ q. same_either (is_eq (key_cmp q (fold o, ty))) (set_in es q) }
entry_deletes st o ty t cl (d ∷ ds) es g zone can =
    let k : Key = (fold o, ty) in
    let r : Record = record { owner = o; rtype = ty; class = cl; ttl = t; fields = d } in
    let old : List (List Field) = items_of (set_in es k) in
    let left : List (List Field) = filter (λ y. not (same_data d y)) old in
    let es1 : Sets = put es k (set_of t left) in
    let apart : list_any (same_data d) ds ≡ false = not_true (list_any (same_data d) ds) (first_so _ (all_differ ds) can.differ) in
    let one : delete (with_sets st es) r ≡ Ok (with_sets st es1) = delete_one st es r zone (first_so _ _ can.stand) in
    let now : items_of (set_in es1 k) ≡ left = ap items_of (found-put es k (set_of t left) k g ∙ ap (λ b. cond b (unless_empty (set_of t left)) (set_in es k)) (ap is_eq (tied_itself key_total k))) ∙ items-unless_empty t left in
    let later : list_all (λ x. list_any (same_data x) left) ds ≡ true = still_stand old d ds (second_so (list_any (same_data d) old) _ can.stand) apart in
    let next = entry_deletes st o ty t cl ds es1 (good-put es k (set_of t left) (fold-fold o) g) zone (record {
      stand = subst (λ z. list_all (λ x. list_any (same_data x) z) ds ≡ true) (sym now) later;
      differ = second_so (not (list_any (same_data d) ds)) (all_differ ds) can.differ;
    }) in
    record {
      sets = next.sets;
      good = next.good;
      done = ap (λ x. and_then x (λ w. delete_all w (records_of o ty cl (set_of t ds)))) one ∙ next.done;
      found = λ q. next.found q ∙ cut_found es es1 k q t d ds (found-put es k (set_of t left) q g);
    }
