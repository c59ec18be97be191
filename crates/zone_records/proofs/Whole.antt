-- What is held of a zone file makes a zone exactly where the file's records do.
use Rattle.std.proofs.Common.{◌≡◌, ℕ, suc, ◌==◌, Bool, true, false, cond, ◌&&◌, ◌||◌, not, if◌then◌else◌, List, [], ◌∷◌, ◌++◌, length, filter, fold as fold_list, refl, sym, ap, ◌∙◌, true≢false, Ordering, Less, Equal, Greater, Option, Some, None, is_some, Ok, eqb-true, arith}
use Rattle.std.specs.Prelude.{is_none, filter_map, option_map}
use Rattle.std.specs.List.{list_any, list_all, cons_option}
use Rattle.std.specs.Ordering.{match_ordering}
use Rattle.std.specs.BTreeMap.{insert_entry}
use Rattle.std.specs.Map.{keys_of}
use Rattle.dns_name.specs.Names.{Name, fold, same_name, under}
use Rattle.dns_name.specs.Records.{Record}
use Rattle.dns_numbers.specs.Codes.{type_ns, type_cname, type_ds}
use Rattle.zone_model.specs.Version.{RecordSet, Key, Sets, Version, key_cmp, set_in, set_at, below_apex, is_cut}
use Rattle.zone_model.specs.Classify.{ZoneFile, Kind, Normal, Cut, Alias, Outside, RecordVerdict, Accepted, Rejected, kind_of, same_kind, classify, opened_with, opened}
use Rattle.zone_model.proofs.Folded.{key_from_tie, fold-fold, under_alike, same_name_alike, same_name-Decides}
use Rattle.zone_values.specs.declared.record_errors.ContextError.{ContextError}
use Rattle.zone_values.specs.declared.record_errors.ContextError.TheVariants.{MissingNs, InvalidZonecut, InvalidCname, OutOfZone}
use Rattle.zone_values.specs.declared.errors.ZoneCutError.TheVariants as no_cut
use Rattle.zone_values.specs.declared.errors.CnameError.TheVariants as no_alias
use Rattle.zone_records.specs.Parsed.{Parsed, sets_for, sets_of, kept, version_of}
use Rattle.zone_records.specs.Taking.{verdict_in, taken_in, taken_by, taken_as, take}
use Rattle.zone_records.specs.Faults.{fault_at, faults_at, faults_of, is_whole, makes_zone}
use Rattle.zone_records.proofs.TypesIn.{has_type}
use Rattle.zone_records.proofs.Putting.{key_of, set_with, put_record, sets_after, step_at, is_of, types_after, opens_by_putting}
use Rattle.zone_records.proofs.Joined.{of_kind, of_opened, joined_is_opened}
use Rattle.zone_records.proofs.KeptFiles.{verdict_kept, take_kept}

-- ---- no fault

suc_not : (n : ℕ) → (suc n == 0) ≡ false
suc_not n = by (suc n == 0) refl
  where
    by : (b : Bool) → (suc n == 0) ≡ b → b ≡ false
    by true h = let e : suc n ≡ 0 = eqb-true (suc n) 0 h in absurd (omega arith)
    by false h = refl

none_in_both : {X : Type 0} (xs ys : List X) → (length (xs ++ ys) == 0) ≡ ((length xs == 0) && (length ys == 0))
none_in_both [] ys = refl
none_in_both (x ∷ xs) ys = suc_not (length (xs ++ ys)) ∙ ap (λ b. b && (length ys == 0)) (sym (suc_not (length xs)))

none_told : (g : Key → Option (Name × ContextError)) (ks : List Key) → (length (filter_map g ks) == 0) ≡ list_all (λ k. is_none (g k)) ks
none_told g [] = refl
none_told g (k ∷ ks) = by (g k) (none_told g ks)
  where
    by : (o : Option (Name × ContextError)) → (length (filter_map g ks) == 0) ≡ list_all (λ l. is_none (g l)) ks → (length (cons_option o (filter_map g ks)) == 0) ≡ (is_none o && list_all (λ l. is_none (g l)) ks)
    by None e = e
    by (Some x) e = suc_not (length (filter_map g ks))

all_alike : {X : Type 0} (p q : X → Bool) (xs : List X) → ((x : X) → p x ≡ q x) → list_all p xs ≡ list_all q xs
all_alike p q [] h = refl
all_alike p q (x ∷ xs) h = λ i. h x i && all_alike p q xs h i

abbrev pub passes : Parsed → Kind → Key → Bool
passes p kind k = is_none (fault_at p kind k)

none_of : (p : Parsed) (kind : Kind) (ks : List Key) → (length (faults_at p kind ks) == 0) ≡ list_all (passes p kind) ks
none_of p kind ks = none_told (λ (k : Key). option_map (λ (why : ContextError). (k.0, why)) (fault_at p kind k)) ks ∙ all_alike _ _ ks (λ k. by k (fault_at p kind k))
  where
    by : (k : Key) (o : Option ContextError) → is_none {T = Name × ContextError} (option_map (λ (why : ContextError). (k.0, why)) o) ≡ is_none o
    by k None = refl
    by k (Some why) = refl

-- no fault of any kind
pub whole_in_parts : (p : Parsed) → is_whole p
    ≡ (((list_all (passes p Cut) (keys_of (sets_for p Cut)) && list_all (passes p Alias) (keys_of (sets_for p Alias))) && list_all (passes p Normal) (keys_of (sets_for p Normal))) && list_all (passes p Outside) (keys_of (sets_for p Outside)))
whole_in_parts p =
    none_in_both (faults_of p Cut ++ faults_of p Alias ++ faults_of p Normal) (faults_of p Outside)
    ∙ ap (λ b. b && (length (faults_of p Outside) == 0)) (none_in_both (faults_of p Cut ++ faults_of p Alias) (faults_of p Normal))
    ∙ ap (λ b. (b && (length (faults_of p Normal) == 0)) && (length (faults_of p Outside) == 0)) (none_in_both (faults_of p Cut) (faults_of p Alias))
    ∙ (λ i. ((at Cut i && at Alias i) && at Normal i) && at Outside i)
  where
    at : (kind : Kind) → (length (faults_of p kind) == 0) ≡ list_all (passes p kind) (keys_of (sets_for p kind))
    at kind = none_of p kind (keys_of (sets_for p kind))

-- ---- the keys of sets to which records are put

and_again : (a b : Bool) → (a && b) ≡ (a && (a && b))
and_again true b = refl
and_again false b = refl

and_swap : (a b c : Bool) → (a && (b && c)) ≡ (b && (a && c))
and_swap true b c = refl
and_swap false true c = refl
and_swap false false c = refl

module _ (q : Key → Bool) (respects : (k l : Key) → key_cmp k l ≡ Equal → q k ≡ q l) where
  all_insert : (sets : Sets) (k : Key) (s : RecordSet) → list_all q (keys_of (insert_entry key_cmp sets k s)) ≡ (q k && list_all q (keys_of sets))
  all_insert [] k s = refl
  all_insert (e ∷ es) k s = by (key_cmp k e.0) refl (all_insert es k s)
    where
      by : (o : Ordering) → key_cmp k e.0 ≡ o → list_all q (keys_of (insert_entry key_cmp es k s)) ≡ (q k && list_all q (keys_of es))
          → list_all q (keys_of (match_ordering o ((k, s) ∷ e ∷ es) ((e.0, s) ∷ es) (e ∷ insert_entry key_cmp es k s))) ≡ (q k && (q e.0 && list_all q (keys_of es)))
      by Less h later = refl
      by Equal h later = and_again (q e.0) (list_all q (keys_of es)) ∙ ap (λ b. b && (q e.0 && list_all q (keys_of es))) (sym (respects k e.0 h))
      by Greater h later = ap (λ b. q e.0 && b) later ∙ and_swap (q e.0) (q k) (list_all q (keys_of es))

  all_put : (rs : List Record) (sets : Sets) → list_all q (keys_of (fold_list put_record sets rs)) ≡ (list_all (λ r. q (key_of r)) rs && list_all q (keys_of sets))
  all_put [] sets = refl
  all_put (r ∷ rs) sets =
      all_put rs (put_record sets r) ∙ ap (λ b. list_all (λ s. q (key_of s)) rs && b) (all_insert sets (key_of r) (set_with r (set_in sets (key_of r))))
      ∙ and_swap (list_all (λ s. q (key_of s)) rs) (q (key_of r)) (list_all q (keys_of sets)) ∙ by (q (key_of r)) (list_all (λ s. q (key_of s)) rs) (list_all q (keys_of sets))
    where
      by : (a b c : Bool) → (a && (b && c)) ≡ ((a && b) && c)
      by true b c = refl
      by false b c = refl

  all_kept : (f : ZoneFile) (kind : Kind) → list_all q (keys_of (sets_of f kind)) ≡ list_all (λ r. q (key_of r)) (filter (λ r. same_kind (kind_of f r) kind) f.accepted)
  all_kept f kind =
      let rs = filter (λ r. same_kind (kind_of f r) kind) f.accepted in
      ap (λ (sets : Sets). list_all q (keys_of sets)) (sets_after rs (record { apex = f.apex; class = f.class; sets = [] })) ∙ all_put rs [] ∙ by (list_all (λ r. q (key_of r)) rs)
    where
      by : (b : Bool) → (b && true) ≡ b
      by true = refl
      by false = refl

-- a fault is told of equal keys alike
pub passes_alike : (p : Parsed) (kind : Kind) (k l : Key) → key_cmp k l ≡ Equal → passes p kind k ≡ passes p kind l
passes_alike p kind k l h = by kind (key_from_tie k l h)
  where
    by : (kind : Kind) → (fold k.0 ≡ fold l.0) × (k.1 ≡ l.1) → passes p kind k ≡ passes p kind l
    by Cut t = λ i. is_none (if not (is_some (set_in p.cuts (t.0 i, type_ns))) then Some MissingNs
        else if t.1 i == type_ds then None
        else if not (under_alike k.0 l.0 p.origin p.origin t.0 refl i) then Some (InvalidZonecut no_cut.OutOfZone)
        else if same_name_alike k.0 l.0 p.origin p.origin t.0 refl i then Some (InvalidZonecut no_cut.ZoneCutAtApex)
        else None)
    by Alias t = λ i. is_none (if not (under_alike k.0 l.0 p.origin p.origin t.0 refl i) then Some (InvalidCname no_alias.OutOfZone)
        else if same_name_alike k.0 l.0 p.origin p.origin t.0 refl i then Some (InvalidCname no_alias.CnameAtApex)
        else None)
    by Normal t = λ i. is_none (if not (under_alike k.0 l.0 p.origin p.origin t.0 refl i) then Some (OutOfZone (t.1 i)) else None)
    by Outside t = λ i. is_none (Some (OutOfZone (t.1 i)))

-- ---- record by record

abbrev record_passes : Parsed → Kind → Record → Bool
record_passes p kind r = passes p kind (key_of r)

module _ (f : ZoneFile) where
  abbrev of : Kind → List Record → List Record
  of kind rs = filter (λ r. same_kind (kind_of f r) kind) rs

  abbrev all_of : Kind → List Record → Bool
  all_of kind rs = list_all (record_passes (kept f) kind) (of kind rs)

  -- each record is of one kind
  by_kind : (rs : List Record) → (all_of Cut rs && (all_of Alias rs && (all_of Normal rs && all_of Outside rs))) ≡ list_all (λ r. record_passes (kept f) (kind_of f r) r) rs
  by_kind [] = refl
  by_kind (r ∷ rs) = by (kind_of f r) ∙ ap (λ b. record_passes (kept f) (kind_of f r) r && b) (by_kind rs)
    where
      head : Kind → Kind → Bool
      head k kind = list_all (record_passes (kept f) kind) (cond (same_kind k kind) (r ∷ of kind rs) (of kind rs))

      first : (x a b : Bool) → ((x && a) && b) ≡ (x && (a && b))
      first true a b = refl
      first false a b = refl

      second : (x a b c : Bool) → (a && ((x && b) && c)) ≡ (x && (a && (b && c)))
      second true a b c = refl
      second false true b c = refl
      second false false b c = refl

      third : (x a b c d : Bool) → (a && (b && ((x && c) && d))) ≡ (x && (a && (b && (c && d))))
      third true a b c d = refl
      third false true true c d = refl
      third false true false c d = refl
      third false false b c d = refl

      fourth : (x a b c d : Bool) → (a && (b && (c && (x && d)))) ≡ (x && (a && (b && (c && d))))
      fourth true a b c d = refl
      fourth false true true true d = refl
      fourth false true true false d = refl
      fourth false true false c d = refl
      fourth false false b c d = refl

      by : (k : Kind) → (head k Cut && (head k Alias && (head k Normal && head k Outside))) ≡ (record_passes (kept f) k r && (all_of Cut rs && (all_of Alias rs && (all_of Normal rs && all_of Outside rs))))
      by Cut = first (record_passes (kept f) Cut r) (all_of Cut rs) (all_of Alias rs && (all_of Normal rs && all_of Outside rs))
      by Alias = second (record_passes (kept f) Alias r) (all_of Cut rs) (all_of Alias rs) (all_of Normal rs && all_of Outside rs)
      by Normal = third (record_passes (kept f) Normal r) (all_of Cut rs) (all_of Alias rs) (all_of Normal rs) (all_of Outside rs)
      by Outside = fourth (record_passes (kept f) Outside r) (all_of Cut rs) (all_of Alias rs) (all_of Normal rs) (all_of Outside rs)

  -- ---- one record of the file

  abbrev servers_at : Name → Bool
  servers_at owner = has_type (sets_of f Cut) owner type_ns

  any_kind : (g h : Record → Bool) (xs : List Record) → list_any g (filter h xs) ≡ list_any (λ x. h x && g x) xs
  any_kind g h [] = refl
  any_kind g h (x ∷ xs) = by (h x) (any_kind g h xs)
    where
      by : (b : Bool) → list_any g (filter h xs) ≡ list_any (λ y. h y && g y) xs → list_any g (cond b (x ∷ filter h xs) (filter h xs)) ≡ ((b && g x) || list_any (λ y. h y && g y) xs)
      by true e = ap (λ c. g x || c) e
      by false e = e

  any_mid : (g : Record → Bool) (pre : List Record) (r : Record) (rs : List Record) → g r ≡ true → list_any g (pre ++ r ∷ rs) ≡ true
  any_mid g [] r rs h = ap (λ b. b || list_any g rs) h
  any_mid g (x ∷ pre) r rs h = by (g x) (any_mid g pre r rs h)
    where
      by : (b : Bool) → list_any g (pre ++ r ∷ rs) ≡ true → (b || list_any g (pre ++ r ∷ rs)) ≡ true
      by true e = refl
      by false e = e

  and_both : (a b : Bool) → a ≡ true → b ≡ true → (a && b) ≡ true
  and_both a b p q = ap (λ x. x && b) p ∙ q

  -- NS records of a cut are found
  servers_found : (pre : List Record) (r : Record) (rs : List Record) → pre ++ r ∷ rs ≡ f.accepted → same_kind (kind_of f r) Cut ≡ true → is_of r.owner type_ns r ≡ true → servers_at r.owner ≡ true
  servers_found pre r rs e cut ns =
      let kind = λ (s : Record). same_kind (kind_of f s) Cut in
      let found = any_mid (λ s. kind s && is_of r.owner type_ns s) pre r rs (and_both (kind r) (is_of r.owner type_ns r) cut ns) in
      ap (λ (sets : Sets). has_type sets r.owner type_ns) (sets_after (filter kind f.accepted) (record { apex = f.apex; class = f.class; sets = [] }))
      ∙ types_after r.owner type_ns (filter kind f.accepted) [] ∙ any_kind (is_of r.owner type_ns) kind f.accepted
      ∙ ap (list_any (λ s. kind s && is_of r.owner type_ns s)) (sym e) ∙ found

  -- the version that the file opens with has the file's apex
  opened_apex : (opened f).apex ≡ f.apex
  opened_apex = by (filter (λ (r : Record). under r.owner f.apex) f.accepted) (record { apex = f.apex; class = f.class; sets = [] })
    where
      by : (rs : List Record) (v : Version) → (fold_list opened_with v rs).apex ≡ v.apex
      by [] v = refl
      by (r ∷ rs) v = by rs (opened_with v r) ∙ ap (λ (w : Version). w.apex) (opens_by_putting v r)

  opened_class : (opened f).class ≡ f.class
  opened_class = by (filter (λ (r : Record). under r.owner f.apex) f.accepted) (record { apex = f.apex; class = f.class; sets = [] })
    where
      by : (rs : List Record) (v : Version) → (fold_list opened_with v rs).class ≡ v.class
      by [] v = refl
      by (r ∷ rs) v = by rs (opened_with v r) ∙ ap (λ (w : Version). w.class) (opens_by_putting v r)

  -- below the apex, the NS records of the version are those of cuts
  servers_same : (owner : Name) → under owner f.apex ≡ true → same_name owner f.apex ≡ false → is_some (set_at (opened f) owner type_ns) ≡ servers_at owner
  servers_same owner u s =
      let zone : under (fold owner) f.apex ≡ true = under_alike (fold owner) owner f.apex f.apex (fold-fold owner) refl ∙ u in
      let apex : same_name (fold owner) f.apex ≡ false = same_name_alike (fold owner) owner f.apex f.apex (fold-fold owner) refl ∙ s in
      let whole = fold_list (step_at (fold owner, type_ns)) None f.accepted in
      ap is_some (of_opened f (fold owner, type_ns) ∙ ap (λ b. cond b whole None) zone)
      ∙ sym (ap is_some (of_kind f (fold owner, type_ns) Cut ∙ (λ i. cond (same_kind (if not (zone i) then Outside else if not (apex i) then Cut else if type_ns == type_cname then Alias else Normal) Cut) whole None)))

  -- what decides, by what is known of the owner and the type: whether it is in the zone, whether it is the apex, whether NS, DS or CNAME, and whether NS stands there among cuts
  abbrev kind_by : (u s n d c : Bool) → Kind
  kind_by u s n d c = if not u then Outside else if (n || d) && not s then Cut else if c then Alias else Normal

  abbrev fault_by : Kind → (u s d h : Bool) → ℕ → Option ContextError
  fault_by Cut u s d h t = if not h then Some MissingNs else if d then None else if not u then Some (InvalidZonecut no_cut.OutOfZone) else if s then Some (InvalidZonecut no_cut.ZoneCutAtApex) else None
  fault_by Alias u s d h t = if not u then Some (InvalidCname no_alias.OutOfZone) else if s then Some (InvalidCname no_alias.CnameAtApex) else None
  fault_by Normal u s d h t = if not u then Some (OutOfZone t) else None
  fault_by Outside u s d h t = Some (OutOfZone t)

  decide : (u s n d c h o : Bool) (t : ℕ) → (u ≡ true → s ≡ false → n ≡ true → h ≡ true) → (u ≡ true → s ≡ false → o ≡ h)
      → is_none (fault_by (kind_by u s n d c) u s d h t) ≡ (u && not (c && s) && (not (d && (u && not s)) || ((u && not s) && o)))
  decide false s n d c h o t p q = refl
  decide true true true d true h o t p q = refl
  decide true true false true true h o t p q = refl
  decide true true false false true h o t p q = refl
  decide true true true true false h o t p q = refl
  decide true true true false false h o t p q = refl
  decide true true false true false h o t p q = refl
  decide true true false false false h o t p q = refl
  decide true false true true true true true t p q = refl
  decide true false true true true true false t p q = absurd (true≢false (sym (q refl refl)))
  decide true false true true true false o t p q = absurd (true≢false (sym (p refl refl refl)))
  decide true false true true false true true t p q = refl
  decide true false true true false true false t p q = absurd (true≢false (sym (q refl refl)))
  decide true false true true false false o t p q = absurd (true≢false (sym (p refl refl refl)))
  decide true false true false true true o t p q = refl
  decide true false true false true false o t p q = absurd (true≢false (sym (p refl refl refl)))
  decide true false true false false true o t p q = refl
  decide true false true false false false o t p q = absurd (true≢false (sym (p refl refl refl)))
  decide true false false true true true true t p q = refl
  decide true false false true true true false t p q = absurd (true≢false (sym (q refl refl)))
  decide true false false true true false true t p q = absurd (true≢false (q refl refl))
  decide true false false true true false false t p q = refl
  decide true false false true false true true t p q = refl
  decide true false false true false true false t p q = absurd (true≢false (sym (q refl refl)))
  decide true false false true false false true t p q = absurd (true≢false (q refl refl))
  decide true false false true false false false t p q = refl
  decide true false false false true h o t p q = refl
  decide true false false false false h o t p q = refl

  -- a fault is told at a record's key by these
  fault_is : (r : Record) (kind : Kind) → fault_at (kept f) kind (key_of r) ≡ fault_by kind (under r.owner f.apex) (same_name r.owner f.apex) (r.rtype == type_ds) (servers_at r.owner) r.rtype
  fault_is r kind = by kind
    where
      zone : under (fold r.owner) f.apex ≡ under r.owner f.apex
      zone = under_alike (fold r.owner) r.owner f.apex f.apex (fold-fold r.owner) refl

      apex : same_name (fold r.owner) f.apex ≡ same_name r.owner f.apex
      apex = same_name_alike (fold r.owner) r.owner f.apex f.apex (fold-fold r.owner) refl

      by : (kind : Kind) → fault_at (kept f) kind (key_of r) ≡ fault_by kind (under r.owner f.apex) (same_name r.owner f.apex) (r.rtype == type_ds) (servers_at r.owner) r.rtype
      by Cut = λ i. if not (is_some (set_in (sets_of f Cut) (fold-fold r.owner i, type_ns))) then Some MissingNs
          else if r.rtype == type_ds then None
          else if not (zone i) then Some (InvalidZonecut no_cut.OutOfZone)
          else if apex i then Some (InvalidZonecut no_cut.ZoneCutAtApex)
          else None
      by Alias = λ i. if not (zone i) then Some (InvalidCname no_alias.OutOfZone) else if apex i then Some (InvalidCname no_alias.CnameAtApex) else None
      by Normal = λ i. if not (zone i) then Some (OutOfZone r.rtype) else None
      by Outside = refl

  abbrev fits : Record → Bool
  fits r = let v = opened f in under r.owner f.apex && not ((r.rtype == type_cname) && same_name r.owner f.apex) && (not ((r.rtype == type_ds) && below_apex v r.owner) || is_cut v r.owner)

  fits_is : (r : Record) → fits r ≡ (under r.owner f.apex && not ((r.rtype == type_cname) && same_name r.owner f.apex)
      && (not ((r.rtype == type_ds) && (under r.owner f.apex && not (same_name r.owner f.apex))) || ((under r.owner f.apex && not (same_name r.owner f.apex)) && is_some (set_at (opened f) r.owner type_ns))))
  fits_is r i = under r.owner f.apex && not ((r.rtype == type_cname) && same_name r.owner f.apex)
      && (not ((r.rtype == type_ds) && (under r.owner (opened_apex i) && not (same_name r.owner (opened_apex i)))) || ((under r.owner (opened_apex i) && not (same_name r.owner (opened_apex i))) && is_some (set_at (opened f) r.owner type_ns)))

  same_itself : (n : Name) → same_name n n ≡ true
  same_itself n = (same_name-Decides n n).1 refl

  record_fits : (pre : List Record) (r : Record) (rs : List Record) → pre ++ r ∷ rs ≡ f.accepted → record_passes (kept f) (kind_of f r) r ≡ fits r
  record_fits pre r rs e =
      ap is_none (fault_is r (kind_of f r))
      ∙ decide (under r.owner f.apex) (same_name r.owner f.apex) (r.rtype == type_ns) (r.rtype == type_ds) (r.rtype == type_cname) (servers_at r.owner) (is_some (set_at (opened f) r.owner type_ns)) r.rtype
      (λ u s n. servers_found pre r rs e
      (ap (λ (k : Kind). same_kind k Cut) (λ i. if not (u i) then Outside else if (n i || (r.rtype == type_ds)) && not (s i) then Cut else if r.rtype == type_cname then Alias else Normal))
      (and_both (same_name r.owner r.owner) (r.rtype == type_ns) (same_itself r.owner) n))
      (λ u s. servers_same r.owner u s)
      ∙ sym (fits_is r)

  all_fit : (pre rs : List Record) → pre ++ rs ≡ f.accepted → list_all (λ r. record_passes (kept f) (kind_of f r) r) rs ≡ list_all fits rs
  all_fit pre [] e = refl
  all_fit pre (r ∷ rs) e = λ i. record_fits pre r rs e i && all_fit (pre ++ r ∷ []) rs (assoc pre ∙ e) i
    where
      assoc : (xs : List Record) → (xs ++ r ∷ []) ++ rs ≡ xs ++ r ∷ rs
      assoc [] = refl
      assoc (x ∷ xs) = ap (λ l. x ∷ l) (assoc xs)

  pub whole_is : is_whole (kept f) ≡ makes_zone f
  whole_is =
      whole_in_parts (kept f)
      ∙ in_turn (all_kind Cut) (all_kind Alias) (all_kind Normal) (all_kind Outside)
      ∙ (λ i. kind_whole Cut i && (kind_whole Alias i && (kind_whole Normal i && kind_whole Outside i)))
      ∙ by_kind f.accepted ∙ all_fit [] f.accepted refl
    where
      all_kind : Kind → Bool
      all_kind kind = list_all (passes (kept f) kind) (keys_of (sets_for (kept f) kind))

      in_turn : (a b c d : Bool) → (((a && b) && c) && d) ≡ (a && (b && (c && d)))
      in_turn true true c d = refl
      in_turn true false c d = refl
      in_turn false b c d = refl

      sets_are : (kind : Kind) → sets_for (kept f) kind ≡ sets_of f kind
      sets_are Normal = refl
      sets_are Cut = refl
      sets_are Alias = refl
      sets_are Outside = refl

      kind_whole : (kind : Kind) → list_all (passes (kept f) kind) (keys_of (sets_for (kept f) kind)) ≡ all_of kind f.accepted
      kind_whole kind =
          ap (λ (sets : Sets). list_all (passes (kept f) kind) (keys_of sets)) (sets_are kind)
          ∙ all_kept (passes (kept f) kind) (passes_alike (kept f) kind) f kind

  -- ---- what the file opens with

  pub version_is : version_of (kept f) ≡ opened f
  version_is i = record { apex = sym opened_apex i; class = sym opened_class i; sets = joined_is_opened f i }

  pub takes_as : (r : Record) → take (kept f) r ≡ taken_as f r (classify f r)
  takes_as r = by (classify f r) (verdict_kept f r)
    where
      by : (v : RecordVerdict) → verdict_in (kept f) r ≡ v → take (kept f) r ≡ taken_as f r v
      by (Accepted kind) e = let q = taken_in (kept f) r kind in let h : take (kept f) r ≡ Ok q = ap (taken_by (kept f) r) e in h ∙ ap Ok (take_kept f r q h)
      by (Rejected why) e = ap (taken_by (kept f) r) e
