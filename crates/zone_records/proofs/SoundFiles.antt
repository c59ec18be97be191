-- A zone file without faults makes a sound version.
use Rattle.std.proofs.Common.{◌≡◌, ◌==◌, Bool, true, false, cond, ◌&&◌, ◌||◌, not, if◌then◌else◌, List, [], ◌∷◌, length, nat_le, refl, sym, ap, subst, ◌∙◌, true≢false, Equal, Some, None, IfNone, is_some, bytes_eq, Result, Ok, Err, IfErr}
use Rattle.std.specs.Prelude.{is_none}
use Rattle.std.specs.List.{list_all}
use Rattle.std.specs.List.Sorted.{IsStrictlySortedBy}
use Rattle.std.specs.Cmp.{Equal-is, first_so, second_so}
use Rattle.std.specs.Cmp.Derive.{both_true}
use Rattle.std.specs.Cmp.Lexicographic.{pointwise, pointwise_decides, bytes_decides}
use Rattle.std.specs.BTreeMap.{insert_entry}
use Rattle.std.specs.Map.{keys_of}
use Rattle.dns_name.specs.Names.{Name, fold, same_name, under}
use Rattle.dns_numbers.specs.Codes.{type_ns, type_cname, type_ds}
use Rattle.zone_model.specs.Version.{RecordSet, Key, Sets, key_cmp, has_key, set_in, below_apex, all_differ}
use Rattle.zone_model.specs.Classify.{Kind, Normal, Cut, Alias, Outside}
use Rattle.zone_model.proofs.Folded.{key_total, same_key, IsFolded, fold-fold, under_alike}
use Rattle.zone_model.proofs.Ordered.{sorted-insert_entry}
use Rattle.zone_values.specs.declared.record_errors.ContextError.{ContextError}
use Rattle.zone_values.specs.declared.record_errors.ContextError.TheVariants.{MissingNs, InvalidZonecut, InvalidCname, OutOfZone}
use Rattle.zone_values.specs.declared.errors.ZoneCutError.TheVariants as no_cut
use Rattle.zone_values.specs.declared.errors.CnameError.TheVariants as bad_alias
use Rattle.zone_values.specs.SetEdits.{put_all}
use Rattle.zone_values.proofs.KeptTypes.{all_insert}
use Rattle.zone_versions.specs.Sound.{is_sound_at, IsSound}
use Rattle.zone_records.specs.Parsed.{Parsed, version_of, is_tidy_at, IsTidy, is_no_alias, is_one_alias, IsByKind}
use Rattle.zone_records.specs.declared.errors.FileError.{FileError}
use Rattle.zone_records.specs.declared.errors.FileError.TheVariants.{Errors, Memory}
use Rattle.zone_records.specs.Causes.{errors_in}
use Rattle.zone_records.specs.Faults.{faults}
use Rattle.zone_records.proofs.Whole.{passes, whole_in_parts, passes_alike}

-- ---- sets put together

put_sorted : (more sets : Sets) → IsStrictlySortedBy key_cmp (keys_of sets) → IsStrictlySortedBy key_cmp (keys_of (put_all sets more))
put_sorted [] sets h = h
put_sorted (e ∷ more) sets h = put_sorted more (insert_entry key_cmp sets e.0 e.1) (sorted-insert_entry key_total sets e.0 e.1 h)

-- what holds at each entry of both holds at each entry, where it tells that owners are in lower case
put_each : (test : Key × RecordSet → Bool) → ((e : Key × RecordSet) → test e ≡ true → IsFolded e.0) → (more sets : Sets) → list_all test more ≡ true → list_all test sets ≡ true → list_all test (put_all sets more) ≡ true
put_each test lower [] sets m h = h
put_each test lower (e ∷ more) sets m h =
    let here = first_so (test e) (list_all test more) m in
    put_each test lower more (insert_entry key_cmp sets e.0 e.1) (second_so (test e) (list_all test more) m)
    (all_insert test sets e.0 e.1 here (λ f g q. subst (λ (k : Key). test (k, e.1) ≡ true) (same_key e.0 f.0 (lower e here) (lower f g) q) here) h)

-- ---- one entry

-- what is told of a key's set and of all keys holds at its entry
each : (p q s : Key × RecordSet → Bool) (t : Key → Bool) → ((e : Key × RecordSet) → p e ≡ true → q e ≡ true → t e.0 ≡ true → s e ≡ true)
    → (es : Sets) → list_all p es ≡ true → list_all q es ≡ true → list_all t (keys_of es) ≡ true → list_all s es ≡ true
each p q s t h [] a b c = refl
each p q s t h (e ∷ es) a b c =
    both_true (h e (first_so (p e) (list_all p es) a) (first_so (q e) (list_all q es) b) (first_so (t e.0) (list_all t (keys_of es)) c))
    (each p q s t h es (second_so (p e) (list_all p es) a) (second_so (q e) (list_all q es) b) (second_so (t e.0) (list_all t (keys_of es)) c))

-- a test of keys holds at a key where there is a set
at_set : (test : Key → Bool) → ((k l : Key) → key_cmp k l ≡ Equal → test k ≡ test l) → (k : Key) (es : Sets) → list_all test (keys_of es) ≡ true → is_some (set_in es k) ≡ true → test k ≡ true
at_set test alike k [] h s = absurd (true≢false (sym s))
at_set test alike k (e ∷ es) h s = by (has_key k e.0) refl s (at_set test alike k es (second_so (test e.0) (list_all test (keys_of es)) h))
  where
    by : (b : Bool) → has_key k e.0 ≡ b → is_some (cond b (Some e.1) (set_in es k)) ≡ true → (is_some (set_in es k) ≡ true → test k ≡ true) → test k ≡ true
    by true q s later = alike k e.0 ((Equal-is (key_cmp k e.0)).0 q) ∙ first_so (test e.0) (list_all test (keys_of es)) h
    by false q s later = later s

module _ (p : Parsed) where
  abbrev sound : Key × RecordSet → Bool
  sound e = is_sound_at (version_of p) e

  sound_lower : (e : Key × RecordSet) → sound e ≡ true → IsFolded e.0
  sound_lower e h = by (under e.0.0 p.origin) (nat_le 1 (length e.1.items)) (all_differ e.1.items) h
    where
      by : (u n d : Bool) → ((((u && pointwise bytes_eq e.0.0 (fold e.0.0)) && n) && d) && (not (below_apex (version_of p) e.0.0 && (e.0.1 == type_cname)) || (length e.1.items == 1))) ≡ true → fold e.0.0 ≡ e.0.0
      by u n d h = sym ((pointwise_decides bytes_decides e.0.0 (fold e.0.0)).0 (second_so u (pointwise bytes_eq e.0.0 (fold e.0.0)) (first_so _ n (first_so _ d (first_so _ _ h)))))

  -- a tidy set in the zone is sound, if it is no CNAME or of one record
  sound_by : (e : Key × RecordSet) → under e.0.0 p.origin ≡ true → is_tidy_at e ≡ true → (not (below_apex (version_of p) e.0.0 && (e.0.1 == type_cname)) || (length e.1.items == 1)) ≡ true → sound e ≡ true
  sound_by e u t c = both_true (by (under e.0.0 p.origin) u) c
    where
      by : (b : Bool) → b ≡ true → (((b && pointwise bytes_eq e.0.0 (fold e.0.0)) && nat_le 1 (length e.1.items)) && all_differ e.1.items) ≡ true
      by true h = t
      by false h = absurd (true≢false (sym h))

  no_alias : (e : Key × RecordSet) → is_no_alias e ≡ true → (not (below_apex (version_of p) e.0.0 && (e.0.1 == type_cname)) || (length e.1.items == 1)) ≡ true
  no_alias e h = by (below_apex (version_of p) e.0.0) (e.0.1 == type_cname) h
    where
      by : (b a : Bool) → not a ≡ true → (not (b && a) || (length e.1.items == 1)) ≡ true
      by b true g = absurd (true≢false (sym g))
      by true false g = refl
      by false false g = refl

  one_alias : (e : Key × RecordSet) → is_one_alias e ≡ true → (not (below_apex (version_of p) e.0.0 && (e.0.1 == type_cname)) || (length e.1.items == 1)) ≡ true
  one_alias e h = by (not (below_apex (version_of p) e.0.0 && (e.0.1 == type_cname))) (length e.1.items == 1) (second_so (e.0.1 == type_cname) (length e.1.items == 1) h)
    where
      by : (b x : Bool) → x ≡ true → (b || x) ≡ true
      by true x g = refl
      by false x g = g

  -- ---- where no fault is told

  normal_inside : (k : Key) → passes p Normal k ≡ true → under k.0 p.origin ≡ true
  normal_inside k h = by (under k.0 p.origin) h
    where
      by : (u : Bool) → is_none (if not u then Some (OutOfZone k.1) else None) ≡ true → u ≡ true
      by true g = refl
      by false g = absurd (true≢false (sym g))

  alias_inside : (k : Key) → passes p Alias k ≡ true → under k.0 p.origin ≡ true
  alias_inside k h = by (under k.0 p.origin) h
    where
      by : (u : Bool) → is_none (if not u then Some (InvalidCname bad_alias.OutOfZone) else if same_name k.0 p.origin then Some (InvalidCname bad_alias.CnameAtApex) else None) ≡ true → u ≡ true
      by true g = refl
      by false g = absurd (true≢false (sym g))

  -- NS records stand at each name of a cut, and at these it is told
  servers : (k : Key) → passes p Cut k ≡ true → is_some (set_in p.cuts (fold k.0, type_ns)) ≡ true
  servers k h = by (is_some (set_in p.cuts (fold k.0, type_ns))) h
    where
      by : (s : Bool) → is_none (if not s then Some MissingNs else if k.1 == type_ds then None else if not (under k.0 p.origin) then Some (InvalidZonecut no_cut.OutOfZone) else if same_name k.0 p.origin then Some (InvalidZonecut no_cut.ZoneCutAtApex) else None) ≡ true
          → s ≡ true
      by true g = refl
      by false g = absurd (true≢false (sym g))

  servers_inside : (owner : Name) → passes p Cut (owner, type_ns) ≡ true → under owner p.origin ≡ true
  servers_inside owner h = by (is_some (set_in p.cuts (fold owner, type_ns))) (under owner p.origin) h
    where
      by : (s u : Bool) → is_none (if not s then Some MissingNs else if not u then Some (InvalidZonecut no_cut.OutOfZone) else if same_name owner p.origin then Some (InvalidZonecut no_cut.ZoneCutAtApex) else None) ≡ true → u ≡ true
      by s true g = refl
      by true false g = absurd (true≢false (sym g))
      by false false g = absurd (true≢false (sym g))

  cut_inside : list_all (passes p Cut) (keys_of p.cuts) ≡ true → (k : Key) → passes p Cut k ≡ true → under k.0 p.origin ≡ true
  cut_inside all k h =
      under_alike k.0 (fold k.0) p.origin p.origin (sym (fold-fold k.0)) refl
      ∙ servers_inside (fold k.0) (at_set (passes p Cut) (passes_alike p Cut) (fold k.0, type_ns) p.cuts all (servers k h))

  -- ---- the version

  pub makes_sound : IsTidy p.normal → IsTidy p.cuts → IsTidy p.aliases → IsByKind p.normal p.cuts p.aliases → faults p ≡ [] → IsSound (version_of p)
  makes_sound n c a k none =
      let cut = list_all (passes p Cut) (keys_of p.cuts) in
      let alias = list_all (passes p Alias) (keys_of p.aliases) in
      let normal = list_all (passes p Normal) (keys_of p.normal) in
      let outside = list_all (passes p Outside) (keys_of p.outside) in
      let whole : (((cut && alias) && normal) && outside) ≡ true = sym (whole_in_parts p) ∙ ap (λ (l : List (Name × ContextError)). length l == 0) none in
      let inner = first_so ((cut && alias) && normal) outside whole in
      let outer = first_so (cut && alias) normal inner in
      let cuts_pass = first_so cut alias outer in
      record {
        ordered = put_sorted p.aliases (put_all p.normal p.cuts) (put_sorted p.cuts p.normal n.ordered);
        kept = put_each sound sound_lower p.aliases (put_all p.normal p.cuts)
            (each is_tidy_at is_one_alias sound (passes p Alias) (λ e t o i. sound_by e (alias_inside e.0 i) t (one_alias e o)) p.aliases a.each k.2 (second_so cut alias outer))
            (put_each sound sound_lower p.cuts p.normal
            (each is_tidy_at is_no_alias sound (passes p Cut) (λ e t o i. sound_by e (cut_inside cuts_pass e.0 i) t (no_alias e o)) p.cuts c.each k.1 cuts_pass)
            (each is_tidy_at is_no_alias sound (passes p Normal) (λ e t o i. sound_by e (normal_inside e.0 i) t (no_alias e o)) p.normal n.each k.0 (second_so (cut && alias) normal inner)));
      }

-- the owners of all kinds that make a zone are in it
all_in : (p : Parsed) (kind : Kind) → ((k : Key) → passes p kind k ≡ true → under k.0 p.origin ≡ true) → (ks : List Key) → list_all (passes p kind) ks ≡ true → list_all (λ (k : Key). under k.0 p.origin) ks ≡ true
all_in p kind f [] h = refl
all_in p kind f (k ∷ ks) h = both_true (f k (first_so (passes p kind k) (list_all (passes p kind) ks) h)) (all_in p kind f ks (second_so (passes p kind k) (list_all (passes p kind) ks) h))

abbrev pub AllIn : Parsed → Type 0
AllIn p = (list_all (λ (k : Key). under k.0 p.origin) (keys_of p.normal) ≡ true) × (list_all (λ (k : Key). under k.0 p.origin) (keys_of p.cuts) ≡ true) × (list_all (λ (k : Key). under k.0 p.origin) (keys_of p.aliases) ≡ true)

pub owners_in : (p : Parsed) → faults p ≡ [] → AllIn p
owners_in p none =
    let cut = list_all (passes p Cut) (keys_of p.cuts) in
    let alias = list_all (passes p Alias) (keys_of p.aliases) in
    let normal = list_all (passes p Normal) (keys_of p.normal) in
    let outside = list_all (passes p Outside) (keys_of p.outside) in
    let whole : (((cut && alias) && normal) && outside) ≡ true = sym (whole_in_parts p) ∙ ap (λ (l : List (Name × ContextError)). length l == 0) none in
    let inner = first_so ((cut && alias) && normal) outside whole in
    let outer = first_so (cut && alias) normal inner in
    let cuts_pass = first_so cut alias outer in (
      all_in p Normal (normal_inside p) (keys_of p.normal) (second_so (cut && alias) normal inner),
      all_in p Cut (cut_inside p cuts_pass) (keys_of p.cuts) cuts_pass,
      all_in p Alias (alias_inside p) (keys_of p.aliases) (second_so cut alias outer),
    )

-- nothing was told
pub no_faults : (p : Parsed) (found : List (Name × ContextError)) → found ≡ faults p → found ≡ [] → faults p ≡ []
no_faults p found e h = sym e ∙ h

-- want of memory then hides nothing
pub none_hidden : {V : Type 0} (p : Parsed) (r : Result V (FileError ContextError)) → faults p ≡ [] → IfErr r (λ e. IfNone (errors_in e) (faults p ≡ []))
none_hidden p (Ok v) h = tt
none_hidden p (Err (Errors errors)) h = tt
none_hidden p (Err Memory) h = h
