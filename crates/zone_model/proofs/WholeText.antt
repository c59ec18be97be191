-- The whole text of a version spells that version.
use Rattle.std.proofs.Common.{◌≡◌, ℕ, ◌≤◌, Bool, true, false, cond, ◌&&◌, ◌==◌, not, if◌then◌else◌, List, [], ◌∷◌, ◌++◌, map, filter, flat_map, length, refl, sym, ap, ◌∙◌, subst, true≢false, Equal, is_eq, Option, Some, None, is_some, option_map, IsTrue, eqb-true, arith}
use Rattle.std.specs.List.{AllByRecursion, list_all, list_any}
use Rattle.std.specs.Cmp.{Equal-is, first_so, second_so}
use Rattle.std.specs.Cmp.Derive.{both_true}
use Rattle.std.specs.BTreeMap.{insert_entry}
use Rattle.std.specs.Map.{keys_of}
use Rattle.std.proofs.lemmas.List.Elements.{filter-append}
use Rattle.dns_name.specs.Names.{Name, fold, same_name, under}
use Rattle.dns_name.specs.Records.{Field, Record, same_data}
use Rattle.dns_numbers.specs.Codes.{type_soa, type_cname, type_ds, type_ns}
use Rattle.zone_model.specs.Version.{RecordSet, Key, Sets, Version, IsValid, key_cmp, set_in, set_at, below_apex}
use Rattle.zone_model.specs.Answer.{highest_cut, records_of, records_of_option, apex_soa_record, first_only}
use Rattle.zone_model.specs.Walk.{Stop, shown_owner}
use Rattle.zone_model.specs.Edits.{with_sets, is_stray, close}
use Rattle.zone_model.specs.TransferText.{Mode, Axfr, Ixfr, Whole, Ending, is_soa, is_plain, is_same_soa, begins_plain, is_text, read_text, OnIxfr}
use Rattle.zone_model.specs.Spells.{add_all_new, spell_whole, spell_text, spelling, no_versions, version_then}
use Rattle.zone_model.specs.Offer.{is_apex_soa, whole_text}
use Rattle.zone_model.specs.TransferLaws.{HasMiddle, WholeIsText, WholeSpells}
use Rattle.zone_model.proofs.OneReading.{only_this}
use Rattle.dns_name.specs.SameData.{same_data_equiv}
use Rattle.zone_model.proofs.Folded.{key_total, fold-fold, same_name-Decides, under_alike, same_name_alike, key_from_tie}
use Rattle.zone_model.proofs.Ordered.{find_alike, sorted_none}
use Rattle.zone_model.proofs.Steps.{Good, Does, set_of, more, CanAdd, AliasOk, adding_new, entry_adds, found-insert, good-insert}
use Rattle.zone_model.proofs.Phases.{shown_folds, recs, AllInZone, phase, after, add_all_new-append}
use Rattle.zone_model.proofs.Valid.{Kept, kept, all_keys, valid_good, Found, found_entry, OneSoa, one_soa}
use Rattle.zone_model.proofs.Alike.{tie_from, equal_from_found, same_itself}

-- ---- the records between the SOA records

abbrev pub but_soa : Key → RecordSet → List (List Field)
but_soa k s = if k.1 == type_soa then [] else s.items

pub filter_all : (p : Record → Bool) (f : List Field → Record) (xs : List (List Field)) → ((x : List Field) → p (f x) ≡ true) → filter p (map f xs) ≡ map f xs
filter_all p f [] h = refl
filter_all p f (x ∷ xs) h = ap (λ b. cond b (f x ∷ filter p (map f xs)) (filter p (map f xs))) (h x) ∙ ap (λ l. f x ∷ l) (filter_all p f xs h)

pub filter_none : (p : Record → Bool) (f : List Field → Record) (xs : List (List Field)) → ((x : List Field) → p (f x) ≡ false) → filter p (map f xs) ≡ []
filter_none p f [] h = refl
filter_none p f (x ∷ xs) h = ap (λ b. cond b (f x ∷ filter p (map f xs)) (filter p (map f xs))) (h x) ∙ filter_none p f xs h

abbrev stop_of : Version → Key × RecordSet → List Record
stop_of v e = records_of (shown_owner v e.0.0) e.0.1 v.class e.1

abbrev SoaAtApex : Version → Key → Type 0
SoaAtApex v k = (k.1 == type_soa) ≡ true → fold k.0 ≡ fold v.apex

one_stop : (v : Version) (e : Key × RecordSet) → SoaAtApex v e.0 → filter (λ r. not (is_apex_soa v r)) (stop_of v e) ≡ recs (shown_owner v) v.class but_soa e
one_stop v e h = by (e.0.1 == type_soa) refl
  where
    f : List Field → Record
    f d = record { owner = shown_owner v e.0.0; rtype = e.0.1; class = v.class; ttl = e.1.ttl; fields = d }

    by : (b : Bool) → (e.0.1 == type_soa) ≡ b → filter (λ r. not (is_apex_soa v r)) (stop_of v e) ≡ records_of (shown_owner v e.0.0) e.0.1 v.class (set_of e.1.ttl (if b then [] else e.1.items))
    by true is =
        let at_apex : same_name (shown_owner v e.0.0) v.apex ≡ true = (same_name-Decides (shown_owner v e.0.0) v.apex).1 (shown_folds v e.0.0 ∙ h is) in
        filter_none (λ r. not (is_apex_soa v r)) (λ d. record { owner = shown_owner v e.0.0; rtype = e.0.1; class = v.class; ttl = e.1.ttl; fields = d }) e.1.items (λ d i. not (both_true is at_apex i))
    by false is =
        filter_all (λ r. not (is_apex_soa v r)) (λ d. record { owner = shown_owner v e.0.0; rtype = e.0.1; class = v.class; ttl = e.1.ttl; fields = d }) e.1.items (λ d i. not (is i && same_name (shown_owner v e.0.0) v.apex))

stops : (v : Version) (es : Sets) → AllByRecursion (SoaAtApex v) (keys_of es)
    → filter (λ r. not (is_apex_soa v r)) (flat_map (stop_of v) es) ≡ flat_map (recs (shown_owner v) v.class but_soa) es
stops v [] a = refl
stops v (e ∷ es) a =
    filter-append (λ r. not (is_apex_soa v r)) (stop_of v e) (flat_map (stop_of v) es) ∙ (λ i. one_stop v e a.0 i ++ stops v es a.1 i)

walked : (v : Version) (es : Sets) → flat_map (λ (s : Stop). records_of s.owner s.rtype v.class s.contents) (map (λ (e : Key × RecordSet). record { owner = shown_owner v e.0.0; rtype = e.0.1; contents = e.1; below_cut = is_some (highest_cut v e.0.0) }) es) ≡ flat_map (stop_of v) es
walked v [] = refl
walked v (e ∷ es) = ap (λ l. stop_of v e ++ l) (walked v es)

abbrev pub middle_of : Version → List Record
middle_of v = flat_map (recs (shown_owner v) v.class but_soa) v.sets

abbrev pub soa_of : (v : Version) → OneSoa v → Record
soa_of v o = record { owner = v.apex; rtype = type_soa; class = v.class; ttl = o.ttl; fields = o.fields }

pub apex_soa_record-is : (v : Version) (o : OneSoa v) → apex_soa_record v ≡ soa_of v o ∷ []
apex_soa_record-is v o = ap (λ s. records_of_option v.apex type_soa v.class (option_map first_only s)) o.stands

pub whole_is : (v : Version) (o : OneSoa v) → whole_text v ≡ soa_of v o ∷ middle_of v ++ soa_of v o ∷ []
whole_is v o = λ i. apex_soa_record-is v o i ++ (ap (filter (λ r. not (is_apex_soa v r))) (walked v v.sets) ∙ stops v v.sets o.alone) i ++ apex_soa_record-is v o i

-- .. are no SOA records
pub all_plain : (f : List Field → Record) (xs : List (List Field)) → ((x : List Field) → is_plain (f x) ≡ true) → list_all is_plain (map f xs) ≡ true
all_plain f [] h = refl
all_plain f (x ∷ xs) h = both_true (h x) (all_plain f xs h)

pub list_all-append : (p : Record → Bool) (xs ys : List Record) → list_all p xs ≡ true → list_all p ys ≡ true → list_all p (xs ++ ys) ≡ true
list_all-append p [] ys h k = k
list_all-append p (x ∷ xs) ys h k = both_true (first_so (p x) _ h) (list_all-append p xs ys (second_so (p x) _ h) k)

-- no data of an SOA set
abbrev pub NoSoa : (Key → RecordSet → List (List Field)) → Type 0
NoSoa g = (k : Key) (s : RecordSet) → (k.1 == type_soa) ≡ true → g k s ≡ []

pub recs_plain : (show : Name → Name) (cl : ℕ) (g : Key → RecordSet → List (List Field)) → NoSoa g → (es : Sets) → list_all is_plain (flat_map (recs show cl g) es) ≡ true
recs_plain show cl g none [] = refl
recs_plain show cl g none (e ∷ es) = list_all-append is_plain (recs show cl g e) (flat_map (recs show cl g) es) (by (e.0.1 == type_soa) refl) (recs_plain show cl g none es)
  where
    by : (b : Bool) → (e.0.1 == type_soa) ≡ b → list_all is_plain (recs show cl g e) ≡ true
    by true is = ap (λ l. list_all is_plain (records_of (show e.0.0) e.0.1 cl (set_of e.1.ttl l))) (none e.0 e.1 is)
    by false is = all_plain (λ d. record { owner = show e.0.0; rtype = e.0.1; class = cl; ttl = e.1.ttl; fields = d }) (g e.0 e.1) (λ d. ap not is)

but_soa-none : NoSoa but_soa
but_soa-none k s is = ap (λ b. if b then [] else s.items) is

plain_differs : (s : Record) (rs : List Record) → list_all is_plain rs ≡ true → list_all (λ r. not (is_same_soa s r)) rs ≡ true
plain_differs s [] h = refl
plain_differs s (r ∷ rs) h = both_true (by (is_soa r) (first_so (is_plain r) _ h)) (plain_differs s rs (second_so (is_plain r) _ h))
  where
    by : (b : Bool) → not b ≡ true → not (b && same_data s.fields r.fields) ≡ true
    by true e = absurd (true≢false (sym e))
    by false e = refl

-- ---- the text

begins : (mode : Mode) (s : Record) (rs : List Record) → list_all is_plain rs ≡ true → OnIxfr mode (IsTrue (not (length (s ∷ rs ++ s ∷ []) == 2))) → begins_plain mode rs ≡ true
begins Axfr s rs h m = refl
begins Ixfr s [] h m = absurd (true≢false (sym m))
begins Ixfr s (r ∷ rs) h m = first_so (is_plain r) _ h

has_text : (mode : Mode) (s : Record) (rs : List Record) → is_soa s ≡ true → list_all is_plain rs ≡ true → begins_plain mode rs ≡ true → is_text mode (Whole s rs (Some (record { last = s; rest = [] }))) ≡ true
has_text mode s rs is h b = both_true (both_true (both_true is b) (plain_differs s rs h)) (both_true is (same_data_equiv.refl s.fields))

on_middle : (mode : Mode) (v : Version) (o : OneSoa v) → OnIxfr mode (HasMiddle v) → OnIxfr mode (IsTrue (not (length (soa_of v o ∷ middle_of v ++ soa_of v o ∷ []) == 2)))
on_middle Axfr v o m = tt
on_middle Ixfr v o m = subst (λ l. IsTrue (not (length l == 2))) (whole_is v o) m

text_is : (mode : Mode) (v : Version) (o : OneSoa v) → OnIxfr mode (HasMiddle v) → is_text mode (Whole (soa_of v o) (middle_of v) (Some (record { last = soa_of v o; rest = [] }))) ≡ true
text_is mode v o m = let plain = recs_plain (shown_owner v) v.class but_soa but_soa-none v.sets in has_text mode (soa_of v o) (middle_of v) refl plain (begins mode (soa_of v o) (middle_of v) plain (on_middle mode v o m))

reads_so : (mode : Mode) (v : Version) (o : OneSoa v) → OnIxfr mode (HasMiddle v) → read_text mode (soa_of v o) (middle_of v ++ soa_of v o ∷ []) ≡ Whole (soa_of v o) (middle_of v) (Some (record { last = soa_of v o; rest = [] }))
reads_so mode v o m = only_this mode (Whole (soa_of v o) (middle_of v) (Some (record { last = soa_of v o; rest = [] }))) (text_is mode v o m)

pub whole_is_text : WholeIsText
whole_is_text mode v h one m =
    let o = one_soa v h one in
    record { soa = soa_of v o; middle = middle_of v; joined = whole_is v o; reads = reads_so mode v o m; text = text_is mode v o m }

-- ---- what it spells

-- tests of names in versions of one apex
pub below_near : (v w : Version) (m n : Name) → fold v.apex ≡ fold w.apex → fold m ≡ fold n → below_apex v m ≡ below_apex w n
below_near v w m n e f i = under_alike m n v.apex w.apex f e i && not (same_name_alike m n v.apex w.apex f e i)

pub zone_near : (v w : Version) (es : Sets) → fold v.apex ≡ fold w.apex → AllInZone v es → AllInZone w es
zone_near v w [] e z = tt
zone_near v w (x ∷ es) e z = (under_alike x.0.0 x.0.0 w.apex v.apex refl (sym e) ∙ z.0, zone_near v w es e z.1)

pub nothing_good : Good []
nothing_good = record { sorted = sorted_none key_cmp; folded = tt }

fresh_of_none : (ds : List (List Field)) → list_all (λ d. not (list_any (same_data d) [])) ds ≡ true
fresh_of_none [] = refl
fresh_of_none (d ∷ ds) = fresh_of_none ds

-- a list of at most one element is no second alias
alias_of_none : (b : Bool) (ds : List (List Field)) → (b ≡ true → length ds ≡ 1) → AliasOk b None ds
alias_of_none b [] h = tt
alias_of_none b (d ∷ []) h = λ e. (refl, refl)
alias_of_none b (d ∷ x ∷ ds) h = λ e. let n : length (d ∷ x ∷ ds) ≡ 1 = h e in absurd (omega arith)

-- what is added where nothing stands
pub can_add_none : (base v : Version) (q : Key) (s : RecordSet) → fold base.apex ≡ fold v.apex → Found (Kept v) q s → CanAdd None (below_apex base q.0 && (q.1 == type_cname)) s.items
can_add_none base v q s near f =
    let tie = key_from_tie q f.key f.tied in
    let same : (below_apex base q.0 && (q.1 == type_cname)) ≡ (below_apex v f.key.0 && (f.key.1 == type_cname)) = λ i. below_near base v q.0 f.key.0 near tie.0 i && (tie.1 i == type_cname) in
    record {
      fresh = fresh_of_none s.items;
      differ = f.holds_of.differ;
      alias = alias_of_none (below_apex base q.0 && (q.1 == type_cname)) s.items (λ e. f.holds_of.alias (sym same ∙ e));
    }

pub can_add_nothing : (b : Bool) (old : Option RecordSet) → CanAdd old b []
can_add_nothing b old = record { fresh = refl; differ = refl; alias = tt }

but_soa-ties : (k q : Key) (s : RecordSet) → key_cmp k q ≡ Equal → but_soa k s ≡ but_soa q s
but_soa-ties k q s e = ap (λ (n : ℕ). if n == type_soa then [] else s.items) (key_from_tie k q e).1

more_on_none : (s : RecordSet) (ds : List (List Field)) → s.items ≡ ds → 1 ≤ length ds → more s.ttl None ds ≡ Some s
more_on_none s [] e h = absurd (omega arith)
more_on_none s (d ∷ ds) e h = ap (λ l. Some (set_of s.ttl l)) (sym e)

pub keys_entries : (Q : Key → Type 0) (es : Sets) → AllByRecursion Q (keys_of es) → AllByRecursion (λ (e : Key × RecordSet). Q e.0) es
keys_entries Q [] a = tt
keys_entries Q (e ∷ es) a = (a.0, keys_entries Q es a.1)

-- a set of SOA records stands at the apex alone
pub soa_at_apex : (v : Version) (o : OneSoa v) (q : Key) (s : RecordSet) → set_in v.sets q ≡ Some s → (q.1 == type_soa) ≡ true → key_cmp q (fold v.apex, type_soa) ≡ Equal
soa_at_apex v o q s found is =
    let f = found_entry (λ (e : Key × RecordSet). SoaAtApex v e.0) v.sets q s (keys_entries (SoaAtApex v) v.sets o.alone) found in
    let tie = key_from_tie q f.key f.tied in
    tie_from q (fold v.apex, type_soa) (tie.0 ∙ f.holds_of (ap (λ (n : ℕ). n == type_soa) (sym tie.1) ∙ is) ∙ sym (fold-fold v.apex)) (eqb-true q.1 type_soa is)

-- no set that is kept is stray
not_stray : (v w : Version) (e : Key × RecordSet) → fold w.apex ≡ fold v.apex → ((q : Key) → is_some (set_in v.sets q) ≡ true → is_some (set_in w.sets q) ≡ true) → Kept v e → is_stray w e ≡ false
not_stray v w e near has k = by (below_apex w e.0.0 && (e.0.1 == type_ds)) refl
  where
    by : (b : Bool) → (below_apex w e.0.0 && (e.0.1 == type_ds)) ≡ b → (b && not (is_some (set_at w e.0.0 type_ns))) ≡ false
    by true p = ap not (has (fold e.0.0, type_ns) (k.signed (ap (λ c. c && (e.0.1 == type_ds)) (below_near v w e.0.0 e.0.0 (sym near) refl) ∙ p)))
    by false p = refl

none_stray : (v w : Version) (es : Sets) → fold w.apex ≡ fold v.apex → ((q : Key) → is_some (set_in v.sets q) ≡ true → is_some (set_in w.sets q) ≡ true) → AllByRecursion (Kept v) es → filter (λ e. not (is_stray w e)) es ≡ es
none_stray v w [] near has k = refl
none_stray v w (e ∷ es) near has k =
    ap (λ b. cond (not b) (e ∷ filter (λ x. not (is_stray w x)) es) (filter (λ x. not (is_stray w x)) es)) (not_stray v w e near has k.0) ∙ ap (λ l. e ∷ l) (none_stray v w es near has k.1)

-- closing a version with the sets of a valid one changes nothing
pub close_valid : (v w : Version) → IsValid v → fold w.apex ≡ fold v.apex → w.sets ≡ v.sets → close w ≡ w
close_valid v w h near e =
    ap (with_sets w) (none_stray v w w.sets near (λ q p. ap (λ l. is_some (set_in l q)) e ∙ p) (subst (λ l. AllByRecursion (Kept v) l) (sym e) (kept v h)))

module _ (v base : Version) (h : IsValid v) (o : OneSoa v) (near : fold base.apex ≡ fold v.apex) where
  fits : (q : Key) (s : RecordSet) → set_in v.sets q ≡ Some s → CanAdd None (below_apex base q.0 && (q.1 == type_cname)) (but_soa q s)
  fits q s found =
      elim (q.1 == type_soa) as (λ b. CanAdd None (below_apex base q.0 && (q.1 == type_cname)) (if b then [] else s.items)) [
        | true ↦ can_add_nothing (below_apex base q.0 && (q.1 == type_cname)) None
        | false ↦ can_add_none base v q s near (found_entry (Kept v) v.sets q s (kept v h) found)
      ]

  added : Does add_all_new base [] (middle_of v) (λ q. after add_all_new add_all_new-append more CanAdd adding_new.none base (entry_adds adding_new base) (shown_owner v) (shown_folds v) v.class but_soa but_soa-ties q None (set_in v.sets q))
  added = phase add_all_new add_all_new-append more CanAdd adding_new.none base (entry_adds adding_new base) (shown_owner v) (shown_folds v) v.class but_soa but_soa-ties v.sets (valid_good v h)
      (zone_near v base v.sets (sym near) (all_keys (Kept v) (λ (k : Key). under k.0 v.apex ≡ true) v.sets (λ e k. k.zone) (kept v h))) [] nothing_good fits

  abbrev soa_key : Key
  soa_key = (fold base.apex, type_soa)

  abbrev soa_set : RecordSet
  soa_set = set_of o.ttl (o.fields ∷ [])

  abbrev last_sets : Sets
  last_sets = insert_entry key_cmp added.sets soa_key soa_set

  other_sets : (q : Key) (s : Option RecordSet) → set_in v.sets q ≡ s → is_eq (key_cmp q soa_key) ≡ false
      → after add_all_new add_all_new-append more CanAdd adding_new.none base (entry_adds adding_new base) (shown_owner v) (shown_folds v) v.class but_soa but_soa-ties q None s ≡ s
  other_sets q None e n = refl
  other_sets q (Some s) e n = by (q.1 == type_soa) refl
    where
      by : (b : Bool) → (q.1 == type_soa) ≡ b → more s.ttl None (if b then [] else s.items) ≡ Some s
      by true is = absurd (true≢false (sym (ap is_eq (ap (λ (a : Name). key_cmp q (a, type_soa)) near ∙ soa_at_apex v o q s e is)) ∙ n))
      by false is = more_on_none s s.items refl (found_entry (Kept v) v.sets q s (kept v h) e).holds_of.holds_some

  found : (q : Key) → set_in last_sets q ≡ set_in v.sets q
  found q = found-insert added.sets soa_key soa_set q ∙ by (is_eq (key_cmp q soa_key)) refl
    where
      by : (b : Bool) → is_eq (key_cmp q soa_key) ≡ b → cond b (Some soa_set) (set_in added.sets q) ≡ set_in v.sets q
      by true p = sym (find_alike key_total v.sets q soa_key ((Equal-is (key_cmp q soa_key)).0 p) ∙ ap (λ (a : Name). set_in v.sets (a, type_soa)) near ∙ o.stands)
      by false p = added.found q ∙ other_sets q (set_in v.sets q) refl p

  sets_are : last_sets ≡ v.sets
  sets_are = equal_from_found last_sets v.sets (good-insert added.sets soa_key soa_set (fold-fold base.apex) added.good) (valid_good v h) found

  spells : (mode : Mode) → OnIxfr mode (HasMiddle v) → spelling mode (whole_text v) base ≡ version_then (with_sets base v.sets) no_versions
  spells mode m =
      let s : Record = soa_of v o in
      let end : Option Ending = Some (record { last = s; rest = [] }) in
      ap (λ l. spelling mode l base) (whole_is v o) ∙ ap (spell_text base) (reads_so mode v o m) ∙ ap (spell_whole end) added.done
      ∙ ap (λ l. version_then (close (with_sets base l)) no_versions) sets_are
      ∙ ap (λ w. version_then w no_versions) (close_valid v (with_sets base v.sets) h near refl)

pub whole_spells : WholeSpells
whole_spells mode v base h one same m = (spells v base h (one_soa v h one) ((same_name-Decides base.apex v.apex).0 same) mode m, same_itself (with_sets base v.sets) v refl)
