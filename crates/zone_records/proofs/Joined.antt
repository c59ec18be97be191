-- The sets held of a zone file, put together, are those that it opens with.
use Rattle.std.proofs.Common.{◌≡◌, ◌==◌, Bool, true, false, cond, ◌&&◌, ◌||◌, not, if◌then◌else◌, List, [], ◌∷◌, filter, fold as fold_list, refl, sym, ap, subst, ◌∙◌, true≢false, Option, Some, None}
use Rattle.std.specs.Option.{option_or}
use Rattle.std.specs.List.{AllByRecursion}
use Rattle.std.specs.List.Sorted.{IsStrictlySortedBy}
use Rattle.std.specs.BTreeMap.{insert_entry}
use Rattle.std.specs.Cmp.{Equal-is}
use Rattle.std.specs.Map.{keys_of}
use Rattle.std.proofs.lemmas.Map.Keys.{sorted_tail}
use Rattle.dns_name.specs.Names.{fold, same_name, under}
use Rattle.dns_name.specs.Records.{Record}
use Rattle.dns_numbers.specs.Codes.{type_ns, type_cname, type_ds}
use Rattle.zone_model.specs.Version.{RecordSet, Key, Sets, Version, key_cmp, has_key, set_in}
use Rattle.zone_model.specs.Classify.{ZoneFile, Kind, Normal, Cut, Alias, Outside, kind_of, same_kind, opened_with, opened}
use Rattle.zone_model.proofs.Folded.{key_total, key_from_tie, same_key, IsFolded, fold-fold, under_alike, same_name_alike}
use Rattle.zone_model.proofs.Ordered.{lookup-insert_entry, past_head, sorted_none, sorted-insert_entry, passes-insert_entry, Alike, AllAlike, all_alike}
use Rattle.zone_values.specs.SetEdits.{put_all}
use Rattle.zone_records.specs.Parsed.{sets_of, kept, joined}
use Rattle.zone_records.proofs.Putting.{key_of, set_with, put_record, sets_after, ties, step_at, found_after}

-- ---- in order, owners in lower case

abbrev pub IsOrdered : Sets → Type 0
IsOrdered sets = IsStrictlySortedBy key_cmp (keys_of sets) × AllByRecursion IsFolded (keys_of sets)

pub none_ordered : IsOrdered []
none_ordered = (sorted_none key_cmp, tt)

insert_ordered : (sets : Sets) (k : Key) (s : RecordSet) → IsFolded k → IsOrdered sets → IsOrdered (insert_entry key_cmp sets k s)
insert_ordered sets k s f h = (sorted-insert_entry key_total sets k s h.0, passes-insert_entry key_total IsFolded sets k s f h.1)

pub records_ordered : (rs : List Record) (sets : Sets) → IsOrdered sets → IsOrdered (fold_list put_record sets rs)
records_ordered [] sets h = h
records_ordered (r ∷ rs) sets h = records_ordered rs (put_record sets r) (insert_ordered sets (key_of r) (set_with r (set_in sets (key_of r))) (fold-fold r.owner) h)

put_all_ordered : (more sets : Sets) → AllByRecursion IsFolded (keys_of more) → IsOrdered sets → IsOrdered (put_all sets more)
put_all_ordered [] sets f h = h
put_all_ordered (e ∷ more) sets f h = put_all_ordered more (insert_entry key_cmp sets e.0 e.1) f.1 (insert_ordered sets e.0 e.1 f.0 h)

-- two such lists with the same look-ups are one list
same_list : (es fs : Sets) → AllByRecursion IsFolded (keys_of es) → AllByRecursion IsFolded (keys_of fs) → AllAlike key_total (λ (x y : RecordSet). x ≡ y) es fs → es ≡ fs
same_list [] [] a b h = refl
same_list [] (f ∷ fs) a b h = absurd h
same_list (e ∷ es) [] a b h = absurd h
same_list (e ∷ es) (f ∷ fs) a b h = λ i. (same_key e.0 f.0 a.0 b.0 h.0 i, h.1 i) ∷ same_list es fs a.1 b.1 h.2 i

pub same_found : (es fs : Sets) → IsOrdered es → IsOrdered fs → ((q : Key) → set_in es q ≡ set_in fs q) → es ≡ fs
same_found es fs h g e = same_list es fs h.1 g.1 (all_alike key_total (λ (x y : RecordSet). x ≡ y) es fs h.0 g.0 (λ q. subst (λ o. Alike key_total (λ (x y : RecordSet). x ≡ y) (set_in es q) o) (e q) (itself (set_in es q))))
  where
    itself : (o : Option RecordSet) → Alike key_total (λ (x y : RecordSet). x ≡ y) o o
    itself None = tt
    itself (Some s) = refl

-- ---- look-ups in joined sets

put_all_at : (q : Key) (more sets : Sets) → IsStrictlySortedBy key_cmp (keys_of more) → set_in (put_all sets more) q ≡ option_or (set_in more q) (set_in sets q)
put_all_at q [] sets s = refl
put_all_at q (e ∷ more) sets s =
    put_all_at q more (insert_entry key_cmp sets e.0 e.1) (sorted_tail key_cmp e.0 (keys_of more) s) ∙ ap (option_or (set_in more q)) (lookup-insert_entry key_total sets e.0 e.1 q) ∙ by (has_key q e.0) refl
  where
    by : (b : Bool) → has_key q e.0 ≡ b → option_or (set_in more q) (cond b (Some e.1) (set_in sets q)) ≡ option_or (cond b (Some e.1) (set_in more q)) (set_in sets q)
    by true h = ap (λ o. option_or o (Some e.1)) (past_head key_total q e more s h)
    by false h = refl

-- ---- the records of one key have one kind

module _ (f : ZoneFile) (q : Key) where
  abbrev probe : Record
  probe = record { owner = q.0; rtype = q.1; class = f.class; ttl = 0; fields = [] }

  alike_kinds : (r : Record) → ties q r ≡ true → kind_of f r ≡ kind_of f probe
  alike_kinds r h =
      let t = key_from_tie q (key_of r) ((Equal-is (key_cmp q (key_of r))).0 h) in
      let owners : fold r.owner ≡ fold q.0 = sym (fold-fold r.owner) ∙ sym t.0 in
      let zone : under r.owner f.apex ≡ under q.0 f.apex = under_alike r.owner q.0 f.apex f.apex owners refl in
      let apex : same_name r.owner f.apex ≡ same_name q.0 f.apex = same_name_alike r.owner q.0 f.apex f.apex owners refl in
      let type : r.rtype ≡ q.1 = sym t.1 in
      (λ i. if not (zone i) then Outside
      else if ((type i == type_ns) || (type i == type_ds)) && not (apex i) then Cut
      else if type i == type_cname then Alias
      else Normal)

  alike_zones : (r : Record) → ties q r ≡ true → under r.owner f.apex ≡ under q.0 f.apex
  alike_zones r h =
      let t = key_from_tie q (key_of r) ((Equal-is (key_cmp q (key_of r))).0 h) in
      under_alike r.owner q.0 f.apex f.apex (sym (fold-fold r.owner) ∙ sym t.0) refl

  -- a test that answers one way at all records of a key
  untied : (r : Record) (o : Option RecordSet) → ties q r ≡ false → step_at q o r ≡ o
  untied r o e = ap (λ b. cond b (Some (set_with r o)) o) e

  accepted_all : (p : Record → Bool) → ((r : Record) → ties q r ≡ true → p r ≡ true) → (rs : List Record) (o : Option RecordSet) → fold_list (step_at q) o (filter p rs) ≡ fold_list (step_at q) o rs
  accepted_all p h [] o = refl
  accepted_all p h (r ∷ rs) o = by (p r) (ties q r) refl refl (accepted_all p h rs o) (accepted_all p h rs (step_at q o r))
    where
      by : (a b : Bool) → p r ≡ a → ties q r ≡ b → fold_list (step_at q) o (filter p rs) ≡ fold_list (step_at q) o rs → fold_list (step_at q) (step_at q o r) (filter p rs) ≡ fold_list (step_at q) (step_at q o r) rs
          → fold_list (step_at q) o (cond a (r ∷ filter p rs) (filter p rs)) ≡ fold_list (step_at q) (step_at q o r) rs
      by true b x y same next = next
      by false true x y same next = absurd (true≢false (sym (h r y) ∙ x))
      by false false x y same next = same ∙ ap (λ z. fold_list (step_at q) z rs) (sym (untied r o y))

  refused_all : (p : Record → Bool) → ((r : Record) → ties q r ≡ true → p r ≡ false) → (rs : List Record) (o : Option RecordSet) → fold_list (step_at q) o (filter p rs) ≡ o
  refused_all p h [] o = refl
  refused_all p h (r ∷ rs) o = by (p r) (ties q r) refl refl (refused_all p h rs o)
    where
      by : (a b : Bool) → p r ≡ a → ties q r ≡ b → fold_list (step_at q) o (filter p rs) ≡ o → fold_list (step_at q) o (cond a (r ∷ filter p rs) (filter p rs)) ≡ o
      by true true x y same = absurd (true≢false (sym x ∙ h r y))
      by true false x y same = ap (λ z. fold_list (step_at q) z (filter p rs)) (untied r o y) ∙ same
      by false b x y same = same

  tested : (p : Record → Bool) (c : Bool) → ((r : Record) → ties q r ≡ true → p r ≡ c) → (rs : List Record) (o : Option RecordSet) → fold_list (step_at q) o (filter p rs) ≡ cond c (fold_list (step_at q) o rs) o
  tested p true h = accepted_all p h
  tested p false h = refused_all p h

  -- what the records of the whole file make of the key
  abbrev whole : Option RecordSet
  whole = fold_list (step_at q) None f.accepted

  abbrev empty : Version
  empty = record { apex = f.apex; class = f.class; sets = [] }

  found : (p : Record → Bool) (c : Bool) → ((r : Record) → ties q r ≡ true → p r ≡ c) → set_in (fold_list opened_with empty (filter p f.accepted)).sets q ≡ cond c whole None
  found p c h = ap (λ (sets : Sets). set_in sets q) (sets_after (filter p f.accepted) empty) ∙ found_after q (filter p f.accepted) [] ∙ tested p c h f.accepted None

  pub of_kind : (kind : Kind) → set_in (sets_of f kind) q ≡ cond (same_kind (kind_of f probe) kind) whole None
  of_kind kind = found (λ r. same_kind (kind_of f r) kind) (same_kind (kind_of f probe) kind) (λ r h. ap (λ k. same_kind k kind) (alike_kinds r h))

  pub of_opened : set_in (opened f).sets q ≡ cond (under q.0 f.apex) whole None
  of_opened = found (λ r. under r.owner f.apex) (under q.0 f.apex) alike_zones

-- ---- the sets put together

pub kept_ordered : (f : ZoneFile) (kind : Kind) → IsOrdered (sets_of f kind)
kept_ordered f kind =
    let rs = filter (λ r. same_kind (kind_of f r) kind) f.accepted in
    subst IsOrdered (sym (sets_after rs (record { apex = f.apex; class = f.class; sets = [] }))) (records_ordered rs [] none_ordered)

opened_ordered : (f : ZoneFile) → IsOrdered (opened f).sets
opened_ordered f =
    let rs = filter (λ r. under r.owner f.apex) f.accepted in
    subst IsOrdered (sym (sets_after rs (record { apex = f.apex; class = f.class; sets = [] }))) (records_ordered rs [] none_ordered)

joined_ordered : (f : ZoneFile) → IsOrdered (joined (kept f))
joined_ordered f =
    let normal = kept_ordered f Normal in
    let cuts = kept_ordered f Cut in
    let aliases = kept_ordered f Alias in
    put_all_ordered (sets_of f Alias) (put_all (sets_of f Normal) (sets_of f Cut)) aliases.1 (put_all_ordered (sets_of f Cut) (sets_of f Normal) cuts.1 normal)

joined_at : (f : ZoneFile) (q : Key) → set_in (joined (kept f)) q ≡ set_in (opened f).sets q
joined_at f q =
    put_all_at q (sets_of f Alias) (put_all (sets_of f Normal) (sets_of f Cut)) (kept_ordered f Alias).0
    ∙ ap (option_or (set_in (sets_of f Alias) q)) (put_all_at q (sets_of f Cut) (sets_of f Normal) (kept_ordered f Cut).0)
    ∙ (λ i. option_or (of_kind f q Alias i) (option_or (of_kind f q Cut i) (of_kind f q Normal i)))
    ∙ by (under q.0 f.apex) (((q.1 == type_ns) || (q.1 == type_ds)) && not (same_name q.0 f.apex)) (q.1 == type_cname) (whole f q) ∙ sym (of_opened f q)
  where
    or_none : (o : Option RecordSet) → option_or o None ≡ o
    or_none None = refl
    or_none (Some s) = refl

    by : (u c a : Bool) (w : Option RecordSet)
        → option_or (cond (same_kind (if not u then Outside else if c then Cut else if a then Alias else Normal) Alias) w None)
        (option_or (cond (same_kind (if not u then Outside else if c then Cut else if a then Alias else Normal) Cut) w None) (cond (same_kind (if not u then Outside else if c then Cut else if a then Alias else Normal) Normal) w None))
        ≡ cond u w None
    by false c a w = refl
    by true true a w = or_none w
    by true false true w = or_none w
    by true false false w = refl

-- the sets held of a file, put together, are those that it opens with
pub joined_is_opened : (f : ZoneFile) → joined (kept f) ≡ (opened f).sets
joined_is_opened f = same_found (joined (kept f)) (opened f).sets (joined_ordered f) (opened_ordered f) (joined_at f)
