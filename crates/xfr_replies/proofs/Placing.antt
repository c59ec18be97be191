-- Where a text begins and goes on: the first record that is found of it.
use Rattle.std.proofs.Common.{◌≡◌, ℕ, ◌<◌, ◌≤◌, ◌+◌, ◌==◌, zero, suc, Bool, true, false, cond, not, List, [], ◌∷◌, ◌++◌, filter, drop, length, refl, sym, ap, ◌∙◌, subst, true≢false, Option, Some, None, is_some, eqb-true, arith}
use Rattle.std.specs.Prelude.{IfSome, flat_map, option_map, slice_get}
use Rattle.std.specs.Option.{option_map_or}
use Rattle.std.proofs.lemmas.List.{append_assoc, append-nil, length-map}
use Rattle.dns_name.specs.Names.{Name, fold}
use Rattle.dns_numbers.specs.Codes.{type_soa}
use Rattle.dns_name.specs.Records.{Record}
use Rattle.zone_model.specs.Version.{RecordSet, Key, Sets, Version, set_in}
use Rattle.zone_model.specs.Answer.{records_of, records_of_option, apex_soa_record}
use Rattle.zone_model.specs.Walk.{Stop, shown_owner}
use Rattle.zone_model.specs.Difference.{Difference}
use Rattle.zone_model.specs.Offer.{whole_text, changes_text, is_apex_soa, side_soas, side_records}
use Rattle.zone_model.specs.TransferText.{is_plain}
use Rattle.zone_values.specs.TypedSets.{TypedSet}
use Rattle.zone_values.specs.TypedEntries.{typed}
use Rattle.xfr_replies.specs.Sides.{behind, shown_records, middle_of, side_text, sides_of, sides_from, first_side}
use Rattle.xfr_replies.specs.Places.{Begins, IsPlace, KeepsItsSet, place_records, sides_text, text_behind, text_from, text_left}
use Rattle.xfr_replies.specs.Steps.{FindsFrom, Heads, HeadsAt, SkipsSoas, SkipsApexSoa, is_soa_stop, soa_place}
use Rattle.xfr_replies.specs.declared.place.Side.{Side}
use Rattle.xfr_replies.specs.declared.place.Part.{Part}
use Rattle.xfr_replies.specs.declared.place.Part.TheVariants.{BeforeZone, Zone, BeforeChanges, SideSoas, SideSets, Last}
use Rattle.xfr_replies.specs.declared.place.Place.{Place}
use Rattle.xfr_replies.proofs.Texts.{set_passes, set_fails, whole_by_parts, changes_by_parts}
use Rattle.xfr_replies.proofs.Stops.{shown_set, shown_behind}

-- ---- lists

pub no_records : {X : Type 0} (xs : List X) → (length xs == 0) ≡ true → xs ≡ []
no_records [] h = refl
no_records (x ∷ xs) h = absurd (omega (arith, eqb-true (length (x ∷ xs)) 0 h))

some_records : {X : Type 0} (xs : List X) → (length xs == 0) ≡ false → 0 < length xs
some_records [] h = cc
some_records (x ∷ xs) h = omega arith

pub some_inj : {X : Type 0} (x y : X) → Some x ≡ Some y → x ≡ y
some_inj x y e = cc

-- a place that begins one text begins another that is the same
pub begins_as : (v : Version) (ds : List Difference) (text other : List Record) (p : Option Place) → text ≡ other → Begins v ds text p → Begins v ds other p
begins_as v ds text other p e b = record { is_place = b.is_place; left = b.left ∙ e }

-- the first record of a set, with what stands behind the set
first_kept_of : (v : Version) (ds : List Difference) (part : Part) (owner : Name) (rtype : ℕ) (set : Option TypedSet) (rs behind text : List Record)
    → KeepsItsSet v ds (record { part = part; owner = owner; rtype = rtype; index = 0; set = set })
    → place_records v ds (record { part = part; owner = owner; rtype = rtype; index = 0; set = set }) ≡ rs → 0 < length rs → text_behind v ds part owner rtype ≡ behind → rs ++ behind ≡ text
    → Begins v ds text (Some (record { part = part; owner = owner; rtype = rtype; index = 0; set = set }))
first_kept_of v ds part owner rtype set rs behind text keeps is some after whole =
    record { is_place = (subst (λ (n : ℕ). 0 < n) (sym (ap length is)) some, keeps); left = (λ i. is i ++ after i) ∙ whole }

first_record_of : (v : Version) (ds : List Difference) (part : Part) (owner : Name) (rtype : ℕ) (rs behind text : List Record)
    → place_records v ds (record { part = part; owner = owner; rtype = rtype; index = 0; set = None }) ≡ rs → 0 < length rs → text_behind v ds part owner rtype ≡ behind → rs ++ behind ≡ text
    → Begins v ds text (Some (record { part = part; owner = owner; rtype = rtype; index = 0; set = None }))
first_record_of v ds part owner rtype rs behind text is some after whole = first_kept_of v ds part owner rtype None rs behind text tt is some after whole

-- ---- the zone's SOA record

soa_at : (v : Version) (part : Part) (p : Place) → Some p ≡ soa_place v part
    → (p ≡ record { part = part; owner = v.apex; rtype = type_soa; index = 0; set = None }) × (0 < length (apex_soa_record v))
soa_at v part p e = by (length (apex_soa_record v) == 0) refl e
  where
    by : (b : Bool) → (length (apex_soa_record v) == 0) ≡ b → Some p ≡ cond b None (Some (record { part = part; owner = v.apex; rtype = type_soa; index = 0; set = None }))
        → (p ≡ record { part = part; owner = v.apex; rtype = type_soa; index = 0; set = None }) × (0 < length (apex_soa_record v))
    by true h f = absurd (true≢false (ap is_some f))
    by false h f = (some_inj p _ f, some_records (apex_soa_record v) h)

soa_missing : (v : Version) (part : Part) → ◌≡◌ {A = Option Place} None (soa_place v part) → apex_soa_record v ≡ []
soa_missing v part e = by (length (apex_soa_record v) == 0) refl e
  where
    by : (b : Bool) → (length (apex_soa_record v) == 0) ≡ b → ◌≡◌ {A = Option Place} None (cond b None (Some (record { part = part; owner = v.apex; rtype = type_soa; index = 0; set = None }))) → apex_soa_record v ≡ []
    by true h f = no_records (apex_soa_record v) h
    by false h f = absurd (true≢false (sym (ap is_some f)))

pub begins_last : (v : Version) (ds : List Difference) (p : Option Place) → p ≡ soa_place v Last → Begins v ds (apex_soa_record v) p
begins_last v ds None e = record { is_place = tt; left = sym (soa_missing v Last e) }
begins_last v ds (Some p) e =
    let at = soa_at v Last p e in
    let P : Place → Type 0 = λ q. Begins v ds (apex_soa_record v) (Some q) in
    subst P (sym at.0) (first_record_of v ds Last v.apex type_soa (apex_soa_record v) [] (apex_soa_record v) refl at.1 refl (append-nil (apex_soa_record v)))

pub whole_at_soa : (v : Version) (ds : List Difference) (p : Place) → Some p ≡ soa_place v BeforeZone → Begins v ds (whole_text v) (Some p)
whole_at_soa v ds p e =
    let at = soa_at v BeforeZone p e in
    let P : Place → Type 0 = λ q. Begins v ds (whole_text v) (Some q) in
    subst P (sym at.0) (first_record_of v ds BeforeZone v.apex type_soa (apex_soa_record v) (middle_of v v.sets ++ apex_soa_record v) (whole_text v) refl at.1 refl (whole_by_parts v))

pub whole_without_soa : (v : Version) (ds : List Difference) (p : Option Place) → ◌≡◌ {A = Option Place} None (soa_place v BeforeZone)
    → Begins v ds (middle_of v v.sets ++ apex_soa_record v) p → Begins v ds (whole_text v) p
whole_without_soa v ds p none b =
    begins_as v ds (middle_of v v.sets ++ apex_soa_record v) (whole_text v) p (ap (λ rs. rs ++ (middle_of v v.sets ++ apex_soa_record v)) (sym (soa_missing v BeforeZone none)) ∙ whole_by_parts v) b

pub changes_at_soa : (v : Version) (ds : List Difference) (p : Place) → Some p ≡ soa_place v BeforeChanges → Begins v ds (changes_text v ds) (Some p)
changes_at_soa v ds p e =
    let at = soa_at v BeforeChanges p e in
    let P : Place → Type 0 = λ q. Begins v ds (changes_text v ds) (Some q) in
    subst P (sym at.0) (first_record_of v ds BeforeChanges v.apex type_soa (apex_soa_record v) (sides_text v (sides_of ds)) (changes_text v ds) refl at.1 refl (changes_by_parts v ds))

pub changes_without_soa : (v : Version) (ds : List Difference) (sides : List Sets) (p : Option Place) → ◌≡◌ {A = Option Place} None (soa_place v BeforeChanges) → sides ≡ sides_of ds
    → Begins v ds (sides_text v sides) p → Begins v ds (changes_text v ds) p
changes_without_soa v ds sides p none first b =
    begins_as v ds (sides_text v sides) (changes_text v ds) p
    (ap (sides_text v) first ∙ ap (λ rs. rs ++ sides_text v (sides_of ds)) (sym (soa_missing v BeforeChanges none)) ∙ changes_by_parts v ds) b

-- ---- the zone

-- the records of a stop's set, and those behind it
stop_passes : (v : Version) (rest : Sets) (s : Stop) (h : HeadsAt v rest (Some s)) → is_soa_stop v s ≡ false
    → middle_of v rest ≡ records_of s.owner s.rtype v.class h.0.0 ++ middle_of v (behind (fold s.owner, s.rtype) v.sets)
stop_passes v rest s h other =
    let after : Sets = behind (fold s.owner, s.rtype) v.sets in
    let p : Record → Bool = λ r. not (is_apex_soa v r) in
    ap (middle_of v) h.0.1
    ∙ ap (λ n. filter p (records_of n s.rtype v.class h.0.0 ++ shown_records v after)) h.1
    ∙ set_passes p s.owner s.rtype v.class h.0.0 (shown_records v after) (λ d. ap not other)

pub stop_skipped : (v : Version) (rest : Sets) (s : Stop) → HeadsAt v rest (Some s) → is_soa_stop v s ≡ true → middle_of v (behind (fold s.owner, s.rtype) v.sets) ≡ middle_of v rest
stop_skipped v rest s h soa =
    let after : Sets = behind (fold s.owner, s.rtype) v.sets in
    let p : Record → Bool = λ r. not (is_apex_soa v r) in
    sym (ap (middle_of v) h.0.1 ∙ ap (λ n. filter p (records_of n s.rtype v.class h.0.0 ++ shown_records v after)) h.1
    ∙ set_fails p s.owner s.rtype v.class h.0.0 (shown_records v after) (λ d. ap not soa))

keeps_stop : (v : Version) (ds : List Difference) (rest : Sets) (s : Stop) (kept : Option TypedSet) → HeadsAt v rest (Some s) → IfSome kept (λ set. set ≡ typed s.rtype s.contents)
    → KeepsItsSet v ds (record { part = Zone; owner = s.owner; rtype = s.rtype; index = 0; set = kept })
keeps_stop v ds rest s None h is = tt
keeps_stop v ds rest s (Some set) h is = ap Some is ∙ sym (ap (option_map (typed s.rtype)) h.2)

pub zone_at_stop : (v : Version) (ds : List Difference) (rest : Sets) (s : Stop) (kept : Option TypedSet) → SkipsApexSoa v rest (Some s) → IfSome kept (λ set. set ≡ typed s.rtype s.contents)
    → Begins v ds (middle_of v rest ++ apex_soa_record v) (Some (record { part = Zone; owner = s.owner; rtype = s.rtype; index = 0; set = kept }))
zone_at_stop v ds rest s kept skips is =
    let set = skips.heads.0.0 in
    let after : List Record = middle_of v (behind (fold s.owner, s.rtype) v.sets) ++ apex_soa_record v in
    first_kept_of v ds Zone s.owner s.rtype kept (records_of s.owner s.rtype v.class set) after (middle_of v rest ++ apex_soa_record v)
    (keeps_stop v ds skips.left s kept skips.heads is)
    (ap (records_of_option s.owner s.rtype v.class) skips.heads.0.2)
    (subst (λ (n : ℕ). 0 < n) (sym (length-map set.items _)) skips.heads.0.3)
    refl
    (sym (append_assoc (records_of s.owner s.rtype v.class set) (middle_of v (behind (fold s.owner, s.rtype) v.sets)) (apex_soa_record v))
    ∙ ap (λ rs. rs ++ apex_soa_record v) (sym (stop_passes v skips.left s skips.heads skips.other) ∙ skips.same))

pub zone_at_last : (v : Version) (ds : List Difference) (rest : Sets) (p : Option Place) → SkipsApexSoa v rest None → Begins v ds (apex_soa_record v) p
    → Begins v ds (middle_of v rest ++ apex_soa_record v) p
zone_at_last v ds rest p skips b =
    begins_as v ds (apex_soa_record v) (middle_of v rest ++ apex_soa_record v) p (ap (λ rs. rs ++ apex_soa_record v) (sym (ap (middle_of v) skips.heads) ∙ skips.same)) b

-- ---- the sides

-- the records of a key's set that isn't of SOA records, and those behind it
key_passes : (v : Version) (sets rest : Sets) (k : Key) (h : Heads sets rest (Some k)) → (k.1 == type_soa) ≡ false
    → side_records v rest ≡ records_of (shown_owner v k.0) k.1 v.class h.0 ++ side_records v (behind k sets)
key_passes v sets rest k h plain =
    ap (side_records v) h.1 ∙ set_passes is_plain (shown_owner v k.0) k.1 v.class h.0 (shown_records v (behind k sets)) (λ d. ap not plain)

pub key_skipped : (v : Version) (sets rest : Sets) (k : Key) → Heads sets rest (Some k) → (k.1 == type_soa) ≡ true → side_records v (behind k sets) ≡ side_records v rest
key_skipped v sets rest k h soa =
    sym (ap (side_records v) h.1 ∙ set_fails is_plain (shown_owner v k.0) k.1 v.class h.0 (shown_records v (behind k sets)) (λ d. ap not soa))

pub side_at_key : (v : Version) (ds : List Difference) (side : Side) (sets rest : Sets) (more : List Sets) (k : Key) → sides_from ds side ≡ sets ∷ more → SkipsSoas sets rest (Some k)
    → Begins v ds (side_records v rest ++ sides_text v more) (Some (record { part = SideSets side; owner = shown_owner v k.0; rtype = k.1; index = 0; set = None }))
side_at_key v ds side sets rest more k at skips =
    let set = skips.heads.0 in
    let owner : Name = shown_owner v k.0 in
    let key : Key = (fold owner, k.1) in
    first_record_of v ds (SideSets side) owner k.1 (records_of owner k.1 v.class set) (side_records v (behind k sets) ++ sides_text v more) (side_records v rest ++ sides_text v more)
    (ap (records_of_option owner k.1 v.class) (ap (λ (l : List Sets). set_in (first_side l) key) at ∙ shown_set v k.0 k.1 sets ∙ skips.heads.2))
    (subst (λ (n : ℕ). 0 < n) (sym (length-map set.items _)) skips.heads.3)
    (ap (λ (l : List Sets). side_records v (behind key (first_side l)) ++ sides_text v (drop 1 l)) at ∙ ap (λ (l : Sets). side_records v l ++ sides_text v more) (shown_behind v k.0 k.1 sets))
    (sym (append_assoc (records_of owner k.1 v.class set) (side_records v (behind k sets)) (sides_text v more))
    ∙ ap (λ rs. rs ++ sides_text v more) (sym (key_passes v sets skips.left k skips.heads skips.plain) ∙ skips.same v))

pub no_key : (v : Version) (sets rest : Sets) → SkipsSoas sets rest None → side_records v rest ≡ []
no_key v sets rest skips = sym (skips.same v) ∙ ap (side_records v) skips.heads

soas_as_option : (v : Version) (o : Option RecordSet) → records_of_option v.apex type_soa v.class o ≡ option_map_or (records_of v.apex type_soa v.class) o []
soas_as_option v None = refl
soas_as_option v (Some s) = refl

pub side_at_soas : (v : Version) (ds : List Difference) (side : Side) (sets : Sets) (more : List Sets) → sides_from ds side ≡ sets ∷ more → (length (side_soas v sets) == 0) ≡ false
    → Begins v ds (side_text v sets ++ sides_text v more) (Some (record { part = SideSoas side; owner = v.apex; rtype = type_soa; index = 0; set = None }))
side_at_soas v ds side sets more at some =
    first_record_of v ds (SideSoas side) v.apex type_soa (side_soas v sets) (side_records v sets ++ sides_text v more) (side_text v sets ++ sides_text v more)
    (ap (λ (l : List Sets). records_of_option v.apex type_soa v.class (set_in (first_side l) (fold v.apex, type_soa))) at ∙ soas_as_option v (set_in sets (fold v.apex, type_soa)))
    (some_records (side_soas v sets) some)
    (ap (λ (l : List Sets). side_records v (first_side l) ++ sides_text v (drop 1 l)) at)
    (sym (append_assoc (side_soas v sets) (side_records v sets) (sides_text v more)))

-- a side without SOA records of the apex
pub side_without_soas : (v : Version) (ds : List Difference) (sets : Sets) (rest : List Record) (p : Option Place) → (length (side_soas v sets) == 0) ≡ true
    → FindsFrom v ds (side_records v sets) rest p → FindsFrom v ds (side_text v sets) rest p
side_without_soas v ds sets rest p none f =
    let P : List Record → Type 0 = λ rs. FindsFrom v ds (rs ++ side_records v sets) rest p in
    subst P (sym (no_records (side_soas v sets) none)) f

-- ---- sides in a row

pub first_of_sides : (sides : List Sets) (sets : Sets) → Some sets ≡ slice_get sides 0 → sides ≡ sets ∷ drop 1 sides
first_of_sides [] sets e = absurd (true≢false (ap is_some e))
first_of_sides (s ∷ sides) sets e = ap (λ (x : Sets). x ∷ sides) (sym (some_inj sets s e))

pub no_sides : (sides : List Sets) → ◌≡◌ {A = Option Sets} None (slice_get sides 0) → sides ≡ []
no_sides [] e = refl
no_sides (s ∷ sides) e = absurd (true≢false (sym (ap is_some e)))

sides_split : (v : Version) (sets : Sets) (more : List Sets) → side_text v sets ++ sides_text v more ≡ sides_text v (sets ∷ more)
sides_split v sets more = sym (append_assoc (side_text v sets) (flat_map (side_text v) more) (apex_soa_record v))

pub sides_at_side : (v : Version) (ds : List Difference) (sides more : List Sets) (sets : Sets) (p : Place) → sides ≡ sets ∷ more
    → FindsFrom v ds (side_text v sets) (sides_text v more) (Some p) → Begins v ds (sides_text v sides) (Some p)
sides_at_side v ds sides more sets p at f =
    begins_as v ds (side_text v sets ++ sides_text v more) (sides_text v sides) (Some p) (sides_split v sets more ∙ ap (sides_text v) (sym at)) f

pub side_empty : (v : Version) (sides more : List Sets) (sets : Sets) → sides ≡ sets ∷ more → side_text v sets ≡ [] → sides_text v more ≡ sides_text v sides
side_empty v sides more sets at none = ap (λ rs. rs ++ sides_text v more) (sym none) ∙ sides_split v sets more ∙ ap (sides_text v) (sym at)

-- ---- the rest of a side, seen by a text of its sets, and the sides behind it

pub rest_at_place : (v : Version) (ds : List Difference) (f : Sets → List Record) (sides : List Sets) (sets : Sets) (p : Option Place) → sides ≡ sets ∷ drop 1 sides
    → Begins v ds (f sets ++ sides_text v (drop 1 sides)) p → Begins v ds (f (first_side sides) ++ sides_text v (drop 1 sides)) p
rest_at_place v ds f sides sets p at b =
    begins_as v ds (f sets ++ sides_text v (drop 1 sides)) (f (first_side sides) ++ sides_text v (drop 1 sides)) p
    (ap (λ (l : List Sets). f (first_side l) ++ sides_text v (drop 1 sides)) (sym at)) b

pub rest_empty : (v : Version) (ds : List Difference) (f : Sets → List Record) (sides next : List Sets) (sets : Sets) (p : Option Place) → sides ≡ sets ∷ drop 1 sides → f sets ≡ []
    → next ≡ drop 1 sides → Begins v ds (sides_text v next) p → Begins v ds (f (first_side sides) ++ sides_text v (drop 1 sides)) p
rest_empty v ds f sides next sets p at none is b =
    rest_at_place v ds f sides sets p at
    (begins_as v ds (sides_text v next) (f sets ++ sides_text v (drop 1 sides)) p (ap (sides_text v) is ∙ ap (λ rs. rs ++ sides_text v (drop 1 sides)) (sym none)) b)

pub rest_missing : (v : Version) (ds : List Difference) (f : Sets → List Record) (sides : List Sets) (p : Option Place) → f [] ≡ [] → sides ≡ [] → Begins v ds (apex_soa_record v) p
    → Begins v ds (f (first_side sides) ++ sides_text v (drop 1 sides)) p
rest_missing v ds f sides p empty none b =
    begins_as v ds (apex_soa_record v) (f (first_side sides) ++ sides_text v (drop 1 sides)) p
    (ap (λ rs. rs ++ apex_soa_record v) (sym empty) ∙ ap (λ (l : List Sets). f (first_side l) ++ sides_text v (drop 1 l)) (sym none)) b

-- ---- the next of a place

past_first : {X : Type 0} (xs ys : List X) (n : ℕ) → n < length xs → drop 1 (drop n xs ++ ys) ≡ drop (suc n) xs ++ ys
past_first [] ys n h = absurd (omega (arith, h))
past_first (x ∷ xs) ys zero h = refl
past_first (x ∷ xs) ys (suc n) h = past_first xs ys n (omega (arith, h))

pub next_in_set : (v : Version) (ds : List Difference) (p : Place) → IsPlace v ds (Some p) → p.index + 1 < length (place_records v ds p)
    → Begins v ds (drop 1 (text_from v ds p)) (Some (record p { index = p.index + 1 }))
next_in_set v ds p h more =
    let rs = place_records v ds p in
    let behind_set = text_behind v ds p.part p.owner p.rtype in
    let one : suc p.index ≡ p.index + 1 = omega arith in
    record { is_place = (more, h.1); left = sym (past_first rs behind_set p.index h.0 ∙ ap (λ (m : ℕ). drop m rs ++ behind_set) one) }

past_set : {X : Type 0} (xs ys : List X) (n : ℕ) → n < length xs → length xs ≤ n + 1 → drop 1 (drop n xs ++ ys) ≡ ys
past_set [] ys n h e = absurd (omega (arith, h))
past_set (x ∷ []) ys zero h e = refl
past_set (x ∷ y ∷ xs) ys zero h e = absurd (omega (arith, e))
past_set (x ∷ xs) ys (suc n) h e = past_set xs ys n (omega (arith, h)) (omega (arith, e))

-- what stands behind a set is left past its last record
pub behind_last : (v : Version) (ds : List Difference) (p : Place) → IsPlace v ds (Some p) → length (place_records v ds p) ≤ p.index + 1
    → text_behind v ds p.part p.owner p.rtype ≡ drop 1 (text_from v ds p)
behind_last v ds p h last = sym (past_set (place_records v ds p) (text_behind v ds p.part p.owner p.rtype) p.index h.0 last)

pub next_behind_set : (v : Version) (ds : List Difference) (p : Place) (o : Option Place) → IsPlace v ds (Some p) → length (place_records v ds p) ≤ p.index + 1
    → Begins v ds (text_behind v ds p.part p.owner p.rtype) o → Begins v ds (drop 1 (text_from v ds p)) o
next_behind_set v ds p o h last b = begins_as v ds (text_behind v ds p.part p.owner p.rtype) (drop 1 (text_from v ds p)) o (behind_last v ds p h last) b

-- .. of a place that was looked at and left as it was
pub next_behind_place : (v : Version) (ds : List Difference) (at : Option Place) (p same : Place) (o : Option Place) → at ≡ Some p → IsPlace v ds at → same ≡ p
    → length (place_records v ds p) ≤ p.index + 1 → Begins v ds (text_behind v ds same.part same.owner same.rtype) o → Begins v ds (drop 1 (text_left v ds at)) o
next_behind_place v ds at p same o is place e last b =
    subst (λ (a : Option Place). Begins v ds (drop 1 (text_left v ds a)) o) (sym is)
    (next_behind_set v ds p o (subst (IsPlace v ds) is place) last (subst (λ (q : Place). Begins v ds (text_behind v ds q.part q.owner q.rtype) o) e b))
