-- An edit of a draft at keys that were noted before: done or refused, the keys cover what the draft and its base differ in.
use Rattle.std.proofs.Common.{◌≡◌, ℕ, ◌+◌, ◌%◌, ◌^◌, ◌==◌, length, Bool, true, false, not, ◌||◌, if◌then◌else◌, List, [], ◌∷◌, refl, sym, ap, ◌∙◌, subst, Option, Some, None, option_map, Result, Ok, Err, OnOk, OnErr}
use Rattle.dns_name.specs.Names.{Name, fold, under}
use Rattle.dns_numbers.specs.Codes.{type_ns, type_cname, type_soa, type_ds}
use Rattle.dns_rdata.specs.Records.{Field, Record}
use Rattle.dns_rdata.specs.Soa.{serial_of, with_serial}
use Rattle.std.specs.BTreeMap.{insert_entry}
use Rattle.zone_model.specs.Version.{RecordSet, Key, Sets, Version, key_cmp}
use Rattle.zone_model.specs.Edits.{OutOfZone, Incompatible, InvalidData, with_sets, put_set, remove_set, has_data, second_alias, add, add_glue, first_soa, is_news, bump_from, bump}
use Rattle.zone_versions.specs.Nodes.{is_address_in, with_glue}
use Rattle.zone_versions.specs.Puts.{StandsAt, appended}
use Rattle.zone_changes.specs.Touched.{is_touched, noted, Covers, CoversIn, noted_in}
use Rattle.zone_changes.specs.Drafts.{without_special, BeganAs}
use Rattle.zone_changes.proofs.Noting.{noted_itself, keeps_all, keeps_noted}
use Rattle.zone_changes.proofs.Covering.{covers_noted, covers_put_set, covers_remove_set}

-- what follows for keys follows where keys are kept
pub covers_in : (f : List Key → List Key) (kept : Option (List Key)) (a b c d : Sets) → ((keys : List Key) → Covers keys a b → Covers (f keys) c d) → CoversIn kept a b → CoversIn (option_map f kept) c d
covers_in f None a b c d g h = tt
covers_in f (Some keys) a b c d g h = g keys h

pub covers_noted_in : (kept : Option (List Key)) (k : Key) (a b : Sets) → CoversIn kept a b → CoversIn (noted_in kept k) a b
covers_noted_in kept k a b h = covers_in (λ keys. noted keys k) kept a b a b (λ keys g. covers_noted keys k a b g) h

-- the same sets by other names
pub covers_is : (kept now : Option (List Key)) (base : Sets) (v w : Version) → now ≡ kept → w ≡ v → CoversIn kept base v.sets → CoversIn now base w.sets
covers_is kept now base v w n e h = subst (λ (l : Option (List Key)). CoversIn l base w.sets) (sym n) (subst (λ (x : Version). CoversIn kept base x.sets) (sym e) h)

-- done, it is covered; refused, the version is as before
pub covers_either : {T E : Type 0} (r : Result T E) (kept now : Option (List Key)) (base : Sets) (v w x : Version) → now ≡ kept → OnOk r (w ≡ x) → OnErr r (w ≡ v)
    → CoversIn kept base x.sets → CoversIn kept base v.sets → CoversIn now base w.sets
covers_either (Ok t) kept now base v w x n ok err done old = covers_is kept now base x w n ok done
covers_either (Err e) kept now base v w x n ok err done old = covers_is kept now base v w n err old

-- an edit at one noted key
pub covers_edit : {T E : Type 0} (r : Result T E) (kept now : Option (List Key)) (k place : Key) (base : Sets) (v w x : Version) → k ≡ place → now ≡ noted_in kept k → OnOk r (w ≡ x) → OnErr r (w ≡ v)
    → ((all : List Key) → is_touched all place ≡ true → Covers all base v.sets → Covers all base x.sets) → CoversIn kept base v.sets → CoversIn now base w.sets
covers_edit r kept now k place base v w x is note ok err edit h =
    covers_either r (noted_in kept place) now base v w x (note ∙ ap (noted_in kept) is) ok err
    (covers_in (λ keys. noted keys place) kept base v.sets base x.sets (λ keys g. edit (noted keys place) (noted_itself keys place) (covers_noted keys place base v.sets g)) h)
    (covers_noted_in kept place base v.sets h)

-- the edits
pub covers_put : (all : List Key) (base : Sets) (v : Version) (owner : Name) (rtype : ℕ) (s : RecordSet) → is_touched all (fold owner, rtype) ≡ true → Covers all base v.sets → Covers all base (put_set v owner rtype s).sets
covers_put all base v owner rtype s t h = covers_put_set all base v owner rtype s t h

-- data added at a noted key
added_is : (v w : Version) (r : Record) → add v r ≡ Ok w → w ≡ appended v r
added_is v w r e = by (under r.owner v.apex) (has_data v r) (second_alias v r) e
  where
    by : (u d s : Bool) → (if not u then Err OutOfZone else if d then Err Incompatible else if s then Err InvalidData else Ok (appended v r)) ≡ Ok w → w ≡ appended v r
    by false d s g = absurd (cc)
    by true true s g = absurd (cc)
    by true false true g = absurd (cc)
    by true false false g = cc

-- a record that stands at a key
abbrev standing : Key → ℕ → List Field → Record
standing k ttl fields = record { owner = k.0; rtype = k.1; class = 0; ttl = ttl; fields = fields }

pub added_covers : {T E : Type 0} (r : Result T E) (k : Key) (ttl : ℕ) (fields : List Field) (v w : Version) → OnOk r (fold k.0 ≡ k.0) → ((q : Record) → StandsAt k ttl fields q → OnOk r (add v q ≡ Ok w)) → OnErr r (w ≡ v)
    → (keys : List Key) (base : Sets) → is_touched keys k ≡ true → Covers keys base v.sets → Covers keys base w.sets
added_covers (Ok o) k ttl fields v w folded done err keys base t h =
    let q : Record = standing k ttl fields in
    let place : (fold k.0, k.1) ≡ k = λ i. (folded i, k.1) in
    subst (λ (x : Version). Covers keys base x.sets) (sym (added_is v w q (done q (place, refl, refl)))) (covers_put keys base v k.0 k.1 _ (ap (is_touched keys) place ∙ t) h)
added_covers (Err e) k ttl fields v w folded done err keys base t h = subst (λ (x : Version). Covers keys base x.sets) (sym err) h

-- the same edit where keys are kept
pub covers_added : (kept now : Option (List Key)) (k : Key) (a b c : Sets) → now ≡ noted_in kept k → ((keys : List Key) (base : Sets) → is_touched keys k ≡ true → Covers keys base b → Covers keys base c)
    → CoversIn kept a b → CoversIn now a c
covers_added kept now k a b c note edit h =
    subst (λ (l : Option (List Key)). CoversIn l a c) (sym note)
    (covers_in (λ keys. noted keys k) kept a b a c (λ keys g. edit (noted keys k) a (noted_itself keys k) (covers_noted keys k a b g)) h)

pub covers_glue : (all : List Key) (base : Sets) (v : Version) (r : Record) → is_touched all (fold r.owner, r.rtype) ≡ true → Covers all base v.sets → Covers all base (add_glue v r).sets
covers_glue all base v r t h = by (not (is_address_in v r) || has_data v r)
  where
    by : (b : Bool) → Covers all base (if b then v else with_glue v r).sets
    by true = h
    by false = covers_put_set all base v r.owner r.rtype _ t h

pub covers_bump : (all : List Key) (base : Sets) (p v : Version) → is_touched all (fold v.apex, type_soa) ≡ true → Covers all base v.sets → Covers all base (bump p v).sets
covers_bump all base p v t h = by (first_soa p)
  where
    by : (old : Option (ℕ × List Field)) → Covers all base (bump_from v old).sets
    by None = h
    by (Some old) = case (is_news (first_soa v) old)
      where
        case : (b : Bool) → Covers all base (if b then v else put_set v v.apex type_soa (record { ttl = old.0; items = with_serial ((serial_of old.1 + 1) % 2 ^ 32) old.1 ∷ [] })).sets
        case true = h
        case false = covers_put_set all base v v.apex type_soa (record { ttl = old.0; items = with_serial ((serial_of old.1 + 1) % 2 ^ 32) old.1 ∷ [] }) t h

-- the three keys of a node that is made a plain one
abbrev pub special : List Key → Name → List Key
special keys n = noted (noted (noted keys (fold n, type_ns)) (fold n, type_ds)) (fold n, type_cname)

abbrev pub special_in : Option (List Key) → Name → Option (List Key)
special_in kept n = option_map (λ keys. special keys n) kept

special_both : (kept : Option (List Key)) (n : Name) → noted_in (noted_in (noted_in kept (fold n, type_ns)) (fold n, type_ds)) (fold n, type_cname) ≡ special_in kept n
special_both None n = refl
special_both (Some keys) n = refl

pub special_is : (kept one two now : Option (List Key)) (a b c : Key) (n : Name) → a ≡ (fold n, type_ns) → b ≡ (fold n, type_ds) → c ≡ (fold n, type_cname)
    → one ≡ noted_in kept a → two ≡ noted_in one b → now ≡ noted_in two c → now ≡ special_in kept n
special_is kept one two now a b c n is js ks e f g = g ∙ (λ i. noted_in ((f ∙ (λ j. noted_in ((e ∙ ap (noted_in kept) is) j) (js j))) i) (ks i)) ∙ special_both kept n

pub covers_special_keys : (keys : List Key) (base : Sets) (v : Version) (n : Name) → Covers keys base v.sets → Covers (special keys n) base v.sets
covers_special_keys keys base v n h =
    let one : List Key = noted keys (fold n, type_ns) in
    let two : List Key = noted one (fold n, type_ds) in
    covers_noted two (fold n, type_cname) base v.sets (covers_noted one (fold n, type_ds) base v.sets (covers_noted keys (fold n, type_ns) base v.sets h))

pub covers_special : (keys : List Key) (base : Sets) (v : Version) (n : Name) → Covers keys base v.sets → Covers (special keys n) base (without_special v n).sets
covers_special keys base v n h =
    let one : List Key = noted keys (fold n, type_ns) in
    let two : List Key = noted one (fold n, type_ds) in
    let all : List Key = noted two (fold n, type_cname) in
    let ns : is_touched all (fold n, type_ns) ≡ true = (keeps_noted one two (fold n, type_cname) (keeps_noted one one (fold n, type_ds) (keeps_all one))).still (fold n, type_ns) (noted_itself keys (fold n, type_ns)) in
    let ds : is_touched all (fold n, type_ds) ≡ true = (keeps_noted two two (fold n, type_cname) (keeps_all two)).still (fold n, type_ds) (noted_itself one (fold n, type_ds)) in
    let v1 : Version = remove_set v n type_ns in
    let v2 : Version = remove_set v1 n type_ds in
    covers_remove_set all base v2 n type_cname (noted_itself two (fold n, type_cname))
    (covers_remove_set all base v1 n type_ds ds (covers_remove_set all base v n type_ns ns (covers_special_keys keys base v n h)))

-- ---- the apex stays

pub began_apex : (base v w : Version) → w.apex ≡ v.apex → BeganAs base v → BeganAs base w
began_apex base v w e h = record { valid = h.valid; apex = e ∙ h.apex }

pub began_either : {T E : Type 0} (r : Result T E) (base v w x : Version) → OnOk r (w ≡ x) → OnErr r (w ≡ v) → x.apex ≡ v.apex → BeganAs base v → BeganAs base w
began_either (Ok t) base v w x ok err e h = began_apex base v w (ap (λ (y : Version). y.apex) ok ∙ e) h
began_either (Err t) base v w x ok err e h = began_apex base v w (ap (λ (y : Version). y.apex) err) h

pub put_apex : (v : Version) (owner : Name) (rtype : ℕ) (s : RecordSet) → (put_set v owner rtype s).apex ≡ v.apex
put_apex v owner rtype s = by (length s.items == 0)
  where
    by : (b : Bool) → (if b then remove_set v owner rtype else with_sets v (insert_entry key_cmp v.sets (fold owner, rtype) s)).apex ≡ v.apex
    by true = refl
    by false = refl

pub glue_apex : (v : Version) (r : Record) → (add_glue v r).apex ≡ v.apex
glue_apex v r = by (not (is_address_in v r) || has_data v r)
  where
    by : (b : Bool) → (if b then v else with_glue v r).apex ≡ v.apex
    by true = refl
    by false = put_apex v r.owner r.rtype _

pub bump_apex : (p v : Version) → (bump p v).apex ≡ v.apex
bump_apex p v = by (first_soa p)
  where
    by : (old : Option (ℕ × List Field)) → (bump_from v old).apex ≡ v.apex
    by None = refl
    by (Some old) = case (is_news (first_soa v) old)
      where
        case : (b : Bool) → (if b then v else put_set v v.apex type_soa (record { ttl = old.0; items = with_serial ((serial_of old.1 + 1) % 2 ^ 32) old.1 ∷ [] })).apex ≡ v.apex
        case true = refl
        case false = put_apex v v.apex type_soa (record { ttl = old.0; items = with_serial ((serial_of old.1 + 1) % 2 ^ 32) old.1 ∷ [] })

pub added_apex : {T E : Type 0} (r : Result T E) (k : Key) (ttl : ℕ) (fields : List Field) (v w : Version) → OnOk r (fold k.0 ≡ k.0) → ((q : Record) → StandsAt k ttl fields q → OnOk r (add v q ≡ Ok w)) → OnErr r (w ≡ v)
    → w.apex ≡ v.apex
added_apex (Ok o) k ttl fields v w folded done err =
    let q : Record = standing k ttl fields in
    let place : (fold k.0, k.1) ≡ k = λ i. (folded i, k.1) in
    ap (λ (x : Version). x.apex) (added_is v w q (done q (place, refl, refl))) ∙ put_apex v k.0 k.1 _
added_apex (Err e) k ttl fields v w folded done err = ap (λ (x : Version). x.apex) err
