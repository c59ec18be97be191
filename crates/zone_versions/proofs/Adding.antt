-- What a key and data say of each record that stands there.
use Rattle.std.proofs.Common.{◌≡◌, ℕ, Bool, true, false, ◌&&◌, not, ◌==◌, if◌then◌else◌, List, length, refl, sym, ap, ◌∙◌, subst, Option, Some, None, is_some, option_map, Result, Ok, Err, OnOk, OnErr, eqb-true}
use Rattle.dns_name.specs.Names.{fold, under}
use Rattle.dns_numbers.specs.Codes.{type_cname}
use Rattle.dns_rdata.specs.Records.{Field, Record}
use Rattle.zone_model.specs.Version.{RecordSet, Key, Version, set_in, set_at, below_apex}
use Rattle.zone_model.specs.Edits.{OutOfZone, Incompatible, InvalidData, add, has_data, second_alias, with_sets, put_set}
use Rattle.zone_model.proofs.Folded.{fold-fold, under_alike, same_name_alike}
use Rattle.zone_values.specs.SetEdits.{put_with, last_set}
use Rattle.zone_versions.proofs.Putting.{appended_is, put_some, pushed_some}
use Rattle.zone_values.specs.PutCauses.{has_equal, TellsPut}
use Rattle.zone_values.specs.TypedEntries.{typed, untyped}
use Rattle.zone_values.specs.declared.rrset_edits.PutError.{PutError}
use Rattle.zone_values.specs.TypedSets.{TypedSet}
use Rattle.zone_versions.specs.Sound.{IsSound}
use Rattle.zone_versions.proofs.Sound.{add_sound}
use Rattle.zone_versions.specs.Puts.{StandsAt, appended}

folds_alike : (k : Key) (r : Record) → (fold r.owner, r.rtype) ≡ k → fold k.0 ≡ fold r.owner
folds_alike k r e = sym (ap (λ (l : Key). fold l.0) e) ∙ fold-fold r.owner

under_at : (v : Version) (k : Key) (r : Record) → (fold r.owner, r.rtype) ≡ k → under r.owner v.apex ≡ under k.0 v.apex
under_at v k r e = under_alike r.owner k.0 v.apex v.apex (sym (folds_alike k r e)) refl

below_at : (v : Version) (k : Key) (r : Record) → (fold r.owner, r.rtype) ≡ k → below_apex v r.owner ≡ below_apex v k.0
below_at v k r e = λ i. under_at v k r e i && not (same_name_alike r.owner k.0 v.apex v.apex (sym (folds_alike k r e)) refl i)

-- whether data of a key's type stand alone
abbrev pub alone_at : Version → Key → Bool
alone_at v k = below_apex v k.0 && (k.1 == type_cname)

-- what is asked at a number where it is another one, may be asked at that
at_same : (b : Bool) (n m : ℕ) (f : ℕ → Bool) → ((b && (n == m)) && f m) ≡ ((b && (n == m)) && f n)
at_same b n m f = by b (n == m) refl
  where
    by : (a c : Bool) → (n == m) ≡ c → ((a && c) && f m) ≡ ((a && c) && f n)
    by true true e = ap f (sym (eqb-true n m e))
    by true false e = refl
    by false true e = refl
    by false false e = refl

-- an addition by the tests at the key
added_by : (v : Version) (k : Key) (fields : List Field) (r : Record) (u d s : Bool) → (fold r.owner, r.rtype) ≡ k → r.fields ≡ fields → under k.0 v.apex ≡ u → has_equal fields (set_in v.sets k) ≡ d
    → (alone_at v k && is_some (set_in v.sets k)) ≡ s
    → add v r ≡ (if not u then Err OutOfZone else if d then Err Incompatible else if s then Err InvalidData else Ok (appended v r))
added_by v k fields r u d s ek ef hu hd hs =
    let eu : under r.owner v.apex ≡ u = under_at v k r ek ∙ hu in
    let ed : has_data v r ≡ d = (λ i. has_equal (ef i) (set_in v.sets (ek i))) ∙ hd in
    let es : second_alias v r ≡ s = at_same (below_apex v r.owner) r.rtype type_cname (λ n. is_some (set_in v.sets (fold r.owner, n))) ∙ (λ i. (below_at v k r ek i && ((ek i).1 == type_cname)) && is_some (set_in v.sets (ek i))) ∙ hs in
    λ i. if not (eu i) then Err OutOfZone else if ed i then Err Incompatible else if es i then Err InvalidData else Ok (appended v r)

pub is_outside : (v : Version) (k : Key) (ttl : ℕ) (fields : List Field) (r : Record) → StandsAt k ttl fields r → under k.0 v.apex ≡ false → add v r ≡ Err OutOfZone
is_outside v k ttl fields r e h = added_by v k fields r false _ _ e.0 e.2 h refl refl

pub is_equal : (v : Version) (k : Key) (ttl : ℕ) (fields : List Field) (r : Record) → StandsAt k ttl fields r → under k.0 v.apex ≡ true → has_equal fields (set_in v.sets k) ≡ true → add v r ≡ Err Incompatible
is_equal v k ttl fields r e h d = added_by v k fields r true true _ e.0 e.2 h d refl

pub is_second : (v : Version) (k : Key) (ttl : ℕ) (fields : List Field) (r : Record) → StandsAt k ttl fields r → under k.0 v.apex ≡ true → has_equal fields (set_in v.sets k) ≡ false → (alone_at v k && is_some (set_in v.sets k)) ≡ true
    → add v r ≡ Err InvalidData
is_second v k ttl fields r e h d s = added_by v k fields r true false true e.0 e.2 h d s

pub is_taken : (v : Version) (k : Key) (ttl : ℕ) (fields : List Field) (r : Record) → StandsAt k ttl fields r → under k.0 v.apex ≡ true → has_equal fields (set_in v.sets k) ≡ false → (alone_at v k && is_some (set_in v.sets k)) ≡ false
    → add v r ≡ Ok (appended v r)
is_taken v k ttl fields r e h d s = added_by v k fields r true false false e.0 e.2 h d s

-- data put last at the key
pub appended_at : (v : Version) (k : Key) (ttl : ℕ) (fields : List Field) (r : Record) → StandsAt k ttl fields r → with_sets v (put_with (last_set ttl fields) k v.sets) ≡ appended v r
appended_at v k ttl fields r e = sym (λ i. with_sets v (put_with (last_set (e.1 i) (e.2 i)) (e.0 i) v.sets)) ∙ appended_is v r

-- the set at a key whose owner is in lower case
pub set_there : (v : Version) (k : Key) → fold k.0 ≡ k.0 → set_at v k.0 k.1 ≡ set_in v.sets k
set_there v k f = ap (λ n. set_in v.sets (n, k.1)) f

last_some : (ttl : ℕ) (fields : List Field) (o : Option RecordSet) → (length (last_set ttl fields o).items == 0) ≡ false
last_some ttl fields None = refl
last_some ttl fields (Some s) = pushed_some s.items fields

-- .. and data put last in it
pub last_put : (v : Version) (k : Key) (ttl : ℕ) (fields : List Field) → fold k.0 ≡ k.0
    → put_set v k.0 k.1 (last_set ttl fields (set_at v k.0 k.1)) ≡ with_sets v (put_with (last_set ttl fields) k v.sets)
last_put v k ttl fields f =
    sym (put_some v k.0 k.1 (last_set ttl fields (set_at v k.0 k.1)) (last_some ttl fields (set_at v k.0 k.1))) ∙ ap (λ n. with_sets v (put_with (last_set ttl fields) (n, k.1) v.sets)) f

-- a set found at a key, or none
untyped_is : (n : ℕ) (o : Option RecordSet) → untyped (option_map (typed n) o) ≡ o
untyped_is n None = refl
untyped_is n (Some t) = refl

pub found_at : (n : ℕ) (o : Option RecordSet) (s : TypedSet) → Some s ≡ option_map (typed n) o → Some s.contents ≡ o
found_at n o s e = ap untyped e ∙ untyped_is n o

pub lacks_at : (n : ℕ) (o : Option RecordSet) → None ≡ option_map (typed n) o → None ≡ o
lacks_at n o e = ap untyped e ∙ untyped_is n o

pub and_false : (b : Bool) → (b && false) ≡ false
and_false true = refl
and_false false = refl

-- what putting data at a key in the zone leaves is sound
pub added_sound : {T : Type 0} (v after : Version) (k : Key) (ttl : ℕ) (fields : List Field) (alone : Bool) (r : Result T PutError) → IsSound v → fold k.0 ≡ k.0 → under k.0 v.apex ≡ true → alone ≡ alone_at v k
    → OnOk r (after ≡ with_sets v (put_with (last_set ttl fields) k v.sets)) → TellsPut fields alone (set_in v.sets k) r → OnErr r (after ≡ v) → IsSound after
added_sound v after k ttl fields alone (Ok t) h folded u a ok cause err =
    let r : Record = record { owner = k.0; rtype = k.1; class = v.class; ttl = ttl; fields = fields } in
    let e : StandsAt k ttl fields r = ((λ i. (folded i, k.1)), refl, refl) in
    subst (λ (w : Version). IsSound w) (sym (ok ∙ appended_at v k ttl fields r e))
    (add_sound v (appended v r) r h (is_taken v k ttl fields r e u cause.0 ((λ i. sym a i && is_some (set_in v.sets k)) ∙ cause.1)))
added_sound v after k ttl fields alone (Err e) h folded u a ok cause err = subst (λ (w : Version). IsSound w) (sym err) h
