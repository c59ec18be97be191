-- Sets as records are put to them one by one.
use Rattle.std.proofs.Common.{◌≡◌, ℕ, suc, ◌==◌, Bool, true, false, cond, ◌&&◌, ◌||◌, not, if◌then◌else◌, List, [], ◌∷◌, ◌++◌, length, filter, fold as fold_list, refl, sym, ap, ◌∙◌, Option, Some, None, is_some, eqb-true, arith}
use Rattle.std.specs.Option.{option_map_or}
use Rattle.std.specs.List.{list_any}
use Rattle.std.specs.BTreeMap.{insert_entry}
use Rattle.std.specs.Cmp.{Equal-is}
use Rattle.std.specs.Map.{remove_entry}
use Rattle.dns_name.specs.Names.{Name, fold, same_name}
use Rattle.dns_name.specs.Records.{Field, Record, same_data}
use Rattle.zone_model.specs.Version.{RecordSet, Key, Sets, Version, key_cmp, has_key, set_in}
use Rattle.zone_model.specs.Edits.{with_sets, distinct}
use Rattle.zone_model.specs.Classify.{lowest_ttl, opened_with}
use Rattle.zone_model.proofs.Folded.{key_total, fold-fold, same_name_alike}
use Rattle.zone_model.proofs.Ordered.{lookup-insert_entry, find_alike}
use Rattle.zone_records.specs.Taking.{put_to}
use Rattle.zone_records.proofs.TypesIn.{has_type, key_at}

-- where a record's set stands
abbrev pub key_of : Record → Key
key_of r = (fold r.owner, r.rtype)

-- the set with a record put to it
abbrev pub set_with : Record → Option RecordSet → RecordSet
set_with r o = record { ttl = lowest_ttl r o; items = distinct (option_map_or (λ (s : RecordSet). s.items) o [] ++ r.fields ∷ []) }

-- .. in its place
abbrev pub put_record : Sets → Record → Sets
put_record sets r = insert_entry key_cmp sets (key_of r) (set_with r (set_in sets (key_of r)))

suc_not : (n : ℕ) → (suc n == 0) ≡ false
suc_not n = by (suc n == 0) refl
  where
    by : (b : Bool) → (suc n == 0) ≡ b → b ≡ false
    by true h = let e : suc n ≡ 0 = eqb-true (suc n) 0 h in absurd (omega arith)
    by false h = refl

pub holds_some : (xs : List (List Field)) (d : List Field) → (length (distinct (xs ++ d ∷ [])) == 0) ≡ false
holds_some [] d = refl
holds_some (x ∷ xs) d = suc_not (length (filter (λ y. not (same_data x y)) (distinct (xs ++ d ∷ []))))

pub opens_by_putting : (v : Version) (r : Record) → opened_with v r ≡ with_sets v (put_record v.sets r)
opens_by_putting v r =
    let s = set_with r (set_in v.sets (key_of r)) in
    ap (λ b. if b then with_sets v (remove_entry (has_key (key_of r)) v.sets) else with_sets v (insert_entry key_cmp v.sets (key_of r) s)) (holds_some (option_map_or (λ (t : RecordSet). t.items) (set_in v.sets (key_of r)) []) r.fields)

pub put_is : (sets : Sets) (r : Record) → put_to sets r ≡ put_record sets r
put_is sets r = ap (λ (v : Version). v.sets) (opens_by_putting (record { apex = []; class = r.class; sets = sets }) r)

-- the sets of a version to which records are put are those that are made of its sets
pub sets_after : (rs : List Record) (v : Version) → (fold_list opened_with v rs).sets ≡ fold_list put_record v.sets rs
sets_after [] v = refl
sets_after (r ∷ rs) v = ap (λ (w : Version). (fold_list opened_with w rs).sets) (opens_by_putting v r) ∙ sets_after rs (with_sets v (put_record v.sets r))

-- ---- what stands at one key

-- whether a record's set stands there
abbrev pub ties : Key → Record → Bool
ties q r = has_key q (key_of r)

-- what a record makes of the set there
abbrev pub step_at : Key → Option RecordSet → Record → Option RecordSet
step_at q o r = cond (ties q r) (Some (set_with r o)) o

pub put_at : (q : Key) (sets : Sets) (r : Record) → set_in (put_record sets r) q ≡ step_at q (set_in sets q) r
put_at q sets r = lookup-insert_entry key_total sets (key_of r) (set_with r (set_in sets (key_of r))) q ∙ by (ties q r) refl
  where
    by : (b : Bool) → ties q r ≡ b → cond b (Some (set_with r (set_in sets (key_of r)))) (set_in sets q) ≡ cond b (Some (set_with r (set_in sets q))) (set_in sets q)
    by true h = ap (λ o. Some (set_with r o)) (sym (find_alike key_total sets q (key_of r) ((Equal-is (key_cmp q (key_of r))).0 h)))
    by false h = refl

pub found_after : (q : Key) (rs : List Record) (sets : Sets) → set_in (fold_list put_record sets rs) q ≡ fold_list (step_at q) (set_in sets q) rs
found_after q [] sets = refl
found_after q (r ∷ rs) sets = found_after q rs (put_record sets r) ∙ ap (λ o. fold_list (step_at q) o rs) (put_at q sets r)

-- ---- which types an owner has

or_after : (a b c : Bool) → ((a || b) || c) ≡ (a || (b || c))
or_after true b c = refl
or_after false b c = refl

abbrev pub is_of : Name → ℕ → Record → Bool
is_of owner t r = same_name r.owner owner && (r.rtype == t)

tied_owner : (owner : Name) (t : ℕ) (r : Record) → ties (fold owner, t) r ≡ is_of owner t r
tied_owner owner t r = key_at owner t (key_of r) ∙ ap (λ b. b && (r.rtype == t)) (same_name_alike (fold r.owner) r.owner owner owner (fold-fold r.owner) refl)

put_type : (owner : Name) (t : ℕ) (sets : Sets) (r : Record) → has_type (put_record sets r) owner t ≡ (has_type sets owner t || is_of owner t r)
put_type owner t sets r = ap is_some (put_at (fold owner, t) sets r) ∙ by (ties (fold owner, t) r) (set_in sets (fold owner, t)) ∙ ap (λ b. has_type sets owner t || b) (tied_owner owner t r)
  where
    by : (b : Bool) (o : Option RecordSet) → is_some (cond b (Some (set_with r o)) o) ≡ (is_some o || b)
    by true None = refl
    by true (Some s) = refl
    by false None = refl
    by false (Some s) = refl

pub types_after : (owner : Name) (t : ℕ) (rs : List Record) (sets : Sets) → has_type (fold_list put_record sets rs) owner t ≡ (has_type sets owner t || list_any (is_of owner t) rs)
types_after owner t [] sets = by (has_type sets owner t)
  where
    by : (b : Bool) → b ≡ (b || false)
    by true = refl
    by false = refl
types_after owner t (r ∷ rs) sets =
    types_after owner t rs (put_record sets r) ∙ ap (λ b. b || list_any (is_of owner t) rs) (put_type owner t sets r) ∙ or_after (has_type sets owner t) (is_of owner t r) (list_any (is_of owner t) rs)
