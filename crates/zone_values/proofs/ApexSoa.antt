-- The apex SOA of a version, as it is looked up.
use Rattle.std.proofs.Common.{◌≡◌, ℕ, List, [], ◌∷◌, All, drop, map, Option, Some, None, is_some, option_map, true≢false, refl, sym, ap, ◌∙◌, subst}
use Rattle.std.specs.Prelude.{slice_get}
use Rattle.std.proofs.lemmas.List.Elements.{All-head}
use Rattle.dns_numbers.specs.Codes.{type_soa}
use Rattle.dns_name.specs.Names.{Name}
use Rattle.dns_rdata.specs.Records.{Field, Record}
use Rattle.zone_model.specs.Version.{RecordSet, Version, set_at}
use Rattle.zone_model.specs.Answer.{apex_soa_record, first_only, records_of, records_of_option}
use Rattle.zone_values.specs.TypedSets.{TypedSet}
use Rattle.zone_values.specs.TypedEntries.{typed}

pub soa_none : (v : Version) → set_at v v.apex type_soa ≡ None → apex_soa_record v ≡ []
soa_none v e = ap (λ s. records_of_option v.apex type_soa v.class (option_map first_only s)) e

pub soa_empty : (v : Version) (s : RecordSet) → set_at v v.apex type_soa ≡ Some s → s.items ≡ [] → apex_soa_record v ≡ []
soa_empty v s e none =
    ap (λ o. records_of_option v.apex type_soa v.class (option_map first_only o)) e
    ∙ ap (λ items. records_of v.apex type_soa v.class (first_only (record { ttl = s.ttl; items = items }))) none

pub soa_first : (v : Version) (s : RecordSet) (d : List Field) (more : List (List Field)) → set_at v v.apex type_soa ≡ Some s → s.items ≡ d ∷ more
    → apex_soa_record v ≡ record { owner = v.apex; rtype = type_soa; class = v.class; ttl = s.ttl; fields = d } ∷ []
soa_first v s d more e first =
    ap (λ o. records_of_option v.apex type_soa v.class (option_map first_only o)) e
    ∙ ap (λ items. records_of v.apex type_soa v.class (first_only (record { ttl = s.ttl; items = items }))) first

abbrev pub record_with : Name → ℕ → ℕ → ℕ → List Field → Record
record_with owner rtype class ttl fields = record { owner = owner; rtype = rtype; class = class; ttl = ttl; fields = fields }

pub no_first : {X : Type 0} (xs : List X) → None ≡ slice_get xs 0 → xs ≡ []
no_first [] e = refl
no_first (x ∷ xs) e = cc

some_inj : {X : Type 0} (x y : X) → Some x ≡ Some y → x ≡ y
some_inj x y e = cc

-- what is left begins with the record that was lent
pub first_left : {X : Type 0} (xs : List X) (x : X) → Some x ≡ slice_get xs 0 → xs ≡ x ∷ drop 1 xs
first_left [] x e = cc
first_left (y ∷ xs) x e = ap (λ z. z ∷ xs) (sym (some_inj x y e))

pub has_first : {X : Type 0} (xs : List X) (x : X) → Some x ≡ slice_get xs 0 → (more : List X) × (xs ≡ x ∷ more)
has_first [] x e = cc
has_first (y ∷ xs) x e = (xs, ap (λ z. z ∷ xs) (sym (some_inj x y e)))

-- the first data of a set that was looked up are of its type
pub looked_up_type : {X : Type 0} (t : X → ℕ) (rtype : ℕ) (xs : List X) (x : X) (s : TypedSet) (o : Option RecordSet) → Some x ≡ slice_get xs 0 → All (λ d. t d ≡ s.rtype) xs
    → Some s ≡ option_map (typed rtype) o → t x ≡ rtype
looked_up_type t rtype xs x s None first types found = absurd (true≢false (ap is_some found))
looked_up_type t rtype xs x s (Some r) first types found =
    let split = has_first xs x first in
    All-head (λ d. t d ≡ s.rtype) x split.0 (subst (All (λ d. t d ≡ s.rtype)) split.1 types)
    ∙ ap (λ (y : Option TypedSet). elim y as (λ z. ℕ) [ Some z ↦ z.rtype | None ↦ s.rtype ]) found

pub no_soa_data : {X : Type 0} (f : X → List Field) (xs : List X) (v : Version) (s : RecordSet) → Some s ≡ set_at v v.apex type_soa → None ≡ slice_get xs 0 → map f xs ≡ s.items
    → apex_soa_record v ≡ []
no_soa_data f xs v s is none items = soa_empty v s (sym is) (sym items ∙ ap (map f) (no_first xs none))
