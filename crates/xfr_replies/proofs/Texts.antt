-- The records of some sets from the first one on.
use Rattle.std.proofs.Common.{◌≡◌, ℕ, Bool, true, false, not, List, [], ◌∷◌, ◌++◌, map, filter, refl, sym, ap, ◌∙◌}
use Rattle.std.specs.Prelude.{flat_map}
use Rattle.std.proofs.lemmas.List.{append_assoc}
use Rattle.std.proofs.lemmas.List.Elements.{filter-append}
use Rattle.std.proofs.lemmas.List.Folds.{flat_map-map}
use Rattle.dns_name.specs.Names.{Name}
use Rattle.dns_name.specs.Records.{Field, Record}
use Rattle.zone_model.specs.Version.{RecordSet, Version}
use Rattle.zone_model.specs.Answer.{records_of, apex_soa_record}
use Rattle.zone_model.specs.Walk.{Stop, records_of_version}
use Rattle.zone_model.specs.Difference.{Difference}
use Rattle.zone_model.specs.Offer.{whole_text, changes_text, difference_text, is_apex_soa, side_soas, side_records}
use Rattle.xfr_replies.specs.Sides.{shown_records, middle_of, side_text, sides_of}
use Rattle.xfr_replies.specs.Places.{sides_text}

-- ---- records of one set, of which all pass a test or none

all_pass : {X : Type 0} (p : Record → Bool) (f : X → Record) (ds : List X) → ((d : X) → p (f d) ≡ true) → filter p (map f ds) ≡ map f ds
all_pass p f [] h = refl
all_pass p f (d ∷ ds) h = rw (h d) (ap (λ rs. f d ∷ rs) (all_pass p f ds h))

none_pass : {X : Type 0} (p : Record → Bool) (f : X → Record) (ds : List X) → ((d : X) → p (f d) ≡ false) → filter p (map f ds) ≡ []
none_pass p f [] h = refl
none_pass p f (d ∷ ds) h = rw (h d) (none_pass p f ds h)

abbrev pub with_data : Name → ℕ → ℕ → ℕ → List Field → Record
with_data owner rtype class ttl d = record { owner = owner; rtype = rtype; class = class; ttl = ttl; fields = d }

pub set_passes : (p : Record → Bool) (owner : Name) (rtype class : ℕ) (s : RecordSet) (more : List Record) → ((d : List Field) → p (with_data owner rtype class s.ttl d) ≡ true)
    → filter p (records_of owner rtype class s ++ more) ≡ records_of owner rtype class s ++ filter p more
set_passes p owner rtype class s more h =
    filter-append p (records_of owner rtype class s) more ∙ ap (λ rs. rs ++ filter p more) (all_pass p (with_data owner rtype class s.ttl) s.items h)

pub set_fails : (p : Record → Bool) (owner : Name) (rtype class : ℕ) (s : RecordSet) (more : List Record) → ((d : List Field) → p (with_data owner rtype class s.ttl d) ≡ false)
    → filter p (records_of owner rtype class s ++ more) ≡ filter p more
set_fails p owner rtype class s more h =
    filter-append p (records_of owner rtype class s) more ∙ ap (λ rs. rs ++ filter p more) (none_pass p (with_data owner rtype class s.ttl) s.items h)

-- ---- the whole text and the text of changes, part by part

pub shown_walk : (v : Version) → records_of_version v ≡ shown_records v v.sets
shown_walk v = flat_map-map (λ (s : Stop). records_of s.owner s.rtype v.class s.contents) _ v.sets

pub whole_by_parts : (v : Version) → apex_soa_record v ++ (middle_of v v.sets ++ apex_soa_record v) ≡ whole_text v
whole_by_parts v =
    sym (append_assoc (apex_soa_record v) (middle_of v v.sets) (apex_soa_record v))
    ∙ ap (λ rs. (apex_soa_record v ++ filter (λ r. not (is_apex_soa v r)) rs) ++ apex_soa_record v) (sym (shown_walk v))

sides_are : (v : Version) (ds : List Difference) → flat_map (side_text v) (sides_of ds) ≡ flat_map (difference_text v) ds
sides_are v [] = refl
sides_are v (d ∷ ds) =
    sym (append_assoc (side_text v d.removed) (side_text v d.added) (flat_map (side_text v) (sides_of ds)))
    ∙ ap (λ rs. rs ++ flat_map (side_text v) (sides_of ds)) (sym (append_assoc (side_text v d.removed) (side_soas v d.added) (side_records v d.added)))
    ∙ ap (λ rs. difference_text v d ++ rs) (sides_are v ds)

pub changes_by_parts : (v : Version) (ds : List Difference) → apex_soa_record v ++ sides_text v (sides_of ds) ≡ changes_text v ds
changes_by_parts v ds =
    sym (append_assoc (apex_soa_record v) (flat_map (side_text v) (sides_of ds)) (apex_soa_record v))
    ∙ ap (λ rs. (apex_soa_record v ++ rs) ++ apex_soa_record v) (sides_are v ds)
