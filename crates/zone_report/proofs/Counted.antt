-- The sets of a version's tree are as many as the stops of its walk, and have its records.
use Rattle.std.proofs.Common.{◌≡◌, ◌+◌, List, [], ◌∷◌, length, length-append, map, refl, suc, sym, ap, ◌∙◌}
use Rattle.std.specs.Prelude.{flat_map, is_some}
use Rattle.std.proofs.lemmas.List.{length-map}
use Rattle.dns_rdata.specs.Records.{Record}
use Rattle.zone_model.specs.Version.{RecordSet, Key, Sets, Version}
use Rattle.zone_model.specs.Walk.{Stop, shown_owner, walk, records_of_version}
use Rattle.zone_model.specs.Answer.{highest_cut, records_of}
use Rattle.zone_versions.specs.Held.{told}
use Rattle.zone_report.specs.Lines.{items_told}

abbrev stop_of : Version → Key × RecordSet → Stop
stop_of v e = record { owner = shown_owner v e.0.0; rtype = e.0.1; contents = e.1; below_cut = is_some (highest_cut v e.0.0) }

abbrev records_at : Version → Stop → List Record
records_at v s = records_of s.owner s.rtype v.class s.contents

lengths : (v : Version) (es : Sets) → length (map told es) ≡ length (map (stop_of v) es)
lengths v [] = refl
lengths v (e ∷ es) = ap suc (lengths v es)

pub walk_length : (v : Version) → length (map told v.sets) ≡ length (walk v)
walk_length v = lengths v v.sets

one_stop : (v : Version) (s : Stop) → length s.contents.items ≡ length (records_at v s)
one_stop v s = rw length-map refl

sums : (v : Version) (es : Sets) → length (flat_map items_told (map told es)) ≡ length (flat_map (records_at v) (map (stop_of v) es))
sums v [] = refl
sums v (e ∷ es) =
    length-append e.1.items (flat_map items_told (map told es))
    ∙ (λ i. one_stop v (stop_of v e) i + sums v es i)
    ∙ sym (length-append (records_at v (stop_of v e)) (flat_map (records_at v) (map (stop_of v) es)))

pub records_length : (v : Version) → length (flat_map items_told (map told v.sets)) ≡ length (records_of_version v)
records_length v = sums v v.sets
