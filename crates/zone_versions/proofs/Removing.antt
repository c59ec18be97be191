-- Data taken out of a set of a version.
use Rattle.std.proofs.Common.{◌≡◌, ◌==◌, Bool, true, false, if◌then◌else◌, length, refl}
use Rattle.std.specs.BTreeMap.{insert_entry}
use Rattle.std.specs.Map.{remove_entry}
use Rattle.dns_name.specs.Names.{fold}
use Rattle.dns_rdata.specs.Records.{Record}
use Rattle.zone_model.specs.Version.{RecordSet, Version, key_cmp, has_key}
use Rattle.zone_model.specs.Edits.{with_sets, remove_set}
use Rattle.zone_values.specs.SetEdits.{thinned, taken_out}
use Rattle.zone_versions.specs.Puts.{without}

-- a record's data taken out of a version
pub without_is : (v : Version) (r : Record) → with_sets v (taken_out r.ttl r.fields (fold r.owner, r.rtype) v.sets) ≡ without v r
without_is v r = by (length left.items == 0)
  where
    left : RecordSet
    left = thinned r.ttl r.fields v.sets (fold r.owner, r.rtype)

    by : (b : Bool) → with_sets v (if b then remove_entry (has_key (fold r.owner, r.rtype)) v.sets else insert_entry key_cmp v.sets (fold r.owner, r.rtype) left)
        ≡ (if b then remove_set v r.owner r.rtype else with_sets v (insert_entry key_cmp v.sets (fold r.owner, r.rtype) left))
    by true = refl
    by false = refl
