use Rattle.std.proofs.Common.{rules, List, refl}
use Rattle.std.specs.Prelude.{is_none}
use Rattle.std.proofs.lemmas.Iterator.Consumers.{YieldsList-from_first}
use Rattle.std.proofs.lemmas.Iterator.Search.{all_from_yields_List}
use Rattle.dns_name.specs.Names.{Name}
use Rattle.zone_values.specs.TypedSets.{TypedSet}
use Rattle.zone_versions.specs.Stops.{key_told}
use Rattle.zone_records.specs.Seen.{kind_seen}
use Rattle.zone_records.specs.Faults.{fault_at}
use Rattle.zone_records.proofs.zonefile.Zonefile.all_pass.Goals as goal

-- The closure answers by the file and the kind alone.
pub returns : goal.returns
returns c =
    all_from_yields_List (λ (s : Name × TypedSet). is_none (fault_at c.args.self.now (kind_seen c.args.kind) (key_told s))) c.all.new.self _ c.all.result c.all.ensures.ran
    (YieldsList-from_first (λ (s : Name × TypedSet). s) (λ (ss : List (Name × TypedSet)). ss) c.args.sets refl) (λ x b q t. search (rules))
