use Rattle.std.proofs.Common.{rules, List, refl}
use Rattle.std.proofs.lemmas.Iterator.Consumers.{YieldsList-from_first}
use Rattle.std.proofs.lemmas.Iterator.Search.{any_from_yields_List}
use Rattle.dns_name.specs.Names.{Name}
use Rattle.zone_values.specs.TypedSets.{TypedSet}
use Rattle.zone_versions.specs.Stops.{key_told}
use Rattle.zone_versions.specs.Strays.{is_stray_at}
use Rattle.zone_versions.proofs.version.any_stray.Goals as goal

-- The closure answers by the version alone.
pub returns : goal.returns
returns c =
    any_from_yields_List (λ (s : Name × TypedSet). is_stray_at c.args.version.now (key_told s)) c.any.new.self _ c.any.result c.any.ensures.ran (YieldsList-from_first (λ (s : Name × TypedSet). s) (λ (ss : List (Name × TypedSet)). ss) c.args.sets refl) (λ x b q t. search (rules))
