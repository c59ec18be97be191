use Rattle.std.proofs.Common.{◌≡◌, true, subst}
use Rattle.std.specs.List.{list_all}
use Rattle.std.specs.Map.{keys_of}
use Rattle.dns_name.specs.Names.{Name, under}
use Rattle.zone_model.specs.Version.{Key, Sets}
use Rattle.zone_records.proofs.Faulty.{none_outside}
use Rattle.zone_records.proofs.zonefile.Zonefile.add_normal_faults.Goals as goal

-- All owners are in the zone.
pub returns-then-is_within : goal.returns-then-is_within
returns-then-is_within c =
    let p = c.args.self.now in
    none_outside p c.args.found.now
    (subst (λ (n : Name). list_all (λ (k : Key). under k.0 n) (keys_of p.normal) ≡ true) c.origin.ensures
    (subst (λ (l : Sets). list_all (λ (k : Key). under k.0 c.origin.result.now) (keys_of l) ≡ true) c.normal.ensures (c.is_within.ensures c.if-is_within.true)))
