use Rattle.std.proofs.Common.{◌≡◌, true, not, sym, subst}
use Rattle.std.specs.List.{list_any}
use Rattle.dns_rdata.specs.Records.{same_data}
use Rattle.dns_rdata.specs.ZoneData.{data_fields}
use Rattle.zone_model.specs.Version.{set_at, data_at}
use Rattle.zone_versions.proofs.InPlace.{thinned_full}
use Rattle.zone_versions.proofs.tree.VersionTree.thin_in_place.Goals as goal

-- Others stand there, which are left.
pub edit_in_place-requires-clause-full : goal.edit_in_place-requires-clause-full
edit_in_place-requires-clause-full c =
    thinned_full c.args.ttl (data_fields c.args.item.now) (set_at c.args.self.now c.args.owner.now c.rtype-rtype.result)
    (subst (λ t. list_any (λ d. not (same_data (data_fields c.args.item.now) d)) (data_at c.args.self.now c.args.owner.now t) ≡ true) (sym c.rtype-rtype.ensures) c.requires.others)
