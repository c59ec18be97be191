use Rattle.std.proofs.Common.{◌≡◌, true, sym, subst}
use Rattle.std.specs.List.{list_all}
use Rattle.std.specs.Map.{keys_of}
use Rattle.dns_name.specs.Names.{under}
use Rattle.zone_model.specs.Version.{Key, Sets}
use Rattle.zone_records.proofs.Opened.{tidy_put}
use Rattle.zone_records.proofs.owners.Owners.into_tree.Goals as goal

pub into_tree-requires-clause-zone : goal.into_tree-requires-clause-zone
into_tree-requires-clause-zone c =
    let sets = c.self.inside.sets in
    tidy_put c.args.apex.now sets c.self.invariant.each (subst (λ (l : Sets). list_all (λ (k : Key). under k.0 c.args.apex.now) (keys_of l) ≡ true) (sym c.self.view_is) c.requires)
