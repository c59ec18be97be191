use Rattle.std.proofs.Common.{◌≡◌, true, sym, subst, ◌∙◌}
use Rattle.std.specs.List.{list_all}
use Rattle.std.specs.Map.{keys_of}
use Rattle.dns_name.specs.Names.{Name, under}
use Rattle.zone_model.specs.Version.{Key}
use Rattle.zone_versions.specs.Keyed.{named}
use Rattle.zone_records.proofs.Opened.{all_inside}
use Rattle.zone_records.proofs.opening_sets.lies_within.Goals as goal

pub returns : goal.returns
returns c same =
    let v = c.args.tree.now in
    subst (λ (n : Name). list_all (λ (k : Key). under k.0 n) (keys_of v.sets) ≡ true) (sym c.apex.ensures ∙ c.is_spelled_so.ensures same) (all_inside v (named c.nodes.result) c.nodes.ensures.tree c.requires.each)
