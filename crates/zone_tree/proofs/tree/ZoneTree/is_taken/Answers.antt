use Rattle.std.proofs.Common.{◌≡◌, is_some, ap, ◌∙◌}
use Rattle.std.specs.BTreeMap.{is_at}
use Rattle.std.specs.Map.{lookup}
use Rattle.dns_name.specs.Names.{fold}
use Rattle.zone_model.specs.Zones.{zone_key_cmp, zone_of}
use Rattle.zone_tree.specs.Trees.{key_of}
use Rattle.zone_tree.proofs.tree.ZoneTree.is_taken.Goals as goal

pub returns : goal.returns
returns g c =
    let z = g.Z.AtApex in
    let zone = c.args.zone.now in
    let key : c.zone_key-key.result ≡ key_of z.class_of z.apex_of zone = c.zone_key-key.ensures ∙ (λ i. (c.class.ensures i, fold (c.apex_name.ensures i))) in
    c.contains_key.ensures ∙ ap (λ k. is_some (lookup (is_at (zone_key_cmp k)) c.self.inside.entries.entries)) key ∙ ap (λ es. is_some (zone_of es (z.class_of zone) (z.apex_of zone))) c.self.view_is
