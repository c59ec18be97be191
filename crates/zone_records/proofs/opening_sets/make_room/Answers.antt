use Rattle.std.proofs.Common.{◌≡◌, true, [], sym, ap, subst, ◌∙◌}
use Rattle.dns_name.specs.Names.{Name, under}
use Rattle.zone_model.specs.Version.{Version}
use Rattle.zone_records.proofs.Opened.{tidy_put_root, under_root}
use Rattle.zone_records.proofs.opening_sets.make_room.Goals as goal

pub rebuilt-requires-clause-zone : goal.rebuilt-requires-clause-zone
rebuilt-requires-clause-zone c = tidy_put_root c.root.result c.args.tree.now.sets c.root.ensures c.requires.each

-- The root has all names below it.
pub returns-clause-zone : goal.returns-clause-zone
returns-clause-zone c n below =
    let apex : c.in_ok-made.made.apex ≡ [] = ap (λ (v : Version). v.apex) c.in_ok-made.ensures ∙ c.root.ensures in
    subst (λ (m : Name). under n m ≡ true) (sym apex) (under_root n)
