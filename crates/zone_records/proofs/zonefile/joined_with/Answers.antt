use Rattle.std.proofs.Common.{◌≡◌, true, List, map, ap, sym, subst, ◌∙◌}
use Rattle.std.specs.List.{list_all}
use Rattle.dns_name.specs.Names.{Name}
use Rattle.zone_model.specs.Version.{Version, Sets}
use Rattle.zone_model.specs.Edits.{with_sets}
use Rattle.zone_values.specs.TypedSets.{TypedSet}
use Rattle.zone_values.specs.SetEdits.{put_all}
use Rattle.zone_versions.specs.Sound.{IsSound}
use Rattle.zone_versions.specs.Stops.{entry_told}
use Rattle.zone_versions.proofs.Stops.{entries_told}
use Rattle.zone_records.specs.OpeningSets.{is_put_at}
use Rattle.zone_records.proofs.Opened.{tidy_put}
use Rattle.zone_records.proofs.zonefile.joined_with.Goals as goal

pub put_both-put-requires-clause-cuts : goal.put_both-put-requires-clause-cuts
put_both-put-requires-clause-cuts c =
    subst (λ (l : List (Name × TypedSet)). list_all (is_put_at c.args.tree.apex) l ≡ true) (sym c.iter.ensures.is)
    (tidy_put c.args.tree.apex c.args.zone_cuts c.iter.ensures.tidy.each c.requires.cuts)

pub put_both-put-requires-clause-aliases : goal.put_both-put-requires-clause-aliases
put_both-put-requires-clause-aliases c =
    subst (λ (l : List (Name × TypedSet)). list_all (is_put_at c.args.tree.apex) l ≡ true) (sym c.iter-2.ensures.is)
    (tidy_put c.args.tree.apex c.args.cnames c.iter-2.ensures.tidy.each c.requires.aliases)

-- The sets are put as they are held.
pub of_tree-requires : goal.of_tree-requires
of_tree-requires c =
    let cuts : map entry_told c.iter.result ≡ c.args.zone_cuts = ap (map entry_told) c.iter.ensures.is ∙ entries_told c.args.zone_cuts in
    let aliases : map entry_told c.iter-2.result ≡ c.args.cnames = ap (map entry_told) c.iter-2.ensures.is ∙ entries_told c.args.cnames in
    subst (λ (v : Version). IsSound v) (sym (c.in-Ok.ensures ∙ (λ i. with_sets c.args.tree (put_all (put_all c.args.tree.sets (cuts i)) (aliases i)))))
    (c.requires.sound c.iter.ensures.tidy c.iter-2.ensures.tidy)

pub returns-in-Ok : goal.returns-in-Ok
returns-in-Ok c =
    let cuts : map entry_told c.iter.result ≡ c.args.zone_cuts = ap (map entry_told) c.iter.ensures.is ∙ entries_told c.args.zone_cuts in
    let aliases : map entry_told c.iter-2.result ≡ c.args.cnames = ap (map entry_told) c.iter-2.ensures.is ∙ entries_told c.args.cnames in
    c.of_tree.ensures ∙ c.in-Ok.ensures ∙ (λ i. with_sets c.args.tree (put_all (put_all c.args.tree.sets (cuts i)) (aliases i)))
