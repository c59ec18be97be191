use Rattle.std.proofs.Common.{◌≡◌, true, [], List, map, sym, ap, subst, ◌∙◌}
use Rattle.std.specs.List.{list_all}
use Rattle.zone_model.specs.Version.{Version, Sets}
use Rattle.zone_model.specs.Edits.{with_sets}
use Rattle.zone_values.specs.SetEdits.{put_all}
use Rattle.dns_name.specs.Names.{Name}
use Rattle.zone_values.specs.TypedSets.{TypedSet}
use Rattle.zone_versions.specs.Stops.{entry_told}
use Rattle.zone_versions.proofs.Stops.{entries_told}
use Rattle.zone_records.specs.OpeningSets.{is_put_at}
use Rattle.zone_records.proofs.Opened.{put_in_order}
use Rattle.zone_records.proofs.opening_sets.rebuilt.Goals as goal

pub put_sets-requires : goal.put_sets-requires
put_sets-requires c =
    let sets = c.args.tree.now.sets in
    let apex : c.in_ok-made.made.apex ≡ c.args.apex.now = ap (λ (v : Version). v.apex) c.in_ok-made.ensures.is in
    subst (λ (n : Name). list_all (is_put_at n) c.sets.result ≡ true) (sym apex) (subst (λ (l : List (Name × TypedSet)). list_all (is_put_at c.args.apex.now) l ≡ true) (sym c.sets.ensures) c.requires.zone)

-- Sets put in order are these.
pub returns : goal.returns
returns c =
    let sets = c.args.tree.now.sets in
    let all : map entry_told c.sets.result ≡ sets = ap (map entry_told) c.sets.ensures ∙ entries_told sets in
    c.in_ok-put_sets.ensures ∙ ap (λ (v : Version). with_sets v (put_all v.sets (map entry_told c.sets.result))) c.in_ok-made.ensures.is
    ∙ ap (λ (l : Sets). record { apex = c.args.apex.now; class = c.args.class; sets = l }) (ap (put_all []) all ∙ put_in_order sets c.requires.tidy.ordered)
