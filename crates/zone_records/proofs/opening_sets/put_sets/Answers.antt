use Rattle.std.proofs.Common.{◌≡◌, true, List, map, sym, ap, subst, ◌∙◌}
use Rattle.std.specs.List.{list_all}
use Rattle.std.specs.Cmp.{first_so, second_so}
use Rattle.dns_name.specs.Names.{Name}
use Rattle.zone_model.specs.Version.{Version}
use Rattle.zone_model.specs.Edits.{with_sets}
use Rattle.zone_values.specs.TypedSets.{TypedSet}
use Rattle.zone_values.specs.SetEdits.{put_all}
use Rattle.zone_versions.specs.Stops.{entry_told}
use Rattle.zone_records.specs.OpeningSets.{is_put_at}
use Rattle.zone_records.proofs.opening_sets.put_sets.Goals as goal

pub put_set-requires : goal.put_set-requires
put_set-requires c =
    let tree = c.loop-found.tree in
    first_so (is_put_at tree.apex c.in-Some.found) (list_all (is_put_at tree.apex) c.next.new.self)
    (subst (λ (l : List (Name × TypedSet)). list_all (is_put_at tree.apex) l ≡ true) c.in-Some.ensures.steps c.loop-found.invariant.1)

-- One set more.
pub loop-found-preserved : goal.loop-found-preserved
loop-found-preserved c =
    let tree = c.loop-found.tree in
    let rest = c.next.new.self in
    let later : list_all (is_put_at tree.apex) rest ≡ true
    = second_so (is_put_at tree.apex c.in-Some.found) (list_all (is_put_at tree.apex) rest) (subst (λ (l : List (Name × TypedSet)). list_all (is_put_at tree.apex) l ≡ true) c.in-Some.ensures.steps c.loop-found.invariant.1) in (
      ap (λ (v : Version). with_sets v (put_all v.sets (map entry_told rest))) c.in_ok-put_set.ensures
          ∙ ap (λ (l : List (Name × TypedSet)). with_sets tree (put_all tree.sets (map entry_told l))) (sym c.in-Some.ensures.steps) ∙ c.loop-found.invariant.0,
      subst (λ (v : Version). list_all (is_put_at v.apex) rest ≡ true) (sym c.in_ok-put_set.ensures) later,
    )

-- No set is left.
pub returns : goal.returns
returns c =
    let tree = c.loop-found.tree in
    let first = c.args.tree.now in
    ap (λ (l : List (Name × TypedSet)). with_sets tree (put_all tree.sets (map entry_told l))) (sym c.in-None.ensures.steps.0) ∙ c.loop-found.invariant.0
    ∙ ap (λ (l : List (Name × TypedSet)). with_sets first (put_all first.sets (map entry_told l))) c.into_iter-found-iterator.ensures.into_iter_gives
