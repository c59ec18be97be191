use Rattle.std.proofs.Common.{◌≡◌, [], List, sym, subst, ◌∙◌}
use Rattle.zone_model.specs.Version.{Key}
use Rattle.zone_changes.specs.Touched.{noted_all, keys_below, Covers}
use Rattle.zone_changes.proofs.SoundSets.{covers_all_keys}
use Rattle.zone_changes.proofs.changes.difference_anywhere.Goals as goal

-- The keys of both were noted.
pub difference-requires : goal.difference-requires
difference-requires c =
    let v = c.args.old.now in
    let w = c.args.new.now in
    let ones : c.note_below.new.self ≡ noted_all [] (keys_below v v.apex) = c.in_ok-note_below.ensures.ok ∙ (λ i. noted_all (c.new-touched.ensures i) (keys_below v (c.apex.ensures i))) in
    let all : c.note_below-2.new.self ≡ noted_all (noted_all [] (keys_below v v.apex)) (keys_below w w.apex) = c.in_ok-note_below-2.ensures.ok ∙ (λ i. noted_all (ones i) (keys_below w (c.apex-2.ensures i))) in
    subst (λ (keys : List Key). Covers keys v.sets w.sets) (sym all) (covers_all_keys v w c.keys.ensures.sound c.keys-2.ensures.sound)
