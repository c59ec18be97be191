use Rattle.std.proofs.Common.{◌≡◌, ap, sym, ◌∙◌, if◌then◌else◌, List, Bool, filter}
use Rattle.dns_name.specs.Names.{under}
use Rattle.zone_model.specs.Version.{Key}
use Rattle.zone_changes.specs.Touched.{noted, noted_all}
use Rattle.zone_changes.proofs.Noting.{note_step, keeps_step}
use Rattle.zone_changes.proofs.touched.TouchedKeys.note_under.Goals as goal

-- One more key was looked at.
pub loop-key-preserved : goal.loop-key-preserved
loop-key-preserved c =
    let p : Key → Bool = λ k. under k.0 c.args.name.now in
    let keys = c.loop-key.self in
    let now : c.note_if.new.self ≡ (if p c.in-Some.key then noted keys c.in-Some.key else keys)
    = c.in_ok-note_if.ensures.ok ∙ ap (λ b. if b then noted keys c.in-Some.key else keys) (c.ends_with.ensures ∙ ap (λ n. under n c.args.name.now) c.owner.ensures) in (
      note_step p keys c.note_if.new.self c.next.new.self c.in-Some.key now ∙ ap (λ (l : List Key). noted_all keys (filter p l)) (sym c.in-Some.ensures.steps) ∙ c.loop-key.invariant.0,
      keeps_step (p c.in-Some.key) c.args.self.now keys c.note_if.new.self c.in-Some.key now c.loop-key.invariant.1,
    )
