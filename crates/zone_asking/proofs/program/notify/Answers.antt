use Rattle.std.proofs.Common.{refl, inl, inr}
use Rattle.zone_asking.proofs.program.notify.Goals as goal

pub returns-in-Ok : goal.returns-in-Ok
returns-in-Ok g c = inl (refl, c.in-Ok.ensures.ok, c.in-Ok.ensures.steady)

pub returns-in-Err : goal.returns-in-Err
returns-in-Err g c = inr (refl, c.write_all.ensures.part, c.in-Err.ensures.failed)
