use Rattle.std.proofs.Common.{◌+◌, ◌<◌, ◌≤◌, ◌^◌, false, refl, arith}
use Rattle.std.specs.Prelude.{IsTrue}
use Rattle.zone_sync.proofs.grant_examples.unmet_row.Goals as goal

never : IsTrue false → ⊥
never e = cc

pub returns-clause-late : goal.returns-clause-late
returns-clause-late c f = let h : 301 ≤ 300 = f.close_moments.near in omega arith

pub returns-clause-no_number : goal.returns-clause-no_number
returns-clause-no_number c f = let h : 18446744073709551615 + 1 < 2 ^ 64 = f.room in omega arith

pub returns-clause-not_first : goal.returns-clause-not_first
returns-clause-not_first c m = never m.starts

pub returns-clause-ahead : goal.returns-clause-ahead
returns-clause-ahead c m = never m.not_ahead

pub returns-clause-other_content : goal.returns-clause-other_content
returns-clause-other_content c m = never (m.caught_up refl)
