-- How a zone's history grows around a transfer: the handles that come are of its new commits.
use Rattle.std.specs.Prelude.{◌≡◌, List, ◌++◌}
use Rattle.published.specs.History.{Past}
use Rattle.zone_model.specs.Commits.{Commit}

-- the handles that came are the commits that the history gained, in order, and it is the same history
pub record Grows (p q : Past Commit) (before later : List Commit) : Type 0 where
  pub book : q.book ≡ p.book
  pub made : List Commit
  pub handles : later ≡ before ++ made
  pub commits : q.list ≡ p.list ++ made
