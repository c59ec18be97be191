-- What threads know of one zone's commits: beginnings of one list.
use Rattle.std.specs.Prelude.{◌≡◌, ℕ, ◌+◌, List, [], ◌∷◌, ◌++◌}
use Rattle.std.specs.List.{AllByRecursion}
use Rattle.zone_model.specs.Commits.{Commit, CommitList, GoesOn}

-- numbers rise by one from n
abbrev pub NumberedFrom : ℕ → CommitList → Type 0
NumberedFrom n [] = Unit {0}
NumberedFrom n (c ∷ more) = (c.number ≡ n) × NumberedFrom (n + 1) more

-- all commits of a zone that opened at a number, up to its current commit
pub record IsHistoryOf (opened : ℕ) (current : Commit) (all : CommitList) : Type 0 where
  pub front : CommitList
  pub ends : all ≡ front ++ current ∷ []
  pub numbered : NumberedFrom opened all

-- each of some known lists is a beginning of all commits
abbrev pub AllBegin : List CommitList → CommitList → Type 0
AllBegin lists all = AllByRecursion (λ known. GoesOn known all) lists

-- what is known after a look at the current commit: all commits, which go on from what was known and learnt
pub record SeesAll (known : CommitList) (learnt : List CommitList) (opened : ℕ) (current : Commit) (all : CommitList) : Type 0 where
  pub history : IsHistoryOf opened current all
  pub goes_on : GoesOn known all
  pub from_learnt : AllBegin learnt all
