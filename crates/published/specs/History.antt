-- The book in which the entries stand, and what its one step tells.
use Rattle.std.specs.Prelude.{ℕ, ◌≡◌, ◌+◌, ◌==◌, true, List, [], ◌∷◌, ◌++◌, length, MatchBool}
use Rattle.logbook.specs.Pages.{Cell, Step, View, Book, Named}
use Rattle.published.specs.Commits.{IsNumbered}

-- the one word counts the entries behind the opening one, and numbers rise by one
pub record IsKept {X : Type 0} (number : X → ℕ) (cells : List Cell) (log : List X) : Type 0 where
  pub added : ℕ
  pub word : cells ≡ (added, true) ∷ []
  pub counted : added + 1 ≡ length log
  pub numbered : IsNumbered number log

abbrev pub head_of : Book → Named
head_of b = record { tracked = true; key = 0; book = b }

-- the entry came behind all that had been seen, unless the word had another value
abbrev pub Adds : {X : Type 0} → Step X → View X ℕ → ℕ → View X ℕ → Type 0
Adds s v found w = MatchBool (found == s.old) (w.0 ≡ v.0 ++ s.ask ∷ []) (Unit {0})

-- what somebody knows: which history it is, a beginning of it, and the entry that this ends with
pub record Past (X : Type 0) : Type 0 where
  pub book : Book
  pub list : List X
  pub last : X
