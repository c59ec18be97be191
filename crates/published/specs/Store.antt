-- What callers see of a reader, and what it and the publishing end keep.
use Rattle.std.specs.Prelude.{◌≡◌, ◌⊎◌, ℕ, ◌-◌, ◌^◌, ◌<◌, List, Option, None, Some}
use Rattle.logbook.specs.Pages.{Book}
use Rattle.published.specs.History.{Past}
use Rattle.published.specs.Stock.{IsOf}

-- a reader has seen or learnt this beginning of its history, which ends with this entry, and was refused so often
pub record Reads (E : Type 0) : Type 0 where
  pub book : Book
  pub list : List E
  pub last : E
  pub refused : ℕ

-- the count of refusals rose, or stands at its greatest
abbrev pub Rose : ℕ → ℕ → Type 0
Rose old new = (old < new) ⊎ (new ≡ 2 ^ 64 - 1)

module _ {E X : Type 0} where
  -- it is there, and what it knows is of this history
  abbrev pub IsThereOf : (X → Option (Past E)) → Book → Option X → Type 0
  IsThereOf past b None = ⊥
  IsThereOf past b (Some x) = IsOf b (past x)

  -- it is there, and shows this
  abbrev pub IsShown : (X → Past E) → Past E → Option X → Type 0
  IsShown shown p None = ⊥
  IsShown shown p (Some x) = shown x ≡ p
