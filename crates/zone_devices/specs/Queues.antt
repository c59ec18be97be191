-- A way of a link that hands on what it took, in order.
use Rattle.std.specs.Prelude.{◌≡◌, ℕ, Bool, false, List, [], ◌∷◌, ◌++◌, take, drop, Option, Some, None}
use Rattle.zone_devices.specs.Links.{Way, LinkLists}
use Rattle.zone_devices.specs.Edits.{Editing}
use Rattle.zone_devices.specs.Calls.{Calls}

-- what it took, how many of it it handed on, and whether the last call of this way was told that no more come
pub record Queued : Type 0 where
  pub messages : List (List ℕ)
  pub count : ℕ
  pub stopped : Bool

abbrev pub way_of : Queued → Way
way_of q = record { taken = q.messages; handed = take q.count q.messages; ended = q.stopped }

abbrev pub no_queue : Queued
no_queue = record { messages = []; count = 0; stopped = false }

abbrev pub with_message : List ℕ → Queued → Queued
with_message m q = record { messages = q.messages ++ m ∷ []; count = q.count; stopped = false }

-- what wasn't handed on yet
abbrev pub waiting_of : Queued → List (List ℕ)
waiting_of q = drop q.count q.messages

-- what was asked for is the first of these, and the others are left; None where there is none
abbrev pub Heads : Option (List ℕ) → List (List ℕ) → List (List ℕ) → Type 0
Heads None before after = (before ≡ []) × (after ≡ [])
Heads (Some m) before after = before ≡ m ∷ after

-- a way whose messages are edited
pub record EditedWay : Type 0 where
  pub way : Way
  pub editing : Editing

-- a link in memory: what passed over it, the longest request that it takes, its calls, and the edits of replies
pub record Kept : Type 0 where
  pub lists : LinkLists
  pub longest : ℕ
  pub calls : Calls
  pub editing : Editing
