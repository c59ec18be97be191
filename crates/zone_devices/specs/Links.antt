-- What passes over a link.
use Rattle.std.specs.Prelude.{◌≡◌, ℕ, Bool, true, false, List, [], ◌∷◌, ◌++◌, length, drop, Option, Some, None, IsTrue}

-- the messages of one way: those that the link took, those that it handed on, and whether the last call of this way was told that no more come
pub record Way : Type 0 where
  pub taken : List (List ℕ)
  pub handed : List (List ℕ)
  pub ended : Bool

pub record LinkLists : Type 0 where
  pub requests : Way
  pub replies : Way

-- a link over which nothing went yet
abbrev pub no_way : Way
no_way = record { taken = []; handed = []; ended = false }

abbrev pub no_lists : LinkLists
no_lists = record { requests = no_way; replies = no_way }

-- a way that took a message, handed one, or ended
abbrev pub with_taken : List ℕ → Way → Way
with_taken m w = record { taken = w.taken ++ m ∷ []; handed = w.handed; ended = false }

abbrev pub with_handed : List ℕ → Way → Way
with_handed m w = record { taken = w.taken; handed = w.handed ++ m ∷ []; ended = false }

abbrev pub with_end : Way → Way
with_end w = record w { ended = true }

-- a take: a message, or the end
abbrev pub after_take : Option (List ℕ) → Way → Way
after_take None w = with_end w
after_take (Some m) w = with_handed m w

abbrev pub on_requests : (Way → Way) → LinkLists → LinkLists
on_requests f l = record l { requests = f l.requests }

abbrev pub on_replies : (Way → Way) → LinkLists → LinkLists
on_replies f l = record l { replies = f l.replies }

-- what a way took, or handed, since it stood otherwise
abbrev pub taken_since : Way → Way → List (List ℕ)
taken_since old new = drop (length old.taken) new.taken

abbrev pub handed_since : Way → Way → List (List ℕ)
handed_since old new = drop (length old.handed) new.handed

-- what a way took and handed since it stood otherwise, as lists
pub record WentOn (old new : Way) (more_taken more_handed : List (List ℕ)) : Type 0 where
  pub taken : new.taken ≡ old.taken ++ more_taken
  pub handed : new.handed ≡ old.handed ++ more_handed

pub record BothWentOn (old new : LinkLists) (asked heard sent handed : List (List ℕ)) : Type 0 where
  pub requests : WentOn old.requests new.requests asked heard
  pub replies : WentOn old.replies new.replies sent handed

-- .. where the link tells it
abbrev pub LinkWentOn : Option LinkLists → Option LinkLists → List (List ℕ) → List (List ℕ) → List (List ℕ) → List (List ℕ) → Type 0
LinkWentOn None None asked heard sent handed = Unit {0}
LinkWentOn (Some old) (Some new) asked heard sent handed = BothWentOn old new asked heard sent handed
LinkWentOn _ _ asked heard sent handed = ⊥

-- in between, a way handed what it took, in order, and said that no more come only after the last; it need not have handed all
pub record HandsOn (old new : Way) : Type 0 where
  pub in_order : (rest : List (List ℕ)) × (taken_since old new ≡ handed_since old new ++ rest)
  pub to_the_end : IsTrue new.ended → handed_since old new ≡ taken_since old new

-- an honest link: both ways hand on, and no call failed. A client that stops early has an honest link too.
pub record IsHonest (old new : LinkLists) (faults_old faults_new : ℕ) : Type 0 where
  pub requests : HandsOn old.requests new.requests
  pub replies : HandsOn old.replies new.replies
  pub no_fault : faults_new ≡ faults_old

-- a link that has nothing left to hand on
abbrev pub HasHandedAll : LinkLists → Type 0
HasHandedAll l = (l.requests.handed ≡ l.requests.taken) × (l.replies.handed ≡ l.replies.taken)
