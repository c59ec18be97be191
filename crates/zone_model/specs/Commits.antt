-- The history of a zone: its versions in order of publication, and what reads it (RFC 1034, 4.3.5).
use Rattle.std.specs.Prelude.{◌≡◌, ℕ, ◌+◌, ◌<◌, ◌≤◌, Bool, true, false, ◌&&◌, ◌==◌, List, [], ◌∷◌, ◌++◌, length, Option, Some, None, Result, Ok, Err, slice_get, option_map, option_and_then}
use Rattle.std.specs.List.{last_or}
use Rattle.dns_name.specs.Names.{Name}
use Rattle.zone_model.specs.Version.{Version}
use Rattle.zone_model.specs.Edits.{Refusal, close}

-- a published version with its number
pub record Commit : Type 0 where
  pub number : ℕ
  pub version : Version

-- the commits of a zone in order, the opening version first
abbrev pub CommitList : Type 0
CommitList = List Commit

-- numbers rise by one
abbrev pub are_numbered : CommitList → Bool
are_numbered [] = false
are_numbered (c ∷ []) = true
are_numbered (c ∷ d ∷ more) = (d.number == c.number + 1) && are_numbered (d ∷ more)

-- what was committed last
abbrev pub latest : CommitList → Option Commit
latest commits = last_or None commits

-- the second list goes on from the first
abbrev pub GoesOn : CommitList → CommitList → Type 0
GoesOn known all = (rest : CommitList) × (all ≡ known ++ rest)

-- the version that a session's commit publishes, numbered next
abbrev pub next_commit : Commit → Version → Commit
next_commit last pending = record { number = last.number + 1; version = close pending }

-- the commits that publish these versions after a commit
abbrev pub commits_after : Commit → List Version → List Commit
commits_after last [] = []
commits_after last (v ∷ more) = let c : Commit = record { number = last.number + 1; version = v } in c ∷ commits_after c more

-- a zone with its history, what is pending in its one session, and the commit at which each handle stands
pub record Zone : Type 0 where
  pub commits : CommitList
  pub pending : Version
  pub positions : List ℕ

-- what may happen to a zone
pub data Event : Type 0 where
  Open : Event
  Edit : (edit : Version → Result Version Refusal) → Event
  Publish : Event
  Abandon : Event
  Read : (known position : ℕ) → Event
  Ask : (handle : ℕ) (name : Name) (rtype : ℕ) → Event

abbrev pub kept_or : Version → Result Version Refusal → Version
kept_or v (Ok w) = w
kept_or v (Err e) = v

abbrev pub appended : Option Commit → Zone → Zone
appended None z = z
appended (Some last) z = record z { commits = z.commits ++ next_commit last z.pending ∷ []; pending = close z.pending }

abbrev pub reset : Option Commit → Zone → Zone
reset None z = z
reset (Some last) z = record z { pending = last.version }

-- one step: nothing but a commit changes the history, and nothing but a read makes a position
abbrev pub after : Event → Zone → Zone
after Open z = z
after (Edit edit) z = record z { pending = kept_or z.pending (edit z.pending) }
after Publish z = appended (latest z.commits) z
after Abandon z = reset (latest z.commits) z
after (Read known position) z = record z { positions = z.positions ++ position ∷ [] }
after (Ask handle name rtype) z = z

-- a read stands at a commit, not before what its reader knew
abbrev pub MayHappen : Event → Zone → Type 0
MayHappen Open z = Unit {0}
MayHappen (Edit edit) z = Unit {0}
MayHappen Publish z = Unit {0}
MayHappen Abandon z = Unit {0}
MayHappen (Read known position) z = (known ≤ position) × (position < length z.commits)
MayHappen (Ask handle name rtype) z = handle < length z.positions

-- steps in a row
abbrev pub after_all : List Event → Zone → Zone
after_all [] z = z
after_all (e ∷ more) z = after_all more (after e z)

abbrev pub AllMayHappen : List Event → Zone → Type 0
AllMayHappen [] z = Unit {0}
AllMayHappen (e ∷ more) z = MayHappen e z × AllMayHappen more (after e z)

-- the version that a handle stands for: the one at its position
abbrev pub version_of : Zone → ℕ → Option Version
version_of z handle = option_map (λ (c : Commit). c.version) (option_and_then (λ p. slice_get z.commits p) (slice_get z.positions handle))

-- whatever steps come, a handle stands for the version that it stood for, and so answers as before
abbrev pub HandlesKeep : Type 0
HandlesKeep = (z : Zone) (events : List Event) (handle : ℕ) (v : Version) → version_of z handle ≡ Some v → version_of (after_all events z) handle ≡ Some v
