-- The primary that a script makes: its zone, the history that it offers, and the key that may have it (RFC 5936, 5).
use Rattle.std.specs.Prelude.{◌≡◌, List, [], ◌∷◌, map, false, Option}
use Rattle.tsig_port.specs.Tsig.{TsigKey}
use Rattle.zone_model.specs.Commits.{Commit}
use Rattle.zone_model.specs.Version.{Version}
use Rattle.zone_model.specs.Edits.{close}
use Rattle.zone_model.specs.Classify.{opened}
use Rattle.zone_model.specs.Difference.{Difference}
use Rattle.zone_model.specs.Offer.{Provider, after_push, difference_if}
use Rattle.xfr_providers.specs.Offers.{key_id}
use Rattle.zone_script.specs.Script.{Script, committed_by}

-- a provider, after these versions were pushed to it, each with its difference from the one before, where there is one to tell (RFC 1995, 5)
abbrev pub pushed_all : Provider → List Version → Provider
pushed_all p [] = p
pushed_all p (v ∷ more) = pushed_all (after_push p v (difference_if p.kept v)) more

-- a provider that opened with a version, kept these after it, and grants them to a key
abbrev pub provider_of : Version → List Version → TsigKey → Provider
provider_of first commits key = pushed_all (record { kept = first; differences = []; grants = key_id key ∷ []; compatibility = false }) commits

-- a primary as its services see it: the version from which questions are answered, what its provider offers, and its key
abbrev pub PrimaryParts : Type 0
PrimaryParts = (Version × Provider) × TsigKey

-- questions are answered from the version that is offered
abbrev pub primary_with : Provider → TsigKey → PrimaryParts
primary_with p key = ((p.kept, p), key)

-- the primary of a script: it opened with the script's zone, and got its commits
abbrev pub primary_in : Script TsigKey → TsigKey → PrimaryParts
primary_in script key = primary_with (provider_of (close (opened script.primary)) (committed_by (close (opened script.primary)) script.changes) key) key

-- the versions of commits
abbrev pub versions_of : List (Commit × Option Difference) → List Version
versions_of commits = map (λ (c : Commit × Option Difference). c.0.version) commits

-- each commit has the difference from the version before it, where there is one to tell
abbrev pub AreTold : Version → List (Commit × Option Difference) → Type 0
AreTold v [] = Unit {0}
AreTold v (c ∷ more) = (c.1 ≡ difference_if v c.0.version) × AreTold c.0.version more
