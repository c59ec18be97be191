-- The primary of a script that was read.
use Rattle.std.proofs.Common.{◌≡◌, ℕ, ◌+◌, List, [], ◌∷◌, Option, Ok, refl, sym, ap, ◌∙◌, subst}
use Rattle.tsig_port.specs.Tsig.{TsigKey}
use Rattle.zone_model.specs.Commits.{Commit}
use Rattle.zone_model.specs.Version.{Version}
use Rattle.zone_model.specs.Difference.{Difference}
use Rattle.zone_script.specs.Script as scripts
use Rattle.zone_script.specs.Script.{script_of, committed_by}
use Rattle.zone_script.specs.ScriptReaders.{wire_readers}
use Rattle.zone_script.specs.Keeping.{Gives, told_commits}
use Rattle.zone_script.specs.declared.script.Script.{Script}
use Rattle.zone_primary_run.specs.ScriptPrimaries.{AreTold, PrimaryParts, primary_with, provider_of, versions_of}
use Rattle.zone_primary_run.specs.PrimaryRuns.{SpellsPrimary}

-- what a call that reads a script gives
abbrev pub Spelt : List ℕ → Script → Type 0
Spelt text s = (t : scripts.Script TsigKey) × (script_of wire_readers text ≡ Ok t) × Gives t s

versions_told : (last : Commit) (vs : List Version) → versions_of (told_commits last vs) ≡ vs
versions_told last [] = refl
versions_told last (v ∷ more) = ap (λ ws. v ∷ ws) (versions_told (record { number = last.number + 1; version = v }) more)

are_told : (last : Commit) (vs : List Version) → AreTold last.version (told_commits last vs)
are_told last [] = tt
are_told last (v ∷ more) = (refl, are_told (record { number = last.number + 1; version = v }) more)

pub script_told : (text : List ℕ) (s : Script) → Spelt text s → AreTold s.opening.version s.commits
script_told text s (t, spells, gives) =
    subst (λ (cs : List (Commit × Option Difference)). AreTold s.opening.version cs) (sym gives.commits) (are_told s.opening (committed_by s.opening.version t.changes))

pub spells : (text : List ℕ) (s : Script) (p : PrimaryParts) → Spelt text s → p ≡ primary_with (provider_of s.opening.version (versions_of s.commits) s.key) s.key
    → SpellsPrimary text p
spells text s p (t, spelt, gives) e = record {
  script = t;
  key = s.key;
  spelt = spelt;
  keyed = gives.key;
  is = e
      ∙ ap (λ (cs : List (Commit × Option Difference)). primary_with (provider_of s.opening.version (versions_of cs) s.key) s.key) gives.commits
      ∙ ap (λ (vs : List Version). primary_with (provider_of s.opening.version vs s.key) s.key) (versions_told s.opening (committed_by s.opening.version t.changes))
      ∙ ap (λ (c : Commit). primary_with (provider_of c.version (committed_by c.version t.changes) s.key) s.key) gives.opening;
}
