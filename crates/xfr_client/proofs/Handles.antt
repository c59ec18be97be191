-- The read handles around a transfer.
use Rattle.std.proofs.Common.{◌≡◌, ℕ, zero, suc, ◌+◌, true, ◌&&◌, List, [], ◌∷◌, ◌++◌, refl, sym, ap, ◌∙◌, subst, Option, Some, eq-eqb}
use Rattle.dns_name.specs.Names.{Name}
use Rattle.zone_model.specs.Answer.{Answer}
use Rattle.zone_model.specs.Version.{Version}
use Rattle.zone_model.specs.Commits.{Commit, are_numbered}
use Rattle.zone_model.specs.Commits.{commits_after}
use Rattle.zone_reads.specs.Session.{Session}
use Rattle.xfr_client.specs.Steps.{HasMade}
use Rattle.xfr_client.specs.Handles.{asked_at, KeepsHandles}

-- numbers rise by one
numbered_after : (base : Commit) (versions : List Version) → are_numbered (base ∷ commits_after base versions) ≡ true
numbered_after base [] = refl
numbered_after base (v ∷ more) =
    let c : Commit = record { number = base.number + 1; version = v } in
    ap (λ b. b && are_numbered (c ∷ commits_after c more)) (eq-eqb (base.number + 1) (base.number + 1) refl) ∙ numbered_after c more

-- what stands in front stays at its place
asked_in_front : (xs ys : List Commit) (place : ℕ) (name : Name) (qtype : ℕ) (a : Option Answer) → asked_at xs place name qtype ≡ Some a → asked_at (xs ++ ys) place name qtype ≡ Some a
asked_in_front [] ys place name qtype a h = absurd (cc h)
asked_in_front (c ∷ xs) ys zero name qtype a h = h
asked_in_front (c ∷ xs) ys (suc place) name qtype a h = asked_in_front xs ys place name qtype a h

pub keeps_handles : (base : Commit) (before later : List Commit) (s : Session) (versions : List Version) → HasMade base before s later versions → KeepsHandles base before later
keeps_handles base before later s versions m = record {
  made = commits_after base versions;
  stay = m.behind;
  numbered = numbered_after base versions;
  answers = λ place name qtype a h. subst (λ l. asked_at l place name qtype ≡ Some a) (sym m.behind) (asked_in_front before (commits_after base versions) place name qtype a h);
}
