-- A handle's version stays, whatever steps come.
use Rattle.std.proofs.Common.{◌≡◌, ℕ, List, [], ◌∷◌, ◌++◌, refl, sym, ap, ◌∙◌, Option, Some, None, slice_get, arith, append-nil, option_map, option_and_then, length-append}
use Rattle.std.proofs.lemmas.Option.{slice_get_within, get_or_from_slice_get, slice_get-get_or}
use Rattle.std.proofs.Math.ListN.{get_or-append}
use Rattle.zone_model.specs.Version.{Version}
use Rattle.zone_model.specs.Commits.{Zone, Commit, CommitList, Event, Open, Edit, Publish, Abandon, Read, Ask, after, version_of, HandlesKeep, latest, appended, reset, next_commit}

-- what stands at a place stays there when more is added at the end
get_longer : {X : Type 0} (xs ys : List X) (i : ℕ) (x : X) → slice_get xs i ≡ Some x → slice_get (xs ++ ys) i ≡ Some x
get_longer xs ys i x at =
    let n = slice_get_within xs i x at in
    slice_get-get_or (xs ++ ys) i x (omega (arith, n, length-append xs ys)) ∙ ap Some (get_or-append xs ys x i n ∙ get_or_from_slice_get xs i x x at)

-- a later zone has the same commits and positions, and more
pub record GrowsTo (y z : Zone) : Type 0 where
  pub commits : CommitList
  pub positions : List ℕ
  pub commits_are : z.commits ≡ y.commits ++ commits
  pub positions_are : z.positions ≡ y.positions ++ positions

stays : (y z : Zone) → z.commits ≡ y.commits → z.positions ≡ y.positions → GrowsTo y z
stays y z c p = record { commits = []; positions = []; commits_are = c ∙ sym (append-nil y.commits); positions_are = p ∙ sym (append-nil y.positions) }

publishes : (z : Zone) (last : Option Commit) → GrowsTo z (appended last z)
publishes z None = stays z z refl refl
publishes z (Some last) = record { commits = next_commit last z.pending ∷ []; positions = []; commits_are = refl; positions_are = sym (append-nil z.positions) }

abandons : (z : Zone) (last : Option Commit) → GrowsTo z (reset last z)
abandons z None = stays z z refl refl
abandons z (Some last) = stays z (reset (Some last) z) refl refl

grows : (e : Event) (z : Zone) → GrowsTo z (after e z)
grows Open z = stays z z refl refl
grows (Edit edit) z = stays z (after (Edit edit) z) refl refl
grows Publish z = publishes z (latest z.commits)
grows Abandon z = abandons z (latest z.commits)
grows (Read known position) z = record { commits = []; positions = position ∷ []; commits_are = sym (append-nil z.commits); positions_are = refl }
grows (Ask handle name rtype) z = stays z z refl refl

by_commit : (y z : Zone) → GrowsTo y z → (handle p : ℕ) (v : Version) (o : Option Commit) → slice_get y.positions handle ≡ Some p → slice_get y.commits p ≡ o → option_map (λ (c : Commit). c.version) o ≡ Some v → version_of z handle ≡ Some v
by_commit y z g handle p v None place there at = cc
by_commit y z g handle p v (Some c) place there at =
    let place' : slice_get z.positions handle ≡ Some p = ap (λ l. slice_get l handle) g.positions_are ∙ get_longer y.positions g.positions handle p place in
    let there' : slice_get z.commits p ≡ Some c = ap (λ l. slice_get l p) g.commits_are ∙ get_longer y.commits g.commits p c there in
    ap (λ o. option_map (λ (k : Commit). k.version) (option_and_then (λ q. slice_get z.commits q) o)) place' ∙ ap (option_map (λ (k : Commit). k.version)) there' ∙ at

by_position : (y z : Zone) → GrowsTo y z → (handle : ℕ) (v : Version) (o : Option ℕ) → slice_get y.positions handle ≡ o → option_map (λ (c : Commit). c.version) (option_and_then (λ p. slice_get y.commits p) o) ≡ Some v → version_of z handle ≡ Some v
by_position y z g handle v None place at = cc
by_position y z g handle v (Some p) place at = by_commit y z g handle p v (slice_get y.commits p) place refl at

kept : (y z : Zone) → GrowsTo y z → (handle : ℕ) (v : Version) → version_of y handle ≡ Some v → version_of z handle ≡ Some v
kept y z g handle v at = by_position y z g handle v (slice_get y.positions handle) refl at

pub handles_keep : HandlesKeep
handles_keep z [] handle v at = at
handles_keep z (e ∷ more) handle v at = handles_keep (after e z) more handle v (kept z (after e z) (grows e z) handle v at)
