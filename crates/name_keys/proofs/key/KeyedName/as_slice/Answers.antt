use Rattle.std.proofs.Common.{◌≡◌, ◌≤◌, ◌∙◌, List, ℕ, length, sym, subst}
use Rattle.dns_name.specs.Names.{Name, fold}
use Rattle.name_keys.specs.NameKeys.{name_of_key}
use Rattle.name_keys.proofs.Reading.{is_folded}
use Rattle.name_keys.proofs.Bounds.{key_short}
use Rattle.name_keys.proofs.key.KeyedName.as_slice.Goals as goal

pub returns-clause-folded : goal.returns-clause-folded
returns-clause-folded g c =
    let octets = g.Octs.AsSlice.items c.self.inside.octets in
    subst (λ (n : Name). fold n ≡ n) c.self.view_is (is_folded octets c.self.invariant.1)

pub returns-clause-bound : goal.returns-clause-bound
returns-clause-bound g c =
    let n = name_of_key (g.Octs.AsSlice.items c.self.inside.octets) in
    subst (λ (o : List ℕ). length o ≤ 504) (c.self.invariant.1 ∙ sym c.as_slice.ensures) (key_short n c.self.invariant.0)
