-- Chains of differences joined into one (RFC 1995, 5).
use Rattle.std.specs.Prelude.{List, ◌∷◌, Some, IsTrue, ◌≡◌}
use Rattle.std.specs.List.{AllByRecursion, last_or}
use Rattle.dns_name.specs.Names.{Name, same_name}
use Rattle.zone_model.specs.Version.{Version, IsValid, Same}
use Rattle.zone_model.specs.Difference.{difference, apply_difference, condensed}
use Rattle.zone_model.specs.Offer.{successive}
use Rattle.zone_model.specs.TransferLaws.{LeadsTo}

-- a valid version of a zone
pub record IsOf (apex : Name) (v : Version) : Type 0 where
  pub valid : IsValid v
  pub same_apex : IsTrue (same_name v.apex apex)

-- the law of chains: the differences of versions in a row, joined into one, lead from the first version to the last
abbrev pub CondensedLeads : Type 0
CondensedLeads = (v w : Version) (more : List Version) (u base : Version) → AllByRecursion (IsOf base.apex) (v ∷ w ∷ more) → last_or (Some w) more ≡ Some u → Same base v
    → LeadsTo (apply_difference base (condensed (difference v w) (successive (w ∷ more)))) base u
