-- A version that is edited, and the one that it began as.
use Rattle.std.specs.Prelude.{◌≡◌}
use Rattle.dns_name.specs.Names.{Name}
use Rattle.dns_numbers.specs.Codes.{type_ns, type_cname, type_ds}
use Rattle.zone_model.specs.Version.{Version, IsValid}
use Rattle.zone_model.specs.Edits.{remove_set}

pub record Drafted : Type 0 where
  pub base : Version
  pub version : Version

abbrev pub draft : Version → Version → Drafted
draft base version = record { base = base; version = version }

-- the draft with another version
abbrev pub with_version : Drafted → Version → Drafted
with_version d version = record d { version = version }

-- the version without what makes a node a zone cut or an alias
abbrev pub without_special : Version → Name → Version
without_special v n = remove_set (remove_set (remove_set v n type_ns) n type_ds) n type_cname

-- the edited version
abbrev pub version_of : Drafted → Version
version_of d = d.version

-- a draft, and what a commit of it is to publish
pub record Closed : Type 0 where
  pub before : Drafted
  pub version : Version

-- a version that was edited, from a published one of the same apex
pub record BeganAs (base : Version) (v : Version) : Type 0 where
  pub valid : IsValid base
  pub apex : v.apex ≡ base.apex
