-- Records that have wire forms, and versions of such records (RFC 1035, 3.2.1).
use Rattle.std.specs.Prelude.{ℕ, ◌<◌, ◌^◌, IsTrue}
use Rattle.std.specs.List.{AllByRecursion}
use Rattle.dns_name.specs.Names.{is_name}
use Rattle.dns_rdata.specs.Records.{is_data}
use Rattle.zone_model.specs.Version.{RecordSet, Key, Version}
use Rattle.zone_model.specs.Walk.{Stop}
pub use Rattle.xfr_client.specs.RecordForms.{HasForm, HaveForms}

-- the records of a set of this type have them, whatever their owner
pub record IsSetOf (rtype : ℕ) (s : RecordSet) : Type 0 where
  pub ttl : s.ttl < 2 ^ 32
  pub each : AllByRecursion (λ d. IsTrue (is_data rtype d)) s.items

pub record IsEntry (e : Key × RecordSet) : Type 0 where
  pub owner : IsTrue (is_name e.0.0)
  pub rtype : e.0.1 < 2 ^ 16
  pub contents : IsSetOf e.0.1 e.1

-- .. of a stop of a walk
pub record IsWritableStop (s : Stop) : Type 0 where
  pub owner : IsTrue (is_name s.owner)
  pub rtype : s.rtype < 2 ^ 16
  pub contents : IsSetOf s.rtype s.contents

-- .. and all of a version
pub record IsWritable (v : Version) : Type 0 where
  pub apex : IsTrue (is_name v.apex)
  pub class : v.class < 2 ^ 16
  pub sets : AllByRecursion IsEntry v.sets
