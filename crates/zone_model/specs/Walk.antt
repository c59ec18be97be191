-- The sets of a version in order (RFC 4034, 6.1).
use Rattle.std.specs.Prelude.{ℕ, Bool, if◌then◌else◌, List, map, flat_map, find, Option, is_some}
use Rattle.std.specs.Ordering.{is_gt}
use Rattle.dns_name.specs.Names.{Name, fold, same_name}
use Rattle.dns_name.specs.Records.{Record}
use Rattle.zone_model.specs.Version.{RecordSet, Key, key_cmp, Version}
use Rattle.zone_model.specs.Answer.{highest_cut, records_of}

-- one stop of a walk: a set with its owner and type, and whether a cut stands at the owner or above it
pub record Stop : Type 0 where
  pub owner : Name
  pub rtype : ℕ
  pub contents : RecordSet
  pub below_cut : Bool

-- an owner as a reader sees it: the apex as it was given, others in lower case
abbrev pub shown_owner : Version → Name → Name
shown_owner v n = if same_name n v.apex then v.apex else n

-- all sets, none twice: by owner in canonical order, then by type (RFC 4034, 6.1)
abbrev pub walk : Version → List Stop
walk v = map (λ (e : Key × RecordSet). record { owner = shown_owner v e.0.0; rtype = e.0.1; contents = e.1; below_cut = is_some (highest_cut v e.0.0) }) v.sets

-- the records of a walk, in order
abbrev pub records_of_version : Version → List Record
records_of_version v = flat_map (λ (s : Stop). records_of s.owner s.rtype v.class s.contents) (walk v)

-- the first stop after an owner and type
abbrev pub next_stop : Version → Name → ℕ → Option Stop
next_stop v owner rtype = find (λ (s : Stop). is_gt (key_cmp (fold s.owner, s.rtype) (fold owner, rtype))) (walk v)
