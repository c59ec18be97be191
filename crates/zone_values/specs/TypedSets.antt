-- Records and record sets without their owner (RFC 2181, 5).
use Rattle.std.specs.Prelude.{ℕ, Bool, ◌==◌, ◌&&◌, List, [], ◌∷◌, ◌++◌, Option, option_map, min}
use Rattle.std.specs.Cmp.Lexicographic.{pointwise}
use Rattle.dns_rdata.specs.Records.{Field, same_data}
use Rattle.zone_model.specs.Version.{RecordSet, first_or_none}

-- a record without its owner and class
pub record TypedRecord : Type 0 where
  pub rtype : ℕ
  pub ttl : ℕ
  pub fields : List Field

-- a set with its type
pub record TypedSet : Type 0 where
  pub rtype : ℕ
  pub contents : RecordSet

-- one type, one TTL and equal data
abbrev pub same_typed_record : TypedRecord → TypedRecord → Bool
same_typed_record r s = (r.rtype == s.rtype) && (r.ttl == s.ttl) && same_data r.fields s.fields

-- one type, one TTL and equal data in the same order
abbrev pub same_typed_set : TypedSet → TypedSet → Bool
same_typed_set s t = (s.rtype == t.rtype) && (s.contents.ttl == t.contents.ttl) && pointwise same_data s.contents.items t.contents.items

-- the set of these data
abbrev pub set_of : ℕ → ℕ → List (List Field) → TypedSet
set_of rtype ttl items = record { rtype = rtype; contents = record { ttl = ttl; items = items } }

-- the set with another TTL
abbrev pub with_ttl : TypedSet → ℕ → TypedSet
with_ttl s ttl = set_of s.rtype ttl s.contents.items

-- the set with data put last
abbrev pub with_data : TypedSet → List Field → TypedSet
with_data s fields = set_of s.rtype s.contents.ttl (s.contents.items ++ fields ∷ [])

-- the set with a record's data put last, and the lower TTL of both
abbrev pub with_record : TypedSet → ℕ → List Field → TypedSet
with_record s ttl fields = set_of s.rtype (min s.contents.ttl ttl) (s.contents.items ++ fields ∷ [])

-- the first record of a set
abbrev pub first_record : TypedSet → Option TypedRecord
first_record s = option_map (λ (fields : List Field). record { rtype = s.rtype; ttl = s.contents.ttl; fields = fields }) (first_or_none s.contents.items)
