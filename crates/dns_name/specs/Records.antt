-- Resource records and their data (RFC 1035, 3.2.1 and 3.3; RFC 2782; RFC 3596; RFC 4034, 5.1; RFC 3597).
use Rattle.std.specs.Prelude.{ℕ, zero, suc, ◌+◌, ◌-◌, ◌/◌, take, drop, ◌==◌, ◌&&◌, nat_lt, nat_le, Bool, true, false, List, [], ◌∷◌, ◌++◌, length, flat_map, Option, Some, None, if◌then◌else◌}
use Rattle.std.specs.List.{list_any}
use Rattle.std.specs.Cmp.Lexicographic.{pointwise}
use Rattle.std.specs.Str.{bytes_eq}
use Rattle.dns_name.specs.Octets.{u16_octets, u32_octets, ◌>>=◌, octets_at}
use Rattle.dns_name.specs.Names.{Name, name_wire, is_name, fold, same_name}
use Rattle.dns_name.specs.Compression.{name_at}

-- a piece of record data: plain octets, or a domain name
pub data Field : Type 0 where
  Octets : (octets : List ℕ) → Field
  DomainName : (name : Name) → Field

-- a resource record (RFC 1035, 3.2.1)
pub record Record : Type 0 where
  pub owner : Name
  pub rtype : ℕ
  pub class : ℕ
  pub ttl : ℕ
  pub fields : List Field

-- ---- the grammar of the data, by type

-- what a type's data consist of, piece by piece
pub data Part : Type 0 where
  Exactly : ℕ → Part  -- so many octets
  AtLeast : ℕ → Part  -- all octets that are left, so many or more
  Strings : Part  -- one or more character strings, to the end (RFC 1035, 3.3.14)
  Named : Part  -- a domain name

-- the types whose data are one domain name: NS, MD, MF, CNAME, MB, MG, MR, PTR (RFC 1035, 3.3)
abbrev pub is_one_name : ℕ → Bool
is_one_name rtype = list_any (λ t. t == rtype) (2 ∷ 3 ∷ 4 ∷ 5 ∷ 7 ∷ 8 ∷ 9 ∷ 12 ∷ [])

-- the types whose data are read piece by piece: those, A, SOA, MINFO, MX, TXT, AAAA, SRV and DS
abbrev pub is_known_type : ℕ → Bool
is_known_type rtype = list_any (λ t. t == rtype) (1 ∷ 2 ∷ 3 ∷ 4 ∷ 5 ∷ 6 ∷ 7 ∷ 8 ∷ 9 ∷ 12 ∷ 14 ∷ 15 ∷ 16 ∷ 28 ∷ 33 ∷ 43 ∷ [])

-- the pieces of a type's data; those of a type that isn't known are octets (RFC 3597, 3)
abbrev pub parts : ℕ → List Part
parts rtype =
    if rtype == 1 then Exactly 4 ∷ []  -- A (RFC 1035, 3.4.1)
    else if is_one_name rtype then Named ∷ []
    else if rtype == 6 then Named ∷ Named ∷ Exactly 20 ∷ []  -- SOA (RFC 1035, 3.3.13)
    else if rtype == 14 then Named ∷ Named ∷ []  -- MINFO (RFC 1035, 3.3.7)
    else if rtype == 15 then Exactly 2 ∷ Named ∷ []  -- MX (RFC 1035, 3.3.9)
    else if rtype == 16 then Strings ∷ []  -- TXT (RFC 1035, 3.3.14)
    else if rtype == 28 then Exactly 16 ∷ []  -- AAAA (RFC 3596, 2.2)
    else if rtype == 33 then Exactly 6 ∷ Named ∷ []  -- SRV (RFC 2782)
    else if rtype == 43 then AtLeast 4 ∷ []  -- DS (RFC 4034, 5.1)
    else AtLeast 0 ∷ []

-- whether the octets are whole character strings, after n more octets of the one before
abbrev pub are_strings_after : ℕ → List ℕ → Bool
are_strings_after zero [] = true
are_strings_after (suc n) [] = false
are_strings_after zero (len ∷ rest) = are_strings_after len rest
are_strings_after (suc n) (c ∷ rest) = are_strings_after n rest

-- whether the octets are character strings, at least one, each led by an octet that tells its length (RFC 1035, 3.3 and 3.3.14)
abbrev pub are_strings : List ℕ → Bool
are_strings [] = false
are_strings (len ∷ rest) = are_strings_after len rest

-- the character strings of a text, at most n of them: 255 octets each, and the last one what is left
abbrev pub strings_within : ℕ → List ℕ → List ℕ
strings_within zero text = []
strings_within (suc n) text = if nat_le (length text) 255 then length text ∷ text else 255 ∷ take 255 text ++ strings_within n (drop 255 text)

-- TXT data of a text (RFC 1035, 3.3.14); no text is one empty string
abbrev pub text_strings : List ℕ → List ℕ
text_strings text = strings_within (length text / 255 + 1) text

-- at most n character strings of octets, each without the octet that tells its length; of one that is cut short, what there is
abbrev pub strings_from : ℕ → List ℕ → List (List ℕ)
strings_from zero octets = []
strings_from (suc n) [] = []
strings_from (suc n) (len ∷ rest) = take len rest ∷ strings_from n (drop len rest)

-- the character strings of octets, in order (RFC 1035, 3.3); there are no more of them than octets
abbrev pub strings_in : List ℕ → List (List ℕ)
strings_in octets = strings_from (length octets) octets

-- whether the piece may be this field
abbrev pub part_allows : Part → Field → Bool
part_allows (Exactly n) (Octets octets) = length octets == n
part_allows (AtLeast n) (Octets octets) = nat_le n (length octets)
part_allows Strings (Octets octets) = are_strings octets
part_allows Named (DomainName name) = is_name name
part_allows (Exactly n) (DomainName name) = false
part_allows (AtLeast n) (DomainName name) = false
part_allows Strings (DomainName name) = false
part_allows Named (Octets octets) = false

-- ---- wire form

-- a field as it is sent, names without compression
abbrev pub field_wire : Field → List ℕ
field_wire (Octets octets) = octets
field_wire (DomainName name) = name_wire name

-- RDATA as it is sent: the fields one after another
abbrev pub data_wire : List Field → List ℕ
data_wire fields = flat_map field_wire fields

-- a record as it is sent, without compression (RFC 1035, 3.2.1)
abbrev pub record_wire : Record → List ℕ
record_wire r = name_wire r.owner ++ u16_octets r.rtype ++ u16_octets r.class ++ u32_octets r.ttl
    ++ u16_octets (length (data_wire r.fields)) ++ data_wire r.fields

-- whether the data have the pieces of their type and fit RDLENGTH
abbrev pub is_data : ℕ → List Field → Bool
is_data rtype fields = pointwise part_allows (parts rtype) fields && nat_lt (length (data_wire fields)) 65536

-- ---- equality

-- a field with a name's letters in lower case
abbrev pub fold_field : Field → Field
fold_field (Octets octets) = Octets octets
fold_field (DomainName name) = DomainName (fold name)

-- whether two fields are equal, names ASCII case aside and octets as they are (RFC 2181, 5; RFC 4343, 3)
abbrev pub same_field : Field → Field → Bool
same_field (Octets a) (Octets b) = bytes_eq a b
same_field (DomainName a) (DomainName b) = same_name a b
same_field (Octets a) (DomainName b) = false
same_field (DomainName a) (Octets b) = false

-- whether the data of two records of one type are equal (RFC 2181, 5)
abbrev pub same_data : List Field → List Field → Bool
same_data a b = pointwise same_field a b

-- whether the data of two records are equal: type and fields (RFC 2181, 5)
abbrev pub same_type_and_data : Record → Record → Bool
same_type_and_data a b = a.rtype == b.rtype && same_data a.fields b.fields

-- ---- reading

-- the octets from place p on to the end of the data, all of which lie in the message
abbrev pub rest_at : List ℕ → ℕ → ℕ → Option (List ℕ × ℕ)
rest_at message end p = if nat_le p end then octets_at (end - p) message p else None

-- the field for one piece at place p of data that end at a place
abbrev pub field_at : Part → List ℕ → ℕ → ℕ → Option (Field × ℕ)
field_at (Exactly n) message end p = do
  (octets, after) ← octets_at n message p
  Some (Octets octets, after)
field_at (AtLeast n) message end p = do
  (octets, after) ← rest_at message end p
  if nat_le n (length octets) then Some (Octets octets, after) else None
field_at Strings message end p = do
  (octets, after) ← rest_at message end p
  if are_strings octets then Some (Octets octets, after) else None
field_at Named message end p = do
  (name, after) ← name_at message p
  Some (DomainName name, after)

-- the fields for the pieces, one after another, the last one ending exactly where the data end
unfoldable pub fields_at : List Part → List ℕ → ℕ → ℕ → Option (List Field)
fields_at [] message end p = if p == end then Some [] else None
fields_at (part ∷ rest) message end p = do
  (field, after) ← field_at part message end p
  fields ← fields_at rest message end after
  Some (field ∷ fields)
