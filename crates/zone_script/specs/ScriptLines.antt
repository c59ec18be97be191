-- The lines of the program's script, each by itself: numbers and octets as they are written, and what a line says.
use Rattle.std.specs.Prelude.{ℕ, ◌+◌, ◌-◌, ◌*◌, ◌^◌, Bool, true, false, ◌&&◌, ◌==◌, nat_lt, nat_le, if◌then◌else◌, List, [], ◌∷◌, length, Option, Some, None, option_and_then, option_map, codes, bytes_eq}
use Rattle.std.specs.Result.{result_ok}
use Rattle.std.specs.List.{slice_split}
use Rattle.hex.specs.Hex.{decode_of}
use Rattle.dns_name.specs.Names.{Name}
use Rattle.dns_rdata.specs.Records.{Record}

-- the lines, each ended by 0x0a, which the last may lack
abbrev pub lines_of_parts : List (List ℕ) → List (List ℕ)
lines_of_parts [] = []
lines_of_parts (l ∷ []) = if length l == 0 then [] else l ∷ []
lines_of_parts (l ∷ m ∷ more) = l ∷ lines_of_parts (m ∷ more)

abbrev pub script_lines : List ℕ → List (List ℕ)
script_lines octets = lines_of_parts (slice_split (λ o. o == 10) octets)

-- decimal digits without a sign or a leading zero
abbrev pub digit_of : ℕ → Option ℕ
digit_of o = if nat_le 48 o && nat_le o 57 then Some (o - 48) else None

abbrev pub more_digits : Option ℕ → List ℕ → Option ℕ
more_digits n [] = n
more_digits n (o ∷ more) = more_digits (option_and_then (λ k. option_map (λ d. k * 10 + d) (digit_of o)) n) more

abbrev pub leads_with_zero : List ℕ → Bool
leads_with_zero [] = false
leads_with_zero (o ∷ []) = false
leads_with_zero (o ∷ p ∷ more) = o == 48

abbrev pub number_of : List ℕ → Option ℕ
number_of [] = None
number_of (o ∷ more) = if leads_with_zero (o ∷ more) then None else more_digits (digit_of o) more

abbrev pub number_below : ℕ → List ℕ → Option ℕ
number_below bound digits = option_and_then (λ n. if nat_lt n bound then Some n else None) (number_of digits)

abbrev pub hex_of : List ℕ → Option (List ℕ)
hex_of text = if length text == 0 then None else result_ok (decode_of text)

-- an edit of the primary's zone
pub data Change : Type 0 where
  Plus : (added : Record) → Change
  Minus : (deleted : Record) → Change
  Commit : Change

-- a line as it is read
pub data Line (K : Type 0) : Type 0 where
  ZoneLine : (apex : Name) (class : ℕ) → Line K
  KeyLine : (key : K) → Line K
  AtLine : (primary secondary : ℕ) → Line K
  PrimaryLine : (found : Record) → Line K
  SecondaryLine : (found : Record) → Line K
  ChangeLine : (change : Change) → Line K
  QueryLine : (name : Name) (rtype : ℕ) → Line K

abbrev pub stage_of : {K : Type 0} → Line K → ℕ
stage_of (ZoneLine n c) = 1
stage_of (KeyLine k) = 2
stage_of (AtLine p s) = 3
stage_of (PrimaryLine r) = 4
stage_of (SecondaryLine r) = 5
stage_of (ChangeLine c) = 6
stage_of (QueryLine n t) = 7

-- how names, records and keys are read: whole octets, without pointers
pub record Readers (K : Type 0) : Type 0 where
  pub name : List ℕ → Option Name
  pub found : List ℕ → Option Record
  pub key : List (List ℕ) → Option K

-- the fields after a word: none, one or two
abbrev pub no_fields : {A : Type 0} → A → List (List ℕ) → Option A
no_fields x [] = Some x
no_fields x _ = None

abbrev pub one_field : {A : Type 0} → (List ℕ → Option A) → List (List ℕ) → Option A
one_field read (x ∷ []) = read x
one_field read _ = None

abbrev pub two_fields : {A : Type 0} → (List ℕ → List ℕ → Option A) → List (List ℕ) → Option A
two_fields read (x ∷ y ∷ []) = read x y
two_fields read _ = None

abbrev pub both : {A B C : Type 0} → (A → B → C) → Option A → Option B → Option C
both f a b = option_and_then (λ x. option_map (f x) b) a

-- the two moments
abbrev pub at_line : {K : Type 0} → List ℕ → List ℕ → Option (Line K)
at_line primary secondary = both AtLine (number_below (2 ^ 48) primary) (number_below (2 ^ 48) secondary)

-- a record, but none of the types of questions or signatures alone, from TSIG to ANY (RFC 6895, 3.1)
abbrev pub data_only : Record → Option Record
data_only r = if nat_le 250 r.rtype && nat_le r.rtype 255 then None else Some r

module _ {K : Type 0} (readers : Readers K) where
  -- a record line's record
  abbrev pub record_field : List ℕ → Option Record
  record_field text = option_and_then data_only (option_and_then readers.found (hex_of text))

  abbrev pub name_field : List ℕ → Option Name
  name_field text = option_and_then readers.name (hex_of text)

  -- what a line says whose fields are a name and a number, or one record
  abbrev pub zone_line : List ℕ → List ℕ → Option (Line K)
  zone_line name class = both ZoneLine (name_field name) (number_below (2 ^ 16) class)

  abbrev pub query_line : List ℕ → List ℕ → Option (Line K)
  query_line name rtype = both QueryLine (name_field name) (number_below (2 ^ 16) rtype)

  abbrev pub record_line : (Record → Line K) → List ℕ → Option (Line K)
  record_line line field = option_map line (record_field field)

  abbrev pub read_word : List ℕ → List (List ℕ) → Option (Line K)
  read_word word fields =
      if bytes_eq word (codes "zone") then two_fields zone_line fields
      else if bytes_eq word (codes "key") then option_map KeyLine (readers.key fields)
      else if bytes_eq word (codes "at") then two_fields at_line fields
      else if bytes_eq word (codes "p") then one_field (record_line PrimaryLine) fields
      else if bytes_eq word (codes "s") then one_field (record_line SecondaryLine) fields
      else if bytes_eq word (codes "-") then one_field (record_line (λ r. ChangeLine (Minus r))) fields
      else if bytes_eq word (codes "+") then one_field (record_line (λ r. ChangeLine (Plus r))) fields
      else if bytes_eq word (codes "commit") then no_fields (ChangeLine Commit) fields
      else if bytes_eq word (codes "query") then two_fields query_line fields
      else None

  abbrev pub read_fields : List (List ℕ) → Option (Line K)
  read_fields [] = None
  read_fields (word ∷ fields) = read_word word fields

  abbrev pub read_line : List ℕ → Option (Line K)
  read_line line = read_fields (slice_split (λ o. o == 32) line)

-- empty lines and comments are passed over
abbrev pub is_skipped : List ℕ → Bool
is_skipped [] = true
is_skipped (o ∷ more) = o == 35
