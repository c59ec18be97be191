-- What refusals print.
use Rattle.std.specs.Prelude.{ℕ, List, [], ◌∷◌, Option, Some, None, codes}
use Rattle.std.specs.Fmt.{◌++?◌}
use Rattle.dns_name.specs.Names.{Name, name_text}
use Rattle.dns_name.specs.Records.{Record}

-- of a missing SOA record, with the record that stands first, if there is one
abbrev pub soa_text : Option Record → List ℕ
soa_text None = codes "The SOA record was not found."
soa_text (Some r) = codes "The SOA record was not found, found this record instead"

-- one of a list: its text after its name in quotes, with a comma behind it; nothing is said where its own text isn't known
abbrev pub refusal_text : {T : Type 0} → (T → Option (List ℕ)) → Name × T → Option (List ℕ)
refusal_text shown e = Some (codes "'") ++? Some (name_text e.0) ++? Some (codes "': ") ++? shown e.1 ++? Some (codes ",")

-- those of a list, one after another
abbrev pub refusals_text : {T : Type 0} → (T → Option (List ℕ)) → List (Name × T) → Option (List ℕ)
refusals_text shown [] = Some []
refusals_text shown (e ∷ rest) = refusal_text shown e ++? refusals_text shown rest

-- the list, in brackets
abbrev pub list_text : {T : Type 0} → (T → Option (List ℕ)) → List (Name × T) → Option (List ℕ)
list_text shown errors = Some (codes "Zone file errors: [") ++? refusals_text shown errors ++? Some (codes "]")
