-- What worked examples are made of.
use Rattle.std.specs.Prelude.{ℕ, List, [], ◌∷◌, codes}
use Rattle.dns_rdata.specs.Records.{Field}
use Rattle.dns_rdata.specs.Records.Field.{Octets, DomainName}

-- the address 192.0.2.n, and an alias of a name of one label
abbrev pub host : ℕ → List Field
host n = Octets (192 ∷ 0 ∷ 2 ∷ n ∷ []) ∷ []

abbrev pub alias : List ℕ → List Field
alias label = DomainName (label ∷ []) ∷ []
