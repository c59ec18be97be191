-- What lent fields of record data are.
use Rattle.std.specs.Prelude.{ℕ, List, [], ◌∷◌, ◌++◌}
use Rattle.dns_name.specs.Records.{Field}
use Rattle.dns_name.specs.Records.Field.{Octets as OctetField, DomainName as NameField}
use Rattle.dns_name.specs.declared.lent_fields.Numbers.{Numbers}
use Rattle.dns_name.specs.declared.lent_fields.Numbers.TheVariants.{Absent, Two as TwoOctets, Four, Six, Twenty}
use Rattle.dns_name.specs.declared.lent_fields.LentField.{LentField}
use Rattle.dns_name.specs.declared.lent_fields.LentField.TheVariants.{Octets, DomainName}
use Rattle.dns_name.specs.declared.lent_fields.LentFields.{LentFields}
use Rattle.dns_name.specs.declared.lent_fields.LentFields.TheVariants.{One, Two, Three}

-- numbers as they are sent
abbrev pub numbers_wire : Numbers → List ℕ
numbers_wire Absent = []
numbers_wire (TwoOctets octets) = octets
numbers_wire (Four octets) = octets
numbers_wire (Six octets) = octets
numbers_wire (Twenty octets) = octets

-- the field that is lent
abbrev pub field_of : {N : Type 0} → (N → List (List ℕ)) → LentField N → Field
field_of labels (Octets numbers octets) = OctetField (numbers_wire numbers ++ octets.now)
field_of labels (DomainName name) = NameField (labels name.now)

-- the fields that are lent
abbrev pub fields_in : {N : Type 0} → (N → List (List ℕ)) → LentFields N → List Field
fields_in labels (One f) = field_of labels f ∷ []
fields_in labels (Two f g) = field_of labels f ∷ field_of labels g ∷ []
fields_in labels (Three f g h) = field_of labels f ∷ field_of labels g ∷ field_of labels h ∷ []
