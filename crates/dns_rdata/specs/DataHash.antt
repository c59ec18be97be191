-- What record data give to a hash: the type, then field by field. Equal data give the same.
use Rattle.std.proofs.Common.{◌≡◌, refl, sym, ap, true≢false}
use Rattle.std.specs.Prelude.{List, [], ◌∷◌, ◌++◌, ◌==◌, flat_map, IsTrue}
use Rattle.std.specs.Hash.{HashWrites, slice, u8, u16, Alike, and-Alike, on_Alike, same_Alike}
use Rattle.std.specs.Cmp.{unsigned_Decides, first_so, second_so}
use Rattle.std.specs.Cmp.Lexicographic.{bytes_decides}
use Rattle.dns_name.specs.Names.{Name}
use Rattle.dns_name.specs.NameOrder.{name_hash, same_hash}
use Rattle.dns_name.specs.Records.{Field, same_field, same_data}
use Rattle.dns_name.specs.Records.Field.{Octets, DomainName}
use Rattle.dns_rdata.specs.ZoneData.{rtype_of, fields_of, same_zone_data}
use Rattle.dns_rdata.specs.declared.zone_data.ZoneRecordData.{ZoneRecordData}

-- what a field gives to a hash: octets as they are, a name in lower case, either led by its length
abbrev pub field_hash : Field → HashWrites
field_hash (Octets octets) = slice u8 octets
field_hash (DomainName name) = name_hash name

-- what fields give to a hash, one after another
abbrev pub fields_hash : List Field → HashWrites
fields_hash fields = flat_map field_hash fields

-- what data give to a hash: the type, then the fields
abbrev pub zone_data_hash : {O N : Type 0} → (N → Name) → ZoneRecordData O N → HashWrites
zone_data_hash labels d = u16 (rtype_of d) ++ fields_hash (fields_of labels d)

field_alike : (f g : Field) → IsTrue (same_field f g) → field_hash f ≡ field_hash g
field_alike (Octets a) (Octets b) e = ap (slice u8) ((bytes_decides a b).0 e)
field_alike (Octets a) (DomainName n) e = absurd (true≢false (sym e))
field_alike (DomainName m) (Octets b) e = absurd (true≢false (sym e))
field_alike (DomainName m) (DomainName n) e = same_hash m n e

fields_fed : (a b : List Field) → IsTrue (same_data a b) → fields_hash a ≡ fields_hash b
fields_fed [] [] e = refl
fields_fed [] (g ∷ b) e = absurd (true≢false (sym e))
fields_fed (f ∷ a) [] e = absurd (true≢false (sym e))
fields_fed (f ∷ a) (g ∷ b) e = λ i. field_alike f g (first_so (same_field f g) (same_data a b) e) i ++ fields_fed a b (second_so (same_field f g) (same_data a b) e) i

pub type_alike : Alike (λ s t. s == t) u16
type_alike = same_Alike u16 unsigned_Decides

pub fields_alike : Alike same_data fields_hash
fields_alike = record { fed = fields_fed }

pub same_zone_data_hash : {O N : Type 0} (labels : N → Name) (a b : ZoneRecordData O N) → IsTrue (same_zone_data labels labels a b) → zone_data_hash labels a ≡ zone_data_hash labels b
same_zone_data_hash labels = (and-Alike (on_Alike rtype_of type_alike) (on_Alike (fields_of labels) fields_alike)).fed
