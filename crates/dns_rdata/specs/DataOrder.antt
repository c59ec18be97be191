-- An order of record data whose ties are equal data (RFC 2181, 5): field by field, octets as strings and before names, names in
-- canonical order (RFC 4034, 6.1).
use Rattle.std.specs.Prelude.{List}
use Rattle.std.specs.Ordering.{nat_cmp}
use Rattle.std.specs.declared.cmp.Ordering.{Ordering}
use Rattle.std.specs.declared.cmp.Ordering.TheVariants.{Less, Greater}
use Rattle.std.specs.Cmp.Lexicographic.{slice_cmp}
use Rattle.dns_name.specs.Names.{canonical_cmp}
use Rattle.dns_name.specs.Records.{Field}
use Rattle.dns_name.specs.Records.Field.{Octets, DomainName}

abbrev pub field_cmp : Field → Field → Ordering
field_cmp (Octets a) (Octets b) = slice_cmp nat_cmp a b
field_cmp (Octets a) (DomainName n) = Less
field_cmp (DomainName m) (Octets b) = Greater
field_cmp (DomainName m) (DomainName n) = canonical_cmp m n

abbrev pub data_cmp : List Field → List Field → Ordering
data_cmp a b = slice_cmp field_cmp a b
