-- The order of record data is total, and ties where data are equal.
use Rattle.std.proofs.Common.{◌≡◌, List, refl, sym, ap, true≢false}
use Rattle.std.specs.declared.cmp.Ordering.TheVariants.{Less, Equal}
use Rattle.std.specs.Ordering.{eq_by_cmp, ordering_reverse, is_eq, is_lt}
use Rattle.std.specs.Cmp.{IsTotalOrder}
use Rattle.std.specs.Cmp.Lexicographic.{lists_total, lists_ties, texts_ties, nat_list_cmp_total}
use Rattle.dns_name.specs.NameOrder.{canonical_total, canonical_ties}
use Rattle.dns_name.specs.Records.{Field, same_field, same_data}
use Rattle.dns_name.specs.Records.Field.{Octets, DomainName}
use Rattle.dns_rdata.specs.DataOrder.{field_cmp, data_cmp}

field_turned : (f g : Field) → field_cmp f g ≡ ordering_reverse (field_cmp g f)
field_turned (Octets a) (Octets b) = nat_list_cmp_total.antisymm a b
field_turned (Octets a) (DomainName n) = refl
field_turned (DomainName m) (Octets b) = refl
field_turned (DomainName m) (DomainName n) = canonical_total.antisymm m n

field_chain : (f g h : Field) → field_cmp f g ≡ Less → field_cmp g h ≡ Less → field_cmp f h ≡ Less
field_chain (Octets a) (Octets b) (Octets c) p q = nat_list_cmp_total.trans a b c p q
field_chain (Octets a) g (DomainName k) p q = refl
field_chain (Octets a) (DomainName n) (Octets c) p q = absurd (true≢false (sym (ap is_lt q)))
field_chain (DomainName m) (Octets b) h p q = absurd (true≢false (sym (ap is_lt p)))
field_chain (DomainName m) (DomainName n) (Octets c) p q = absurd (true≢false (sym (ap is_lt q)))
field_chain (DomainName m) (DomainName n) (DomainName k) p q = canonical_total.trans m n k p q

field_alike : (f g h : Field) → field_cmp f g ≡ Equal → field_cmp f h ≡ field_cmp g h
field_alike (Octets a) (Octets b) (Octets c) e = nat_list_cmp_total.congr a b c e
field_alike (Octets a) (Octets b) (DomainName k) e = refl
field_alike (Octets a) (DomainName n) h e = absurd (true≢false (sym (ap is_eq e)))
field_alike (DomainName m) (Octets b) h e = absurd (true≢false (sym (ap is_eq e)))
field_alike (DomainName m) (DomainName n) (Octets c) e = refl
field_alike (DomainName m) (DomainName n) (DomainName k) e = canonical_total.congr m n k e

field_ties : (f g : Field) → same_field f g ≡ eq_by_cmp field_cmp f g
field_ties (Octets a) (Octets b) = texts_ties a b
field_ties (Octets a) (DomainName n) = refl
field_ties (DomainName m) (Octets b) = refl
field_ties (DomainName m) (DomainName n) = canonical_ties m n

pub data_total : IsTotalOrder data_cmp
data_total = lists_total (record { antisymm = field_turned; trans = field_chain; congr = field_alike })

pub data_ties : (a b : List Field) → same_data a b ≡ eq_by_cmp data_cmp a b
data_ties a b = lists_ties field_cmp field_ties a b
