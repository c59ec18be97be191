-- The type and the fields of record data of any type (RFC 1035, 3.2.2 and 3.3; RFC 3597, 3).
use Rattle.std.specs.Prelude.{ℕ, ◌==◌, ◌&&◌, Bool, List}
use Rattle.std.specs.Ordering.{nat_cmp, ordering_then}
use Rattle.std.specs.declared.cmp.Ordering.{Ordering}
use Rattle.dns_name.specs.Names.{Name}
use Rattle.dns_name.specs.Records.{Field, same_data}
use Rattle.dns_rdata.specs.DataOrder.{data_cmp}
use Rattle.dns_rdata.specs.OctetFields.{a_fields, aaaa_fields, txt_fields, ds_fields, unknown_fields}
use Rattle.dns_rdata.specs.DataFields.{name_fields, minfo_fields, mx_fields, srv_fields, soa_fields}
use Rattle.dns_rdata.specs.declared.zone_data.ZoneRecordData.{ZoneRecordData}
use Rattle.dns_rdata.specs.declared.zone_data.ZoneRecordData.TheVariants.{A, Aaaa, Ns, Md, Mf, Mb, Mg, Mr, Cname, Ptr, Minfo, Mx, Srv, Soa, Txt, Ds, Unknown}

-- TYPE (RFC 1035, 3.2.2)
abbrev pub rtype_of : {O N : Type 0} → ZoneRecordData O N → ℕ
rtype_of (A d) = 1
rtype_of (Aaaa d) = 28
rtype_of (Ns d) = 2
rtype_of (Md d) = 3
rtype_of (Mf d) = 4
rtype_of (Mb d) = 7
rtype_of (Mg d) = 8
rtype_of (Mr d) = 9
rtype_of (Cname d) = 5
rtype_of (Ptr d) = 12
rtype_of (Minfo d) = 14
rtype_of (Mx d) = 15
rtype_of (Srv d) = 33
rtype_of (Soa d) = 6
rtype_of (Txt d) = 16
rtype_of (Ds d) = 43
rtype_of (Unknown d) = d.rtype

-- the data as fields (RFC 1035, 3.3)
abbrev pub fields_of : {O N : Type 0} → (N → List (List ℕ)) → ZoneRecordData O N → List Field
fields_of labels (A d) = a_fields d
fields_of labels (Aaaa d) = aaaa_fields d
fields_of labels (Ns d) = name_fields labels d
fields_of labels (Md d) = name_fields labels d
fields_of labels (Mf d) = name_fields labels d
fields_of labels (Mb d) = name_fields labels d
fields_of labels (Mg d) = name_fields labels d
fields_of labels (Mr d) = name_fields labels d
fields_of labels (Cname d) = name_fields labels d
fields_of labels (Ptr d) = name_fields labels d
fields_of labels (Minfo d) = minfo_fields labels d
fields_of labels (Mx d) = mx_fields labels d
fields_of labels (Srv d) = srv_fields labels d
fields_of labels (Soa d) = soa_fields labels d
fields_of labels (Txt d) = txt_fields d
fields_of labels (Ds d) = ds_fields d
fields_of labels (Unknown d) = unknown_fields d

-- the data as fields, where the names are known by their labels
abbrev pub data_fields : {O : Type 0} → ZoneRecordData O Name → List Field
data_fields d = fields_of (λ n. n) d

-- whether data are equal: type and fields, names ASCII case aside (RFC 2181, 5)
abbrev pub same_zone_data : {O P M N : Type 0} → (M → Name) → (N → Name) → ZoneRecordData O M → ZoneRecordData P N → Bool
same_zone_data m n a b = rtype_of a == rtype_of b && same_data (fields_of m a) (fields_of n b)

-- an order of data whose ties are equal data: by type, then by fields
abbrev pub zone_data_cmp : {O P M N : Type 0} → (M → Name) → (N → Name) → ZoneRecordData O M → ZoneRecordData P N → Ordering
zone_data_cmp m n a b = ordering_then (nat_cmp (rtype_of a) (rtype_of b)) (data_cmp (fields_of m a) (fields_of n b))
