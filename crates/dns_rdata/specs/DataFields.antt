-- The fields of record data that have names, type by type (RFC 1035, 3.3; RFC 2782); those of octets alone are in `OctetFields`.
use Rattle.std.specs.Prelude.{ℕ, List, [], ◌∷◌, ◌++◌}
use Rattle.dns_name.specs.Octets.{u16_octets, u32_octets}
use Rattle.dns_name.specs.Records.{Field}
use Rattle.dns_name.specs.Records.Field.{Octets, DomainName}
use Rattle.dns_rdata.specs.declared.mail.Minfo.{Minfo}
use Rattle.dns_rdata.specs.declared.mail.Mx.{Mx}
use Rattle.dns_rdata.specs.declared.soa.Soa.{Soa}
use Rattle.dns_rdata.specs.declared.srv.Srv.{Srv}

-- data that are one name
abbrev pub name_fields : {N : Type 0} → (N → List (List ℕ)) → N → List Field
name_fields labels name = DomainName (labels name) ∷ []

-- the two mailboxes of a MINFO record
abbrev pub minfo_fields : {N : Type 0} → (N → List (List ℕ)) → Minfo N → List Field
minfo_fields labels d = DomainName (labels d.rmailbx) ∷ DomainName (labels d.emailbx) ∷ []

-- the preference and the exchange of an MX record
abbrev pub mx_fields : {N : Type 0} → (N → List (List ℕ)) → Mx N → List Field
mx_fields labels d = Octets (u16_octets d.preference) ∷ DomainName (labels d.exchange) ∷ []

-- the three numbers of SRV data: priority, weight, port
unfoldable pub srv_numbers : {N : Type 0} → Srv N → List ℕ
srv_numbers d = u16_octets d.priority ++ u16_octets d.weight ++ u16_octets d.port

-- the three numbers and the target of an SRV record
abbrev pub srv_fields : {N : Type 0} → (N → List (List ℕ)) → Srv N → List Field
srv_fields labels d = Octets (srv_numbers d) ∷ DomainName (labels d.target) ∷ []

-- the five numbers of SOA data: serial, refresh, retry, expire, minimum
unfoldable pub soa_times : {N : Type 0} → Soa N → List ℕ
soa_times soa = u32_octets soa.serial ++ u32_octets soa.refresh ++ u32_octets soa.retry ++ u32_octets soa.expire ++ u32_octets soa.minimum

-- the two names and the five numbers of an SOA record
abbrev pub soa_fields : {N : Type 0} → (N → List (List ℕ)) → Soa N → List Field
soa_fields labels soa = DomainName (labels soa.mname) ∷ DomainName (labels soa.rname) ∷ Octets (soa_times soa) ∷ []
