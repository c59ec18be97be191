use Rattle.std.proofs.Common.{◌≡◌, ◌<◌, ◌^◌, refl, sym, ap, ◌∙◌, subst, arith}
use Rattle.std.specs.Prelude.{IsTrue}
use Rattle.dns_name.specs.Names.{is_name}
use Rattle.dns_numbers.specs.Codes.{type_soa}
use Rattle.dns_rdata.specs.Records.{is_data}
use Rattle.dns_rdata.specs.ZoneData.{rtype_of, data_fields}
use Rattle.zone_values.specs.TypedEntries.{untyped}
use Rattle.zone_versions.proofs.TypedStops.{untyped_typed}
use Rattle.zone_values.proofs.ApexSoa.{soa_none, record_with, looked_up_type, no_soa_data}
use Rattle.xfr_client.proofs.Requests.{pushed_nothing, pushed_soa, no_forms, soa_forms}
use Rattle.xfr_client.proofs.exchange.push_soa.Goals as goal

pub returns-in_default-clause-pushes : goal.returns-in_default-clause-pushes
returns-in_default-clause-pushes c =
    let found = rw c.apex_name.ensures at c.in_default.ensures in
    pushed_nothing _ c.args.authority.now (soa_none c.args.zone.now.version (sym (ap untyped found ∙ untyped_typed type_soa _)))

pub returns-in_default-clause-forms : goal.returns-in_default-clause-forms
returns-in_default-clause-forms c =
    let found = rw c.apex_name.ensures at c.in_default.ensures in
    no_forms _ (soa_none c.args.zone.now.version (sym (ap untyped found ∙ untyped_typed type_soa _)))

pub returns-in_default-first-clause-pushes : goal.returns-in_default-first-clause-pushes
returns-in_default-first-clause-pushes c =
    let found = rw c.apex_name.ensures at c.in-Some.ensures in
    pushed_nothing _ c.args.authority.now
    (no_soa_data data_fields c.data.result.now c.args.zone.now.version c.in-Some.found.now.contents (ap untyped found ∙ untyped_typed type_soa _) c.in_default-first.ensures.value c.data.ensures.fields)

pub returns-in_default-first-clause-forms : goal.returns-in_default-first-clause-forms
returns-in_default-first-clause-forms c =
    let found = rw c.apex_name.ensures at c.in-Some.ensures in
    no_forms _
    (no_soa_data data_fields c.data.result.now c.args.zone.now.version c.in-Some.found.now.contents (ap untyped found ∙ untyped_typed type_soa _) c.in_default-first.ensures.value c.data.ensures.fields)

pub returns-clause-pushes : goal.returns-clause-pushes
returns-clause-pushes c =
    let v = c.args.zone.now.version in
    let found = rw c.apex_name.ensures at c.in-Some.ensures in
    let typed : rtype_of c.in-Some-first.rdata.now ≡ type_soa = looked_up_type rtype_of type_soa c.data.result.now c.in-Some-first.rdata.now c.in-Some.found.now _ c.in-Some-first.ensures.value c.data.ensures.types found in
    let made : c.new.result ≡ record_with v.apex type_soa v.class c.in-Some.found.now.contents.ttl (data_fields c.in-Some-first.rdata.now) =
    c.new.ensures ∙ rw (c.borrowed-owner.ensures.value, c.apex_name-2.ensures, c.class.ensures, c.ttl.ensures, typed) refl in
    pushed_soa data_fields c.data.result.now c.in-Some-first.rdata.now v c.in-Some.found.now.contents c.new.result c.args.authority.now c.push.new.self c.push.result
    (ap untyped found ∙ untyped_typed type_soa _) c.in-Some-first.ensures.value c.data.ensures.fields made c.push.ensures.adds

pub returns-clause-forms : goal.returns-clause-forms
returns-clause-forms c =
    let v = c.args.zone.now.version in
    let found = rw c.apex_name.ensures at c.in-Some.ensures in
    let typed : rtype_of c.in-Some-first.rdata.now ≡ type_soa = looked_up_type rtype_of type_soa c.data.result.now c.in-Some-first.rdata.now c.in-Some.found.now _ c.in-Some-first.ensures.value c.data.ensures.types found in
    soa_forms data_fields c.data.result.now c.in-Some-first.rdata.now v c.in-Some.found.now.contents
    (ap untyped found ∙ untyped_typed type_soa _) c.in-Some-first.ensures.value c.data.ensures.fields
    (subst (λ n. IsTrue (is_name n)) c.apex_name-2.ensures c.borrowed-owner.ensures.name)
    (subst (λ n. n < 2 ^ 16) c.class.ensures (omega (arith, c.class.type_inv)))
    (subst (λ n. n < 2 ^ 32) c.ttl.ensures (omega (arith, c.ttl.type_inv)))
    (subst (λ t. IsTrue (is_data t (data_fields c.in-Some-first.rdata.now))) typed c.rdlen-len.ensures.pieces)
