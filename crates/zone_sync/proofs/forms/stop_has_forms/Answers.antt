use Rattle.std.proofs.Common.{◌^◌, ◌<◌, subst, arith}
use Rattle.std.specs.Prelude.{IsTrue}
use Rattle.std.specs.List.{AllByRecursion}
use Rattle.dns_name.specs.Names.{is_name}
use Rattle.dns_rdata.specs.Records.{is_data}
use Rattle.dns_rdata.specs.ZoneData.{rtype_of, data_fields}
use Rattle.zone_sync.proofs.OfferForms.{pieces}
use Rattle.zone_sync.proofs.forms.stop_has_forms.Goals as goal

pub returns : goal.returns
returns c =
    let rtype = c.args.stop.now.rtype in
    record {
      owner = subst (λ n. IsTrue (is_name n)) c.owner.ensures c.compose_len-len.ensures.name;
      rtype = subst (λ n. n < 2 ^ 16) c.rtype-rtype.ensures (omega (arith, c.rtype-rtype.type_inv));
      contents = record {
        ttl = subst (λ n. n < 2 ^ 32) c.ttl-ttl.ensures (omega (arith, c.ttl-ttl.type_inv));
        each = subst (AllByRecursion (λ x. IsTrue (is_data rtype x))) c.items.ensures.fields (pieces rtype_of data_fields rtype c.items.result.now c.items.ensures.types c.data_have_pieces.ensures);
      };
    }
