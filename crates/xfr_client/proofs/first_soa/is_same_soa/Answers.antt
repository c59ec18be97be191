use Rattle.std.proofs.Common.{◌≡◌, ◌==◌, ◌&&◌, sym, ap, ◌∙◌}
use Rattle.dns_rdata.specs.Records.{same_data}
use Rattle.dns_rdata.specs.ZoneData.{rtype_of}
use Rattle.xfr_client.proofs.UnknownData.{unknown_is_no_soa}
use Rattle.xfr_client.proofs.first_soa.is_same_soa.Goals as goal

pub returns-in-Unknown : goal.returns-in-Unknown
returns-in-Unknown c =
    let kind = ap (λ t. t == 6) (sym c.data.ensures.rtype) ∙ ap (λ d. rtype_of d == 6) c.in-Unknown.is ∙ unknown_is_no_soa c.in-Unknown.octets.rtype c.in-Unknown.octets.octets c.rdlen.ensures.pieces in
    sym (ap (λ b. b && same_data c.args.first.now.fields c.args.found.now.fields) kind)
