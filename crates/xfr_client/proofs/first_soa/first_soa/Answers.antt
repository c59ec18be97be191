use Rattle.std.proofs.Common.{◌≡◌, ◌==◌, sym, ap, ◌∙◌}
use Rattle.dns_rdata.specs.ZoneData.{rtype_of}
use Rattle.xfr_client.proofs.UnknownData.{unknown_is_no_soa}
use Rattle.xfr_client.proofs.first_soa.first_soa.Goals as goal

pub returns-in-Unknown : goal.returns-in-Unknown
returns-in-Unknown c = record {
  found = tt;
  none = ap (λ t. t == 6) (sym c.data.ensures.rtype) ∙ ap (λ d. rtype_of d == 6) c.in-Unknown.is ∙ unknown_is_no_soa c.in-Unknown.octets.rtype c.in-Unknown.octets.octets c.rdlen.ensures.pieces;
}
