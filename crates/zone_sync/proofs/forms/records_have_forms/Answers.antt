use Rattle.std.proofs.Common.{◌^◌, ◌<◌, subst, arith}
use Rattle.std.specs.Prelude.{IsTrue}
use Rattle.dns_name.specs.Names.{is_name}
use Rattle.zone_sync.proofs.OfferForms.{walked}
use Rattle.zone_sync.proofs.forms.records_have_forms.Goals as goal

pub returns : goal.returns
returns c =
    walked c.args.zone.now.version (subst (λ n. IsTrue (is_name n)) c.apex_name.ensures c.compose_len-len.ensures.name)
    (subst (λ k. k < 2 ^ 16) c.class-class.ensures (omega (arith, c.class-class.type_inv))) c.walk_has_forms.ensures
