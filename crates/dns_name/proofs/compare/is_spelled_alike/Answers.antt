use Rattle.std.proofs.Common.{◌∙◌, bytes_eq}
use Rattle.dns_name.proofs.Spelling.{wires_alike}
use Rattle.dns_name.proofs.compare.is_spelled_alike.Goals as goal

pub returns : goal.returns
returns c =
    c.eq.ensures ∙ (λ i. bytes_eq (c.as_slice.ensures.wire i) (c.as_slice-2.ensures.wire i))
    ∙ wires_alike c.args.a.now c.args.b.now c.as_slice.ensures.name c.as_slice-2.ensures.name
