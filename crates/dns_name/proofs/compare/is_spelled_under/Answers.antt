use Rattle.std.proofs.Common.{◌∙◌, ◌-◌, bytes_eq, length, drop, ap}
use Rattle.dns_name.specs.Names.{labels_eq}
use Rattle.dns_name.proofs.Spelling.{wires_alike}
use Rattle.dns_name.proofs.compare.is_spelled_under.Goals as goal

pub returns : goal.returns
returns c =
    let m = c.label_count.ensures.value ∙ ap length c.borrowed-name.ensures.value in
    let n = c.label_count-2.ensures.value ∙ ap length c.borrowed-end.ensures.value in
    let more = c.saturating_sub-more.ensures ∙ (λ i. m i - n i) in
    let left = c.without_first.ensures ∙ (λ i. drop (more i) (c.borrowed-name.ensures.value i)) in
    c.eq.ensures ∙ (λ i. bytes_eq (c.as_slice.ensures.wire i) (c.as_slice-2.ensures.wire i))
    ∙ wires_alike c.borrowed-end.result c.without_first.result c.as_slice.ensures.name c.as_slice-2.ensures.name
    ∙ (λ i. labels_eq (c.borrowed-end.ensures.value i) (left i))
