use Rattle.std.proofs.Common.{◌&&◌, ◌∙◌, sym}
use Rattle.dns_rdata.specs.ZoneData.{data_fields}
use Rattle.zone_model.specs.Version.{same_items}
use Rattle.zone_reads.proofs.Walks.{all_among}
use Rattle.zone_reads.proofs.Alike.{alike_are_same}
use Rattle.zone_reads.proofs.comparing.are_same.Goals as goal

pub returns-then-are_alike : goal.returns-then-are_alike
returns-then-are_alike c =
    sym (alike_are_same data_fields c.data-items.result.now c.data-others.result.now (sym c.are_alike.ensures ∙ c.if-are_alike.true))
    ∙ (λ i. same_items (c.data-items.ensures.fields i) (c.data-others.ensures.fields i))

pub returns : goal.returns
returns c =
    let ones = c.args.one.now.contents.items in
    let others = c.args.other.now.contents.items in
    (λ i. c.are_among-there.ensures i && c.are_among-back.ensures i)
    ∙ (λ i. all_among data_fields c.data-items.result.now others ones c.data-items.ensures.fields i && all_among data_fields c.data-others.result.now ones others c.data-others.ensures.fields i)
