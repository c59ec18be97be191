use Rattle.std.proofs.Common.{ℕ, ◌==◌, List, length, sym, ap, ◌∙◌}
use Rattle.std.proofs.lemmas.List.{length-map}
use Rattle.dns_name.specs.Names.{Name, fold}
use Rattle.dns_numbers.specs.Codes.{type_soa}
use Rattle.dns_name.specs.Records.{Field}
use Rattle.dns_rdata.specs.ZoneData.{data_fields}
use Rattle.zone_values.specs.TypedSets.{TypedSet}
use Rattle.xfr_replies.proofs.Reading.{soa_count, no_soas}
use Rattle.xfr_replies.proofs.sendable.has_one_soa.Goals as goal

pub returns-in-Some : goal.returns-in-Some
returns-in-Some c =
    let key = c.new.ensures ∙ ap (λ (n : Name). (fold n, type_soa)) c.apex_name.ensures in
    let count = soa_count c.args.zone.now.version c.args.sets.now c.new.result c.in-Some.set.now key c.in-Some.ensures in
    let items = sym (length-map c.data.result.now data_fields) ∙ ap (λ (l : List (List Field)). length l) c.data.ensures.fields ∙ ap (λ (s : TypedSet). length s.contents.items) c.as_rrset.ensures in
    ap (λ (n : ℕ). n == 1) (items ∙ sym count)

pub returns-in-None : goal.returns-in-None
returns-in-None c =
    let key = c.new.ensures ∙ ap (λ (n : Name). (fold n, type_soa)) c.apex_name.ensures in
    ap (λ (n : ℕ). n == 1) (sym (no_soas c.args.zone.now.version c.args.sets.now c.new.result key c.in-None.ensures))
