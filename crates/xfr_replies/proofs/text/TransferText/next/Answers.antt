use Rattle.std.proofs.Common.{◌≡◌, Option, Some, option_map, map, slice_get, sym, ap, ◌∙◌}
use Rattle.std.specs.Arc.{arc_value}
use Rattle.dns_rdata.specs.ZoneData.{rtype_of, data_fields}
use Rattle.zone_values.specs.TypedEntries.{typed}
use Rattle.xfr_replies.specs.Places.{TextLeft, set_in_part, text_left}
use Rattle.xfr_replies.specs.declared.place.Place.{Place}
use Rattle.xfr_replies.proofs.Texts.{with_data}
use Rattle.xfr_replies.proofs.Reading.{got, record_at, found_rtype, typed_item}
use Rattle.xfr_replies.proofs.text.TransferText.next.Goals as goal

pub returns : goal.returns
returns c =
    let zone = c.self.inside.zone in
    let v = zone.version in
    let ds = map arc_value c.self.inside.diffs.items in
    let p = c.in-Some.place in
    let set = c.in_ok-set.set in
    let item = got c.items.result.now p.index c.in_ok-rdata.rdata c.in_ok-rdata.ensures.lookup in
    let found : Some set ≡ _ = c.in_ok-set.ensures ∙ ap (λ l. option_map (typed p.rtype) (set_in_part v (map arc_value l) p.part p.owner p.rtype)) c.deref.ensures.value in
    let rtype = typed_item rtype_of c.items.result.now p.index c.in_ok-rdata.rdata.now set.rtype c.items.ensures.types item ∙ found_rtype p.rtype set _ found in
    let made : c.new.result ≡ with_data p.owner p.rtype v.class set.contents.ttl (data_fields c.in_ok-rdata.rdata.now) =
    c.new.ensures ∙ (λ i. record { owner = c.borrowed-owner.ensures.value i; rtype = rtype i; class = c.class.ensures i; ttl = c.ttl.ensures i; fields = data_fields c.in_ok-rdata.rdata.now }) in
    ap Some made ∙ sym (record_at data_fields v ds p set c.items.result.now c.in_ok-rdata.rdata.now found c.items.ensures.fields item)
    ∙ ap (λ (o : Option Place). slice_get (text_left v ds o) 0) (sym c.in-Some.is) ∙ ap (λ (t : TextLeft). slice_get t.records 0) c.self.view_is
