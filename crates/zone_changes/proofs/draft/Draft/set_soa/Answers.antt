use Rattle.std.proofs.Common.{[], ◌∷◌, ap, ◌∙◌}
use Rattle.dns_name.specs.Names.{fold}
use Rattle.zone_model.specs.Version.{Version}
use Rattle.dns_numbers.specs.Codes.{type_soa}
use Rattle.dns_rdata.specs.DataFields.{soa_fields}
use Rattle.zone_versions.specs.Puts.{with_soa}
use Rattle.zone_changes.proofs.Drafting.{covers_edit, covers_put, began_either, put_apex}
use Rattle.zone_changes.proofs.draft.Draft.set_soa.Goals as goal

-- An edit at a noted key.
pub invariant_of-self-2 : goal.invariant_of-self-2
invariant_of-self-2 c =
    let v = c.self.inside.version.value in
    let base = c.self.inside.base.value.sets in (
      covers_edit c.set_soa.result c.self.inside.touched c.note.new.self c.new.result (fold v.apex, type_soa) base v c.set_soa.new.pending.value (with_soa v c.args.ttl (soa_fields (λ n. n) c.args.soa)) (c.new.ensures ∙ (λ i. (fold ((c.apex.ensures ∙ ap (λ (x : Version). x.apex) c.deref.ensures) i), type_soa))) c.in_ok-note.ensures.ok c.set_soa.ensures.ok c.set_soa.ensures.err
          (λ all t h. covers_put all base v v.apex type_soa (record { ttl = c.args.ttl; items = soa_fields (λ n. n) c.args.soa ∷ [] }) t h) c.self.invariant.0,
      began_either c.set_soa.result c.self.inside.base.value v c.set_soa.new.pending.value (with_soa v c.args.ttl (soa_fields (λ n. n) c.args.soa)) c.set_soa.ensures.ok c.set_soa.ensures.err (put_apex v v.apex type_soa (record { ttl = c.args.ttl; items = soa_fields (λ n. n) c.args.soa ∷ [] })) c.self.invariant.1,
    )
