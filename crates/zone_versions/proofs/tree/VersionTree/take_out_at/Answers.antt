use Rattle.std.proofs.Common.{◌≡◌, arith, false, [], not, filter, refl, sym, ap, ◌∙◌}
use Rattle.std.specs.Option.{option_map_or}
use Rattle.std.specs.List.{list_any}
use Rattle.dns_rdata.specs.Records.{same_data}
use Rattle.dns_rdata.specs.ZoneData.{rtype_of, data_fields}
use Rattle.zone_model.specs.Version.{RecordSet, set_at, data_at}
use Rattle.zone_model.specs.Edits.{remove_set}
use Rattle.zone_versions.proofs.Named.{on_ok}
use Rattle.zone_versions.proofs.InPlace.{got_contents, thinned_gone}
use Rattle.zone_versions.proofs.NoSet.{nothing_left, nothing_counted}
use Rattle.zone_versions.proofs.tree.VersionTree.take_out_at.Goals as goal

-- No set is found, and taking data out of none leaves the version as it is.
pub returns-in_default-clause-ok : goal.returns-in_default-clause-ok
returns-in_default-clause-ok c =
    nothing_left c.args.self.now c.args.owner.now c.rtype-rtype.result _ c.rtype-rtype.ensures c.in_default.ensures (filter (λ d. not (same_data (data_fields c.args.item.now) d))) c.args.ttl refl

pub returns-in_default-clause-steps : goal.returns-in_default-clause-steps
returns-in_default-clause-steps c =
    nothing_counted c.args.self.now c.args.owner.now c.rtype-rtype.result _ c.rtype-rtype.ensures c.in_default.ensures c.args.steps.now (omega (arith, c.get.ensures, c.get.type_inv))

-- No others stand there, and the set goes.
pub returns-clause-ok : goal.returns-clause-ok
returns-clause-ok c =
    let name = c.args.owner.now in
    let fields = data_fields c.args.item.now in
    let h : list_any (λ d. not (same_data fields d)) (data_at c.args.self.now name (rtype_of c.args.item.now)) ≡ false =
    ap (λ t. list_any (λ d. not (same_data fields d)) (data_at c.args.self.now name t)) (sym c.rtype-rtype.ensures)
    ∙ ap (λ o. list_any (λ d. not (same_data fields d)) (option_map_or (λ (s : RecordSet). s.items) o [])) (sym (got_contents c.rtype-rtype.result (set_at c.args.self.now name c.rtype-rtype.result) c.in-Some.found.now c.in-Some.ensures))
    ∙ sym c.has_others.ensures ∙ c.if-has_others.false in
    on_ok c.remove.result
    (λ e. e ∙ ap (λ t. remove_set c.args.self.now name t) c.rtype-rtype.ensures ∙ thinned_gone c.args.self.now name (rtype_of c.args.item.now) c.args.ttl fields h)
    c.remove.ensures.ok
