use Rattle.std.proofs.Common.{Some, None, sym, ap, ◌∙◌}
use Rattle.dns_name.specs.Names.{fold}
use Rattle.zone_model.proofs.Folded.{fold-fold, under_alike}
use Rattle.zone_versions.specs.Stops.{entry_told}
use Rattle.zone_versions.proofs.Stops.{found_told}
use Rattle.zone_reads.proofs.Existence.{exists_by}
use Rattle.zone_reads.proofs.names.exists.Goals as goal

-- The first owner from the name on is at or below it.
pub returns-in-Some : goal.returns-in-Some
returns-in-Some c =
    c.is_under.ensures ∙ under_alike c.owner.result.now c.in-Some.found.0 c.of.result c.args.name.now (ap fold c.owner.ensures.is) (ap fold c.of.ensures ∙ fold-fold c.args.name.now)
    ∙ sym (exists_by c.args.version.now c.args.name.now _ (Some (entry_told c.in-Some.found)) c.requires c.apex.ensures c.if-name_eq.ensures (found_told (Some c.in-Some.found) _ c.in-Some.ensures))

-- There is none.
pub returns-in-None : goal.returns-in-None
returns-in-None c = sym (exists_by c.args.version.now c.args.name.now _ None c.requires c.apex.ensures c.if-name_eq.ensures (found_told None _ c.in-None.ensures))
