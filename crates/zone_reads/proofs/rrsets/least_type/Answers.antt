use Rattle.std.proofs.Common.{Some, None, sym, ap, ◌∙◌}
use Rattle.dns_name.specs.Names.{same_name}
use Rattle.zone_versions.specs.Stops.{entry_told}
use Rattle.zone_versions.proofs.Stops.{found_told}
use Rattle.zone_reads.proofs.NameSets.{least_of_name, own_then, own_else}
use Rattle.zone_reads.proofs.rrsets.least_type.Goals as goal

-- The first set from the name on is the name's.
pub returns-then-name_eq : goal.returns-then-name_eq
returns-then-name_eq c =
    (λ i. Some (c.rtype.ensures i))
    ∙ sym (own_then c.args.name.now (entry_told c.in-Some.found).0 c.in-Some.found.1.contents (c.if-name_eq.ensures ∙ ap (λ o. same_name o c.args.name.now) (c.to_name.ensures ∙ c.owner.ensures.is)))
    ∙ least_of_name c.args.version.now c.args.name.now (Some (entry_told c.in-Some.found)) c.requires (found_told (Some c.in-Some.found) _ c.in-Some.ensures)

-- It is another name's.
pub returns-else-name_eq : goal.returns-else-name_eq
returns-else-name_eq c =
    sym (own_else c.args.name.now (entry_told c.in-Some.found).0 c.in-Some.found.1.contents (c.if-name_eq.ensures ∙ ap (λ o. same_name o c.args.name.now) (c.to_name.ensures ∙ c.owner.ensures.is)))
    ∙ least_of_name c.args.version.now c.args.name.now (Some (entry_told c.in-Some.found)) c.requires (found_told (Some c.in-Some.found) _ c.in-Some.ensures)

-- There is none.
pub returns-in-None : goal.returns-in-None
returns-in-None c = least_of_name c.args.version.now c.args.name.now None c.requires (found_told None _ c.in-None.ensures)
