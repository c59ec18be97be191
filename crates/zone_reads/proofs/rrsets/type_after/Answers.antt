use Rattle.std.proofs.Common.{Some, None, sym, ap, ◌∙◌}
use Rattle.dns_name.specs.Names.{same_name}
use Rattle.zone_reads.proofs.NameSets.{next_of_name, shown_then, shown_else}
use Rattle.zone_reads.proofs.rrsets.type_after.Goals as goal

-- The next set is the name's.
pub returns-then-name_eq : goal.returns-then-name_eq
returns-then-name_eq c =
    (λ i. Some (c.rtype.ensures i)) ∙ sym (shown_then c.args.name.now c.in-Some.found (c.if-name_eq.ensures ∙ ap (λ o. same_name o c.args.name.now) c.owner.ensures))
    ∙ next_of_name c.args.version.now c.args.name.now c.args.rtype (Some c.in-Some.found) c.requires c.in-Some.ensures

-- It is another name's.
pub returns-else-name_eq : goal.returns-else-name_eq
returns-else-name_eq c =
    sym (shown_else c.args.name.now c.in-Some.found (c.if-name_eq.ensures ∙ ap (λ o. same_name o c.args.name.now) c.owner.ensures))
    ∙ next_of_name c.args.version.now c.args.name.now c.args.rtype (Some c.in-Some.found) c.requires c.in-Some.ensures

-- There is none.
pub returns-in-None : goal.returns-in-None
returns-in-None c = next_of_name c.args.version.now c.args.name.now c.args.rtype None c.requires c.in-None.ensures
