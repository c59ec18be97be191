use Rattle.std.proofs.Common.{sym, ap, ◌∙◌}
use Rattle.std.specs.Option.{option_copied}
use Rattle.zone_reads.proofs.NodeParts.{cut_is, alias_is}
use Rattle.zone_reads.proofs.parts.special_below.Goals as goal

-- It has NS records.
pub returns-in-Some : goal.returns-in-Some
returns-in-Some c = cut_is c.args.version.now c.args.name.now c.in-Some.ns.now (option_copied c.set_at-ds.result) c.requires (sym (ap option_copied c.in-Some.is) ∙ c.set_at.ensures) c.set_at-ds.ensures

-- It has none.
pub returns-in-None : goal.returns-in-None
returns-in-None c = c.alias_of.ensures ∙ alias_is c.args.version.now c.args.name.now (option_copied c.set_at-target.result) c.requires (sym (ap option_copied c.in-None.is) ∙ c.set_at.ensures) c.set_at-target.ensures
