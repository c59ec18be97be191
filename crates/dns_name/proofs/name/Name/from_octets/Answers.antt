use Rattle.std.proofs.Common.{sym, ap, Ok}
use Rattle.dns_name.proofs.WireForms.{labels_of_wire}
use Rattle.dns_name.proofs.name.Name.from_octets.Goals as goal

pub returns-then-spells_name-clause-only : goal.returns-then-spells_name-clause-only
returns-then-spells_name-clause-only g c = λ name h e. ap Ok (labels_of_wire (g.Octs.AsSlice.items c.args.octets) name (sym e) h)
