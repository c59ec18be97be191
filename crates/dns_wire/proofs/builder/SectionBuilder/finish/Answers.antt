use Rattle.dns_wire.proofs.ItemWriting.{written_reads_back}
use Rattle.dns_wire.proofs.builder.SectionBuilder.finish.Goals as goal

pub returns-clause-read_back : goal.returns-clause-read_back
returns-clause-read_back g c = rw (← c.self.view_is) (λ m ok whole. written_reads_back c.self.inside.octets.items c.from_whole.result m c.from_whole.ensures ok whole)
