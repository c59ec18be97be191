use Rattle.dns_wire.proofs.Rewinding.{authority_rewound}
use Rattle.dns_wire.proofs.section_builders.AuthorityBuilder.rewind.Goals as goal

pub returns-clause-taken_back : goal.returns-clause-taken_back
returns-clause-taken_back c = authority_rewound _ _ c.rewind_authority.ensures
