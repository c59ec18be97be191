use Rattle.dns_wire.proofs.Rewinding.{additional_rewound}
use Rattle.dns_wire.proofs.section_builders.AdditionalBuilder.rewind.Goals as goal

pub returns-clause-taken_back : goal.returns-clause-taken_back
returns-clause-taken_back c = additional_rewound _ _ c.rewind_additional.ensures
