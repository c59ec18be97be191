use Rattle.dns_wire.proofs.Rewinding.{answers_rewound}
use Rattle.dns_wire.proofs.section_builders.AnswerBuilder.rewind.Goals as goal

pub returns-clause-taken_back : goal.returns-clause-taken_back
returns-clause-taken_back c = answers_rewound _ _ c.rewind_answers.ensures
