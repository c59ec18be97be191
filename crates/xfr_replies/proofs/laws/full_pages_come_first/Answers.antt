use Rattle.xfr_replies.proofs.Cutting.{first_page, first_single, no_pages}
use Rattle.xfr_replies.proofs.laws.full_pages_come_first.Goals as goal

pub returns-clause-full : goal.returns-clause-full
returns-clause-full c = λ room page rest pages some within ends cut. first_page room page rest pages some within ends cut

pub returns-clause-single : goal.returns-clause-single
returns-clause-single c = λ room r rest pages cut. first_single room r rest pages cut

pub returns-clause-none : goal.returns-clause-none
returns-clause-none c = λ room singles pages cut. no_pages room singles pages cut
