use Rattle.xfr_replies.proofs.Cutting.{has_pages, one_cut}
use Rattle.xfr_replies.proofs.laws.texts_have_one_cut.Goals as goal

pub returns-clause-some : goal.returns-clause-some
returns-clause-some c = λ room singles text. has_pages room singles text

pub returns-clause-one : goal.returns-clause-one
returns-clause-one c = λ room singles text pages others cut other. one_cut room singles text pages others cut other
