use Rattle.std.proofs.Common.{refl, IsTrue, false, inl, inr, ◌≡◌, ◌⊎◌, Some, None}
use Rattle.xfr_model.specs.Read.{NotValid}
use Rattle.zone_model.specs.ZoneRows.{history_3}
use Rattle.xfr_course.specs.Outcome.{Updated, UpToDate, Ended}
use Rattle.xfr_course.proofs.transfer_examples.success_row.Goals as goal

pub returns-clause-one : goal.returns-clause-one
returns-clause-one c = record { first = record { sound = refl; answers = refl; full = refl }; later = tt; text = refl; together = refl }

pub returns-clause-two : goal.returns-clause-two
returns-clause-two c = record { first = record { sound = refl; answers = refl; full = refl }; later = (record { sound = refl; answers = refl; full = refl }, tt); text = refl; together = refl }

pub returns-clause-alone : goal.returns-clause-alone
returns-clause-alone c g = apart g.together
  where
    apart : IsTrue false → ⊥
    apart e = cc

pub returns-clause-no_question : goal.returns-clause-no_question
returns-clause-no_question c g = refused g.first.sound
  where
    refused : Some NotValid ≡ None → ⊥
    refused e = cc

pub returns-clause-succeeds : goal.returns-clause-succeeds
returns-clause-succeeds c = record { how = inl refl; last = history_3; stands = refl; same = refl }

pub returns-clause-unfinished : goal.returns-clause-unfinished
returns-clause-unfinished c g = ended g.how
  where
    ended : (Ended ≡ Updated) ⊎ (Ended ≡ UpToDate) → ⊥
    ended (inl e) = cc
    ended (inr e) = cc
