use Rattle.zone_report.specs.declared.status.Status.TheVariants.{Usage}
use Rattle.zone_sync.proofs.Asked.{asked_form, asks_script, no_numbers_asked, words_asked, script_asked}
use Rattle.zone_sync.proofs.Dues.{untouched, usage_due}
use Rattle.zone_report.proofs.WrittenParts.{wrote_last}
use Rattle.zone_sync.proofs.program.run.Goals as goal

-- A script's transfer.
pub returns-in-Some-clause-wrote : goal.returns-in-Some-clause-wrote
returns-in-Some-clause-wrote g c = rw (← asked_form c.in-Some.mode c.in-Some.readers _ c.in-Some.ensures.asked) c.run_gated.ensures.wrote

pub returns-in-Some-clause-by_words : goal.returns-in-Some-clause-by_words
returns-in-Some-clause-by_words g c = words_asked c.in-Some.mode c.in-Some.readers _ c.run_gated.result c.in-Some.ensures.asked c.run_gated.ensures.others

pub returns-in-Some-clause-unread : goal.returns-in-Some-clause-unread
returns-in-Some-clause-unread g c = λ other. absurd (asks_script c.in-Some.mode c.in-Some.readers _ c.in-Some.ensures.asked other)

pub returns-in-Some-clause-by_script : goal.returns-in-Some-clause-by_script
returns-in-Some-clause-by_script g c = λ mode readers text asked had. script_asked c.in-Some.mode c.in-Some.readers _ text _ _ _ _ _ c.run_gated.result c.in-Some.ensures.asked (c.run_gated.ensures.by_script text had) mode readers asked

pub returns-in-Some-clause-by_numbers : goal.returns-in-Some-clause-by_numbers
returns-in-Some-clause-by_numbers g c = λ size seed asked. absurd (no_numbers_asked c.in-Some.mode c.in-Some.readers _ c.in-Some.ensures.asked size seed asked)

-- A zone of two numbers.
pub returns-in-Some-generated_of-clause-wrote : goal.returns-in-Some-generated_of-clause-wrote
returns-in-Some-generated_of-clause-wrote g c = rw c.in-Some-generated_of.ensures.asked c.run_generated.ensures.wrote

-- Other words.
pub returns-in-None-generated_of-clause-wrote : goal.returns-in-None-generated_of-clause-wrote
returns-in-None-generated_of-clause-wrote g c = wrote_last _ _ Usage _ _ _ (usage_due _ _ _ _ c.in-None-generated_of.ensures.other untouched) c.write_last.ensures.done c.write_last.ensures.written c.write_last.ensures.part
