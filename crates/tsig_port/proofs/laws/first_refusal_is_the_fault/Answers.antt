use Rattle.tsig_port.proofs.Passing.{refusal_is_the_fault, refusal_ends_the_checked, fault_is_a_refusal}
use Rattle.tsig_port.proofs.laws.first_refusal_is_the_fault.Goals as goal

pub returns-clause-fault : goal.returns-clause-fault
returns-clause-fault c = refusal_is_the_fault

pub returns-clause-before : goal.returns-clause-before
returns-clause-before c = refusal_ends_the_checked

pub returns-clause-found : goal.returns-clause-found
returns-clause-found c = fault_is_a_refusal
