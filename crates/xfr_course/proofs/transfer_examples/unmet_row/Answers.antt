use Rattle.std.proofs.Common.{refl, ◌≡◌, ℕ, IsTrue, false, ◌+◌, ◌^◌, ◌≤◌, ◌<◌, arith}
use Rattle.xfr_course.proofs.transfer_examples.unmet_row.Goals as goal

never : IsTrue false → ⊥
never e = cc

pub returns-clause-late : goal.returns-clause-late
returns-clause-late c g = let h : 1301 ≤ 1000 + 300 = g.secondary_clock in omega arith

pub returns-clause-early : goal.returns-clause-early
returns-clause-early c g = let h : 1601 ≤ 1300 + 300 = g.primary_clock in omega arith

pub returns-clause-short_request_mac : goal.returns-clause-short_request_mac
returns-clause-short_request_mac c g = let h : 33 ≤ 32 = g.primary_accepts in omega arith

pub returns-clause-short_answer_mac : goal.returns-clause-short_answer_mac
returns-clause-short_answer_mac c g = let h : 33 ≤ 32 = g.secondary_accepts in omega arith

pub returns-clause-long_request : goal.returns-clause-long_request
returns-clause-long_request c g = let h : 65536 ≤ 65535 = g.request_fits in omega arith

pub returns-clause-no_number : goal.returns-clause-no_number
returns-clause-no_number c g = let h : 18446744073709551613 + 3 < 2 ^ 64 = g.numbers_left in omega arith

pub returns-clause-short_answers : goal.returns-clause-short_answers
returns-clause-short_answers c g = let h : 32 ≤ 31 = g.secondary_accepts in omega arith

pub returns-clause-short_requests : goal.returns-clause-short_requests
returns-clause-short_requests c g = let h : 32 ≤ 31 = g.primary_accepts in omega arith

pub returns-clause-ahead : goal.returns-clause-ahead
returns-clause-ahead c g = never g.asks

pub returns-clause-no_soa : goal.returns-clause-no_soa
returns-clause-no_soa c g = never g.asks

pub returns-clause-other_content : goal.returns-clause-other_content
returns-clause-other_content c g = never (g.caught_up refl)

pub returns-clause-not_first : goal.returns-clause-not_first
returns-clause-not_first c g = never g.starts

pub returns-clause-other_apex : goal.returns-clause-other_apex
returns-clause-other_apex c g = never g.same_apex

pub returns-clause-other_class : goal.returns-clause-other_class
returns-clause-other_class c g = let h : ◌≡◌ {A = ℕ} 3 1 = g.same_class in omega arith

pub returns-clause-no_one_soa : goal.returns-clause-no_one_soa
returns-clause-no_one_soa c g = never g.one_soa

pub returns-clause-two_soas : goal.returns-clause-two_soas
returns-clause-two_soas c g = never g.together

pub returns-clause-apart : goal.returns-clause-apart
returns-clause-apart c g = never g.together
