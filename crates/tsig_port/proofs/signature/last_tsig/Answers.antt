use Rattle.std.proofs.Common.{ℕ, ◌≤◌, List, length, ap, subst, sym, ◌∙◌}
use Rattle.std.specs.List.{AllByRecursion}
use Rattle.dns_wire.specs.Parse.{SectionIn}
use Rattle.tsig_port.specs.Received.{signature_left, IsBehindHeader}
use Rattle.tsig_port.proofs.Places.{additional_readings-behind}
use Rattle.tsig_port.proofs.Receiving.{signature-reached, signature-unreached, at_err}
use Rattle.tsig_port.proofs.signature.last_tsig.Goals as goal

pub returns-in_err-records-clause-none : goal.returns-in_err-records-clause-none
returns-in_err-records-clause-none c = at_err _ (signature-unreached c.args.message.now (subst (λ (xs : List ℕ). 12 ≤ length xs) c.as_slice.ensures.value c.as_slice.ensures.header) c.in_err-records.ensures.none)

pub loop-reading-init : goal.loop-reading-init
loop-reading-init c =
    let m = c.args.message.now in
    let is = c.in_ok-records.ensures.found in
    record {
      same = ap (λ (x : SectionIn). x.message) is;
      left = ap (λ (x : SectionIn). signature_left m x.left) is ∙ signature-reached m (subst (λ (xs : List ℕ). 12 ≤ length xs) c.as_slice.ensures.value c.as_slice.ensures.header) c.in_ok-records.ensures.begins;
      behind = subst (λ (x : SectionIn). AllByRecursion (IsBehindHeader m) x.left) (sym is) (additional_readings-behind m);
    }
