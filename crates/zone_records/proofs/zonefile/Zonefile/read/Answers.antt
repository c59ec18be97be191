use Rattle.std.proofs.Common.{◌≡◌, [], List, Ok, Err, IfOk, IfErr, IfSome, ap, subst, ◌∙◌}
use Rattle.zone_records.specs.Parsed.{Parsed}
use Rattle.zone_records.specs.Refusals.{Refusals, read_all, unless_refused}
use Rattle.zone_records.specs.Causes.{errors_in}
use Rattle.zone_records.proofs.zonefile.Zonefile.read.Goals as goal

pub returns-in-Ok-clause-ok : goal.returns-in-Ok-clause-ok
returns-in-Ok-clause-ok c =
    subst (λ (s : Parsed × Refusals). IfOk c.unless_refused.result (λ z. unless_refused s ≡ Ok z)) (c.in-Ok.ensures ∙ ap (λ (l : Refusals). read_all (c.args.self, l) c.args.records.items) c.new-errors.ensures) c.unless_refused.ensures.ok

pub returns-in-Ok-clause-refused : goal.returns-in-Ok-clause-refused
returns-in-Ok-clause-refused c =
    subst (λ (s : Parsed × Refusals). IfErr c.unless_refused.result (λ e. IfSome (errors_in e) (λ errors. unless_refused s ≡ Err errors))) (c.in-Ok.ensures ∙ ap (λ (l : Refusals). read_all (c.args.self, l) c.args.records.items) c.new-errors.ensures) c.unless_refused.ensures.refused
