use Rattle.std.proofs.lemmas.Result.{err_from_is_err_and}
use Rattle.zone_script.specs.Keeping.{edited}
use Rattle.zone_script.proofs.LaterLines.{rest_refused}
use Rattle.zone_script.proofs.editing.read_rest.Goals as goal

pub returns-in_err-read-clause-bad : goal.returns-in_err-read-clause-bad
returns-in_err-read-clause-bad g c =
    let p = err_from_is_err_and c.from_residual.result c.from_residual.ensures.1 in
    rw (p.1, p.2) (rest_refused c.in_err-read.field-0.0 (edited c.lines.session c.lines.editing) c.lines.number c.in-Some.line.now c.lines.rest.now c.in-Some.behind.now _ c.in_err-read.ensures.bad c.in-Some.ensures.found c.lines.invariant.0)
