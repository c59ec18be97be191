use Rattle.std.proofs.Common.{[], not, ◌∙◌}
use Rattle.std.proofs.lemmas.Result.{err_from_is_err_and}
use Rattle.dns_wire.specs.Wire.{message_wire}
use Rattle.zone_lookup.specs.Sending.{reply_to_extent, reply_with}
use Rattle.zone_lookup.proofs.Choosing.{row_built, row_refused}
use Rattle.zone_lookup.proofs.answer.Answer.first_of.Goals as goal

pub returns-in-Some-2-clause-found : goal.returns-in-Some-2-clause-found
returns-in-Some-2-clause-found c =
    let a = c.args in
    let reply_to = reply_to_extent a.request.now a.self.now a.question.now in
    let front = message_wire (reply_with a.request.now a.self.now (not c.in-Some.extent.now.required) [] [] []) in
    row_built reply_to a.limit c.extents.rest.now c.in-Some.behind.now c.in-Some.extent.now c.in_ok-reply.field-0 c.in-Some-2.reply c.in-Some.ensures.cases.0 c.in-Some-2.is
    (c.in_ok-reply.ensures front (message_wire (reply_to c.in-Some.extent.now)) a.limit c.write-tried.ensures) ∙ c.extents.invariant

pub extents-preserved : goal.extents-preserved
extents-preserved c =
    let a = c.args in
    let reply_to = reply_to_extent a.request.now a.self.now a.question.now in
    let front = message_wire (reply_with a.request.now a.self.now (not c.in-Some.extent.now.required) [] [] []) in
    row_refused reply_to a.limit c.extents.rest.now c.in-Some.behind.now c.in-Some.extent.now c.in_ok-reply.field-0 c.in-Some.ensures.cases.0 c.in_default-2.is
    (c.in_ok-reply.ensures front (message_wire (reply_to c.in-Some.extent.now)) a.limit c.write-tried.ensures) ∙ c.extents.invariant

pub returns-in_err-reply-clause-memory : goal.returns-in_err-reply-clause-memory
returns-in_err-reply-clause-memory c =
    let from = err_from_is_err_and c.from_residual.result c.from_residual.ensures.1 in
    let a = c.args in
    let reply_to = reply_to_extent a.request.now a.self.now a.question.now in
    let front = message_wire (reply_with a.request.now a.self.now (not c.in-Some.extent.now.required) [] [] []) in
    rw from.1 (c.in_err-reply.ensures front (message_wire (reply_to c.in-Some.extent.now)) a.limit c.write-tried.ensures)
