use Rattle.std.proofs.Common.{ap, ◌∙◌, sym, refl, Err}
use Rattle.dns_rdata.specs.Records.{record_wire}
use Rattle.dns_wire.specs.Wire.{Header}
use Rattle.dns_wire.specs.Builds.{building}
use Rattle.tsig_port.specs.Tsig.{tsig_record}
use Rattle.tsig_port.proofs.ErrorReplies.{refusal_of, unsigned_built}
use Rattle.tsig_port.proofs.error_replies.unsigned_error_by.Goals as goal

pub returns-in-Ok : goal.returns-in-Ok
returns-in-Ok c =
    let made = c.unsigned_record-tsig.result in
    unsigned_built c.args.request.now c.args.message.limit c.args.error c.unsigned_record.inside.id c.args.signed.now.owner made.owner
    c.args.signed.now.tsig made.tsig c.in-Ok.reply c.put_tsig.result
    (c.in-Ok.ensures (record_wire (tsig_record made.owner made.tsig)) (sym c.record_len.ensures.len))
    (ap (λ (h : Header). h.id) (c.unsigned_record.view_is ∙ c.header.ensures)) c.unsigned_record-tsig.ensures.owner c.unsigned_record-tsig.ensures.tsig
    c.put_tsig.ensures

pub returns-in-Err : goal.returns-in-Err
returns-in-Err c =
    let made = c.unsigned_record-tsig.result in
    unsigned_built c.args.request.now c.args.message.limit c.args.error c.unsigned_record.inside.id c.args.signed.now.owner made.owner
    c.args.signed.now.tsig made.tsig (building (refusal_of c.args.request.now) c.args.message.limit) (Err c.in-Err.error)
    refl (ap (λ (h : Header). h.id) (c.unsigned_record.view_is ∙ c.header.ensures)) c.unsigned_record-tsig.ensures.owner c.unsigned_record-tsig.ensures.tsig
    (λ none. c.in-Err.ensures (record_wire (tsig_record made.owner made.tsig)) (sym c.record_len.ensures.len))
