use Rattle.std.proofs.Common.{[], subst, refl, Err}
use Rattle.dns_rdata.specs.Records.{record_wire}
use Rattle.dns_wire.specs.Builds.{building}
use Rattle.tsig_port.specs.Tsig.{tsig_record, badtime_tsig}
use Rattle.tsig_port.specs.States.{RefusalOf}
use Rattle.tsig_port.proofs.ErrorReplies.{refusal_of, badtime_built}
use Rattle.tsig_port.proofs.server.ServerError.build_message.Goals as goal

pub returns-in-Ok : goal.returns-in-Ok
returns-in-Ok g c = λ found received now refusal.
    let the_key = g.K.KeyRef.the_key in
    let key = c.key_ref.result.now in
    let t = badtime_tsig key [] (refusal_of c.args.request.now) c.in-BadTime.time_signed c.in-BadTime.fudge c.in-BadTime.now in
    badtime_built the_key found received c.args.request.now now c.args.message.limit c.in-BadTime.key c.key_ref-in-Ok.result.now c.in-BadTime.context c.in-BadTime.time_signed
    c.in-BadTime.fudge c.in-BadTime.now c.in-Ok.reply c.badtime_reply.result c.key_ref-in-Ok.ensures
    (c.in-Ok.ensures (record_wire (tsig_record key.name t)) (c.badtime_len.ensures [] (refusal_of c.args.request.now) c.in-BadTime.time_signed c.in-BadTime.fudge c.in-BadTime.now))
    c.badtime_reply.ensures
    (subst (λ e. RefusalOf the_key found received now e) c.in-BadTime.is refusal)

pub returns : goal.returns
returns g c = λ found received now refusal.
    let the_key = g.K.KeyRef.the_key in
    let key = c.key_ref.result.now in
    let front = refusal_of c.args.request.now in
    badtime_built the_key found received c.args.request.now now c.args.message.limit c.in-BadTime.key key c.in-BadTime.context c.in-BadTime.time_signed
    c.in-BadTime.fudge c.in-BadTime.now (building front c.args.message.limit) (Err c.in-Err.error) c.key_ref.ensures refl
    (λ mac holds none. c.in-Err.ensures (record_wire (tsig_record key.name (badtime_tsig key mac front c.in-BadTime.time_signed c.in-BadTime.fudge c.in-BadTime.now)))
    (c.badtime_len.ensures mac front c.in-BadTime.time_signed c.in-BadTime.fudge c.in-BadTime.now))
    (subst (λ e. RefusalOf the_key found received now e) c.in-BadTime.is refusal)
