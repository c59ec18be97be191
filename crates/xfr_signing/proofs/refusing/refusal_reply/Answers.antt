use Rattle.xfr_signing.proofs.ShortSignatures.{refusal_cause}
use Rattle.xfr_signing.proofs.refusing.refusal_reply.Goals as goal

pub returns-clause-cause : goal.returns-clause-cause
returns-clause-cause g c = λ found now of is.
    refusal_cause found c.args.request.now now (c.tell_refusing_key.ensures found c.args.request.now now of) c.build_refusal.result (c.build_refusal.ensures found now of) is
