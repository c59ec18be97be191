use Rattle.zone_sync.specs.Serving.{request_at}
use Rattle.zone_sync.proofs.LongQuestions.{was_long}
use Rattle.zone_sync.proofs.laws.primary_errors_are_long_questions.Goals as goal

pub returns : goal.returns
returns g c = λ next provider keys fails a at longest old new before handles s error says.
    was_long _ (g.KS.KeyStore.key_of keys) at (λ m sent sends failed. c.primaries_fail_where_long.ensures next provider keys fails (request_at m at) sent sends failed)
    says.heard says.sent says.replies error says.served
