use Rattle.xfr_signing.proofs.Failing.{checked_fails}
use Rattle.xfr_signing.proofs.laws.signed_replies_fail_where_long.Goals as goal

pub returns : goal.returns
returns g c = λ next keys short r sent sends failed.
    checked_fails g.KS.Key.KeyRef.the_key (g.KS.KeyStore.key_of keys) (g.N.Service.Sends next) short r sent sends failed
