use Rattle.xfr_signing.proofs.Keys.{keys_go_on}
use Rattle.xfr_signing.proofs.laws.accepted_requests_have_their_key.Goals as goal

pub returns : goal.returns
returns g c = λ keys named now message key known accepted is. keys_go_on g.KS.Key.KeyRef.the_key (g.KS.KeyStore.key_of keys) named now message key known accepted is
