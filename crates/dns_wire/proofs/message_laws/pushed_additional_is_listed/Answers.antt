use Rattle.dns_wire.proofs.Pushing.{message_wire-more_additional}
use Rattle.dns_wire.proofs.message_laws.pushed_additional_is_listed.Goals as goal

pub returns : goal.returns
returns c = message_wire-more_additional
