use Rattle.xfr_client.proofs.WhatIsRead.{publishes_what_is_read}
use Rattle.xfr_client.proofs.laws.publishes_what_is_read.Goals as goal

pub returns : goal.returns
returns c = publishes_what_is_read
