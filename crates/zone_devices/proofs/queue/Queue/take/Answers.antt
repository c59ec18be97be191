use Rattle.std.proofs.Common.{rules}
use Rattle.zone_devices.proofs.QueueSteps.{handed_on}
use Rattle.zone_devices.proofs.EditSteps.{first_waits}
use Rattle.zone_devices.proofs.queue.Queue.take.Goals as goal

pub returns-in_ok-octets-in-Some-clause-ok : goal.returns-in_ok-octets-in-Some-clause-ok
returns-in_ok-octets-in-Some-clause-ok c =
    rw (← c.self.view_is) (handed_on c.self.inside.messages.items c.self.inside.count c.self.inside.stopped c.in-Some.message.now c.in_ok-octets-in-Some.octets.items (search rules) (search rules) (search rules))

pub returns-in_ok-octets-in-Some-clause-next : goal.returns-in_ok-octets-in-Some-clause-next
returns-in_ok-octets-in-Some-clause-next c =
    rw (← c.self.view_is) (first_waits c.self.inside.messages.items c.self.inside.count c.self.inside.stopped c.in-Some.message.now c.in_ok-octets-in-Some.octets.items (search rules) (search rules) (search rules))
