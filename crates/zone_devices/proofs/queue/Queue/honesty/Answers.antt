use Rattle.zone_devices.proofs.QueueSteps.{honest_queue}
use Rattle.zone_devices.proofs.queue.Queue.honesty.Goals as goal

pub returns : goal.returns
returns c = rw (← c.self.view_is) (honest_queue c.self.inside.messages.items c.self.inside.count c.self.inside.stopped c.self.invariant.1)
