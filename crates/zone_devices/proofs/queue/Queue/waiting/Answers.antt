use Rattle.zone_devices.proofs.EditSteps.{waits}
use Rattle.zone_devices.proofs.queue.Queue.waiting.Goals as goal

pub returns : goal.returns
returns c = rw (← c.self.view_is) (rw (c.deref.ensures.value) (waits c.self.inside.messages.items c.self.inside.count c.self.inside.stopped))
