use Rattle.std.proofs.Common.{rules}
use Rattle.zone_devices.proofs.EditSteps.{swapped}
use Rattle.zone_devices.proofs.reply_edits.swap.Goals as goal

pub returns-then-second-len : goal.returns-then-second-len
returns-then-second-len c = swapped c.args.messages.now.items c.swap.new.self.items c.args.first c.args.second (search rules) (search rules) c.swap.ensures.items
