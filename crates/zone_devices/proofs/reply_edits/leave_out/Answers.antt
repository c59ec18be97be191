use Rattle.zone_devices.proofs.EditSteps.{left_out}
use Rattle.zone_devices.proofs.reply_edits.leave_out.Goals as goal

pub returns-then-reply-len : goal.returns-then-reply-len
returns-then-reply-len c = left_out c.args.messages.now.items c.remove.new.self.items c.args.reply c.remove.ensures.by_index.2
