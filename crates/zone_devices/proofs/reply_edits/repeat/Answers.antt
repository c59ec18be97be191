use Rattle.std.proofs.Common.{rules}
use Rattle.zone_devices.proofs.EditSteps.{repeated}
use Rattle.zone_devices.proofs.reply_edits.repeat.Goals as goal

pub returns-in_ok-insert : goal.returns-in_ok-insert
returns-in_ok-insert c =
    repeated c.args.messages.now.items c.insert.new.self.items c.args.reply c.index.result.now c.in_ok-copy.copy (search rules) c.index.ensures (search rules) (search rules)
