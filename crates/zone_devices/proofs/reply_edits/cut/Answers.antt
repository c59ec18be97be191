use Rattle.std.proofs.Common.{rules, take}
use Rattle.zone_devices.proofs.EditSteps.{changed}
use Rattle.zone_devices.proofs.reply_edits.cut.Goals as goal

pub returns-then-reply-len : goal.returns-then-reply-len
returns-then-reply-len c = changed c.args.messages.now.items c.args.reply (λ m. take c.args.len m) c.index_mut.result.now c.truncate.new.self (search rules) c.index_mut.ensures.value c.truncate.ensures.items
