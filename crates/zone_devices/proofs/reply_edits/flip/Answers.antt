use Rattle.std.proofs.Common.{rules}
use Rattle.zone_devices.specs.Edits.{flipped_at}
use Rattle.zone_devices.proofs.EditSteps.{changed}
use Rattle.zone_devices.proofs.reply_edits.flip.Goals as goal

pub returns-then-reply-len : goal.returns-then-reply-len
returns-then-reply-len c = changed c.args.messages.now.items c.args.reply (λ m. flipped_at c.args.octet m) c.index_mut.result.now c.flip_octet.new.message (search rules) c.index_mut.ensures.value c.flip_octet.ensures
