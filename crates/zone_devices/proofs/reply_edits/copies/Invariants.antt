use Rattle.std.proofs.Common.{◌≡◌, take}
use Rattle.zone_devices.specs.Edits.{octets_of}
use Rattle.zone_devices.proofs.reply_edits.copies.Given as goal

abbrev pub invariant-loop-message : goal.invariant-loop-message
invariant-loop-message l = octets_of l.made.items ≡ octets_of (take l.message-index l.messages)
