use Rattle.std.proofs.Common.{◌≡◌, drop}
use Rattle.zone_devices.specs.Edits.{octets_of, edited}
use Rattle.zone_devices.proofs.reply_edits.edited_copies.Given as goal

abbrev pub invariant-loop-edit : goal.invariant-loop-edit
invariant-loop-edit l = edited (drop l.edit-index l.edits) (octets_of l.made.items) ≡ edited l.edits (octets_of l.initial.made.items)
