use Rattle.zone_lookup.proofs.Limits.{whole, needed}
use Rattle.zone_lookup.proofs.reply_laws.replies_leave_out_what_has_no_room.Goals as goal

pub returns-clause-whole : goal.returns-clause-whole
returns-clause-whole c = whole

pub returns-clause-needed : goal.returns-clause-needed
returns-clause-needed c = needed
