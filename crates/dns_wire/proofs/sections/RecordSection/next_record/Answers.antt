use Rattle.std.proofs.Common.{◌<◌, arith, refl}
use Rattle.dns_rdata.specs.Heads.{raw_record_at}
use Rattle.dns_wire.proofs.Items.{readings_more}
use Rattle.dns_wire.proofs.sections.RecordSection.next_record.Goals as goal

pub returns-in-Ok : goal.returns-in-Ok
returns-in-Ok c =
    let some : 0 < c.self.inside.left = omega arith in
    let first = readings_more (raw_record_at c.self.inside.message.now) c.self.inside.left c.self.inside.pos (c.in-Ok.record.raw, c.in-Ok.after) some c.in-Ok.ensures.found in
    rw (← c.self.view_is) (first, c.in-Ok.ensures.lies, refl)
