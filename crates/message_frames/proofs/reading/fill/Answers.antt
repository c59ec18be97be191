use Rattle.std.proofs.Common.{rules, length, ◌-◌}
use Rattle.message_frames.proofs.FrameReading.{filled_more}
use Rattle.message_frames.proofs.reading.fill.Goals as goal

pub filling-preserved : goal.filling-preserved
filling-preserved g c =
    record {
      size = search rules;
      within = search rules;
      octets =
          filled_more (g.S.Source.remaining c.args.src.now) (g.S.Source.remaining c.filling.src) (g.S.Source.remaining c.read.new.self) c.filling.buf c.read.new.buf
          c.filling.done (length c.filling.buf - c.filling.done) c.in_ok-count.count c.filling.invariant.within (search rules) c.filling.invariant.octets c.in_ok-count.ensures.octets;
      steady = search rules;
    }
