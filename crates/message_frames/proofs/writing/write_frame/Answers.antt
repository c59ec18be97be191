use Rattle.std.proofs.Common.{rules}
use Rattle.message_frames.proofs.FrameWriting.{frame_first, frame_second}
use Rattle.message_frames.proofs.writing.write_frame.Goals as goal

pub returns-in_err-write_all-clause-part : goal.returns-in_err-write_all-clause-part
returns-in_err-write_all-clause-part g c =
    frame_first (g.K.Sink.taken c.args.out.now) (g.K.Sink.taken c.write_all.new.out) _ c.args.message.now c.write_all.ensures.part.0 (search rules) c.write_all.ensures.part.1

pub returns-in_err-write_all-2-clause-part : goal.returns-in_err-write_all-2-clause-part
returns-in_err-write_all-2-clause-part g c =
    frame_second (g.K.Sink.taken c.args.out.now) (g.K.Sink.taken c.write_all.new.out) (g.K.Sink.taken c.write_all-2.new.out) _ c.args.message.now c.write_all-2.ensures.part.0
    (search rules) c.in_ok-write_all.ensures.ok c.write_all-2.ensures.part.1

pub returns-clause-part : goal.returns-clause-part
returns-clause-part g c =
    frame_second (g.K.Sink.taken c.args.out.now) (g.K.Sink.taken c.write_all.new.out) (g.K.Sink.taken c.write_all-2.new.out) _ c.args.message.now c.write_all-2.ensures.part.0
    (search rules) c.in_ok-write_all.ensures.ok c.write_all-2.ensures.part.1
