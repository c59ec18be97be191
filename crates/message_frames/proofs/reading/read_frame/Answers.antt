use Rattle.std.proofs.Common.{rules}
use Rattle.message_frames.proofs.FrameReading.{taken_both, had_two, within_length, within_frame}
use Rattle.message_frames.proofs.reading.read_frame.Goals as goal

pub returns-in_err-message-clause-most : goal.returns-in_err-message-clause-most
returns-in_err-message-clause-most g c =
    taken_both (g.S.Source.remaining c.args.src.now) (g.S.Source.remaining c.fill.new.src) (g.S.Source.remaining c.read_octets.new.src) c.fill.new.buf c.in_ok-read.read
    c.length_in-count.result (search rules) (search rules) c.in_ok-read.ensures.octets c.read_octets.ensures.most

pub returns-clause-most : goal.returns-clause-most
returns-clause-most g c =
    taken_both (g.S.Source.remaining c.args.src.now) (g.S.Source.remaining c.fill.new.src) (g.S.Source.remaining c.read_octets.new.src) c.fill.new.buf c.in_ok-read.read
    c.length_in-count.result (search rules) (search rules) c.in_ok-read.ensures.octets c.read_octets.ensures.most

pub returns-in_err-read-clause-within : goal.returns-in_err-read-clause-within
returns-in_err-read-clause-within g c = within_length (g.S.Source.remaining c.args.src.now) (g.S.Source.remaining c.fill.new.src) c.fill.ensures.most

pub returns-then-read-eq0-clause-within : goal.returns-then-read-eq0-clause-within
returns-then-read-eq0-clause-within g c = within_length (g.S.Source.remaining c.args.src.now) (g.S.Source.remaining c.fill.new.src) c.fill.ensures.most

pub returns-then-read-lt2-clause-within : goal.returns-then-read-lt2-clause-within
returns-then-read-lt2-clause-within g c = within_length (g.S.Source.remaining c.args.src.now) (g.S.Source.remaining c.fill.new.src) c.fill.ensures.most

pub returns-in_err-message-clause-within : goal.returns-in_err-message-clause-within
returns-in_err-message-clause-within g c =
    within_frame (g.S.Source.remaining c.args.src.now) (g.S.Source.remaining c.fill.new.src) (g.S.Source.remaining c.read_octets.new.src) c.fill.new.buf c.in_ok-read.read
    c.length_in-count.result (search rules) (search rules) (search rules) c.in_ok-read.ensures.octets c.read_octets.ensures.most

pub returns-clause-within : goal.returns-clause-within
returns-clause-within g c =
    within_frame (g.S.Source.remaining c.args.src.now) (g.S.Source.remaining c.fill.new.src) (g.S.Source.remaining c.read_octets.new.src) c.fill.new.buf c.in_ok-read.read
    c.length_in-count.result (search rules) (search rules) (search rules) c.in_ok-read.ensures.octets c.read_octets.ensures.most

pub returns-in_err-message-clause-memory : goal.returns-in_err-message-clause-memory
returns-in_err-message-clause-memory g c = λ h.
    had_two (g.S.Source.remaining c.args.src.now) (g.S.Source.remaining c.fill.new.src) c.fill.new.buf c.in_ok-read.read (search rules) (search rules) (search rules) c.in_ok-read.ensures.octets
