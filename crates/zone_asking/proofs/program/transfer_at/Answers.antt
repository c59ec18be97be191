use Rattle.std.proofs.Common.{refl, sym, ap, ◌∙◌}
use Rattle.zone_reads.specs.Session.{Session}
use Rattle.xfr_outcomes.specs.Modes.{mode_of}
use Rattle.zone_asking.specs.Wishes.{wished}
use Rattle.zone_asking.specs.Running.{with_parts}
use Rattle.zone_asking.proofs.Dues.{ends_reported, transfer_so, reported_so}
use Rattle.zone_asking.proofs.Ends.{no_link, tells_answer}
use Rattle.zone_asking.proofs.program.transfer_at.Goals as goal

pub returns-clause-report : goal.returns-clause-report
returns-clause-report g c script =
    let t = transfer_so c.args.limits c.args.key.now (mode_of c.args.mode) c.args.at c.write-session.result.current c.args.desk.now.last c.new-made.result.items c.transfer_zone-answer.new.made.items c.transfer_zone-answer.new.session c.transfer_zone-answer.result _
    (ap (λ (s : Session). s.current) c.write-session.ensures) c.new-made.ensures.items c.transfer_zone-answer.ensures.exchanges in
    reported_so (wished (c.args.mode, c.args.limits)) c.args.at (with_parts script c.args.key.now c.args.desk.now.last c.args.queries.now) _ t _ _ c.status_of-status.result c.args.queries.now _ (c.len.ensures ∙ c.transfer_zone-answer.new.made.ok.0) c.in_ok-last.ensures.current c.status_of-status.ensures
    (sym c.eq.ensures ∙ c.if-eq.false) refl c.in_ok-report.ensures

pub returns-clause-others : goal.returns-clause-others
returns-clause-others g c = ends_reported c.transfer_zone-answer.result c.status_of-status.result c.status_of-status.ensures (sym c.eq.ensures ∙ c.if-eq.false)

pub returns-clause-stream_faults : goal.returns-clause-stream_faults
returns-clause-stream_faults g c =
    let e = c.transfer_zone-answer.ensures in
    tells_answer c.transfer_zone-answer.result c.status_of-status.result _ _ _ _ c.status_of-status.ensures (no_link _ _ _ _ _ _ c.transfer_zone-answer.result e.exchanges) e.source_failed e.source_steady e.sink_failed e.sink_steady

pub returns-clause-over_streams : goal.returns-clause-over_streams
returns-clause-over_streams g c =
    transfer_so c.args.limits c.args.key.now (mode_of c.args.mode) c.args.at c.write-session.result.current c.args.desk.now.last c.new-made.result.items c.transfer_zone-answer.new.made.items c.transfer_zone-answer.new.session c.transfer_zone-answer.result _
    (ap (λ (s : Session). s.current) c.write-session.ensures) c.new-made.ensures.items c.transfer_zone-answer.ensures.exchanges

pub returns-in_err-last-clause-over_streams : goal.returns-in_err-last-clause-over_streams
returns-in_err-last-clause-over_streams g c =
    transfer_so c.args.limits c.args.key.now (mode_of c.args.mode) c.args.at c.write-session.result.current c.args.desk.now.last c.new-made.result.items c.transfer_zone-answer.new.made.items c.transfer_zone-answer.new.session c.transfer_zone-answer.result _
    (ap (λ (s : Session). s.current) c.write-session.ensures) c.new-made.ensures.items c.transfer_zone-answer.ensures.exchanges

pub returns-then-eq-clause-over_streams : goal.returns-then-eq-clause-over_streams
returns-then-eq-clause-over_streams g c =
    transfer_so c.args.limits c.args.key.now (mode_of c.args.mode) c.args.at c.write-session.result.current c.args.desk.now.last c.new-made.result.items c.transfer_zone-answer.new.made.items c.transfer_zone-answer.new.session c.transfer_zone-answer.result _
    (ap (λ (s : Session). s.current) c.write-session.ensures) c.new-made.ensures.items c.transfer_zone-answer.ensures.exchanges

pub returns-in_err-report-clause-over_streams : goal.returns-in_err-report-clause-over_streams
returns-in_err-report-clause-over_streams g c =
    transfer_so c.args.limits c.args.key.now (mode_of c.args.mode) c.args.at c.write-session.result.current c.args.desk.now.last c.new-made.result.items c.transfer_zone-answer.new.made.items c.transfer_zone-answer.new.session c.transfer_zone-answer.result _
    (ap (λ (s : Session). s.current) c.write-session.ensures) c.new-made.ensures.items c.transfer_zone-answer.ensures.exchanges
