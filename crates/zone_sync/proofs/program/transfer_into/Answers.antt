use Rattle.std.proofs.Common.{refl, sym, ap, ◌∙◌}
use Rattle.xfr_outcomes.specs.Modes.{mode_of}
use Rattle.zone_sync.proofs.ReportLaw.{transfer_so}
use Rattle.zone_report.proofs.ReportedAnswers.{ends_reported, known_by_status, link_failed, link_fails}
use Rattle.zone_sync.proofs.program.transfer_into.Goals as goal

pub returns-clause-ended : goal.returns-clause-ended
returns-clause-ended g c = record {
  transfer =
      (transfer_so _ c.args.moments.at_primary _ _ _ _ _ c.args.key.now (mode_of c.args.mode) c.args.moments.at_secondary c.args.session.now.current c.args.session.now.current c.args.made.now.items c.sync_zone-outcome.new.made.items c.sync_zone-outcome.new.session c.sync_zone-outcome.result
      refl c.requires.new c.sync_zone-outcome.ensures.headline c.sync_zone-outcome.ensures.failed c.sync_zone-outcome.ensures.steady c.sync_zone-outcome.ensures.long);
  answered = refl;
  counted = c.len-made.ensures ∙ c.sync_zone-outcome.new.made.ok.0;
  current = c.in_ok-last.ensures.current ∙ ap (λ s. s.current) c.receipt.ensures.same;
  ended = c.status_of-status.ensures;
  known = ends_reported c.sync_zone-outcome.result c.status_of-status.result c.status_of-status.ensures (known_by_status c.sync_zone-outcome.result c.status_of-status.result c.status_of-status.ensures (sym c.eq.ensures ∙ c.if-eq.false));
}

pub returns-clause-link_fault : goal.returns-clause-link_fault
returns-clause-link_fault g c = λ h. c.sync_zone-outcome.ensures.failed (link_failed c.sync_zone-outcome.result c.status_of-status.result c.status_of-status.ensures h)

pub returns-clause-link_fails : goal.returns-clause-link_fails
returns-clause-link_fails g c = link_fails c.sync_zone-outcome.result c.status_of-status.result _ _ c.status_of-status.ensures c.sync_zone-outcome.ensures.steady

pub returns-clause-over_link : goal.returns-clause-over_link
returns-clause-over_link g c =
    (transfer_so _ c.args.moments.at_primary _ _ _ _ _ c.args.key.now (mode_of c.args.mode) c.args.moments.at_secondary c.args.session.now.current c.args.session.now.current c.args.made.now.items c.sync_zone-outcome.new.made.items c.sync_zone-outcome.new.session c.sync_zone-outcome.result
    refl c.requires.new c.sync_zone-outcome.ensures.headline c.sync_zone-outcome.ensures.failed c.sync_zone-outcome.ensures.steady c.sync_zone-outcome.ensures.long)

pub returns-in_err-last-clause-over_link : goal.returns-in_err-last-clause-over_link
returns-in_err-last-clause-over_link g c =
    (transfer_so _ c.args.moments.at_primary _ _ _ _ _ c.args.key.now (mode_of c.args.mode) c.args.moments.at_secondary c.args.session.now.current c.args.session.now.current c.args.made.now.items c.sync_zone-outcome.new.made.items c.sync_zone-outcome.new.session c.sync_zone-outcome.result
    refl c.requires.new c.sync_zone-outcome.ensures.headline c.sync_zone-outcome.ensures.failed c.sync_zone-outcome.ensures.steady c.sync_zone-outcome.ensures.long)

pub returns-then-eq-clause-over_link : goal.returns-then-eq-clause-over_link
returns-then-eq-clause-over_link g c =
    (transfer_so _ c.args.moments.at_primary _ _ _ _ _ c.args.key.now (mode_of c.args.mode) c.args.moments.at_secondary c.args.session.now.current c.args.session.now.current c.args.made.now.items c.sync_zone-outcome.new.made.items c.sync_zone-outcome.new.session c.sync_zone-outcome.result
    refl c.requires.new c.sync_zone-outcome.ensures.headline c.sync_zone-outcome.ensures.failed c.sync_zone-outcome.ensures.steady c.sync_zone-outcome.ensures.long)
