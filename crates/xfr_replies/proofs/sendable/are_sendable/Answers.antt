use Rattle.std.proofs.Common.{sym, ◌∙◌}
use Rattle.std.specs.Arc.{arc_value}
use Rattle.std.proofs.lemmas.List.Folds.{list_all-map}
use Rattle.zone_model.specs.Offer.{is_sendable}
use Rattle.xfr_replies.proofs.sendable.are_sendable.Goals as goal

pub returns : goal.returns
returns c = c.all_sendable.ensures ∙ sym (list_all-map (is_sendable c.args.zone.now.version) arc_value c.args.diffs.now)
