use Rattle.std.proofs.Common.{map, ap, ◌∙◌}
use Rattle.xfr_model.specs.Read.{record_item}
use Rattle.xfr_client.proofs.Sections.{left_behind}
use Rattle.xfr_client.proofs.interpreter.behind_first.Goals as goal

pub returns : goal.returns
returns c m x xs h e = left_behind _ _ _ x xs c.next_found.ensures (c.in_ok-section.ensures.read m h ∙ ap (map record_item) e)
