use Rattle.std.proofs.Common.{◌≡◌, filter, not, ap, ◌∙◌}
use Rattle.std.proofs.lemmas.Result.{on_ok_weaker}
use Rattle.paged_map.specs.Octets.{begins_with}
use Rattle.paged_map.proofs.map.PagedMap.remove_under.Goals as goal

pub returns-clause-ok : goal.returns-clause-ok
returns-clause-ok g c = on_ok_weaker c.remove_under-done.result (λ made. made ∙ ap (filter (λ e. not (begins_with e.0 c.args.prefix.now))) c.self.view_is) c.remove_under-done.ensures.ok
