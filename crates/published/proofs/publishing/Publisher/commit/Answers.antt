use Rattle.std.proofs.Common.{rules, ◌≡◌, sym, subst, arith}
use Rattle.published.specs.Commits.{MayFollow}
use Rattle.published.specs.History.{Past}
use Rattle.published.proofs.Lists.{length_fits}
use Rattle.published.proofs.Steps.{goes_on_equal}
use Rattle.published.proofs.publishing.Publisher.commit.Goals as goal

pub overflow_add-added : goal.overflow_add-added
overflow_add-added g c =
    let list = c.self.inside.front.list in
    let last = c.self.inside.front.last in
    let follows : MayFollow g.E.Numbered.number_of list c.args.next =
    subst (λ (p : Past _). MayFollow g.E.Numbered.number_of p.list c.args.next) (sym c.self.view_is) c.requires in
    omega (
      arith,
      c.self.invariant.2,
      length_fits g.E.Numbered.number_of list last c.entry-last.ensures.list.1 c.entry-last.ensures.list.0,
      follows last c.entry-last.ensures.list.0,
      c.number-number.ensures,
      c.number-number.type_inv,
    )

pub add-requires-clause-added : goal.add-requires-clause-added
add-requires-clause-added g c =
    let list = c.self.inside.front.list in
    let last = c.self.inside.front.last in
    let follows : MayFollow g.E.Numbered.number_of list c.args.next =
    subst (λ (p : Past _). MayFollow g.E.Numbered.number_of p.list c.args.next) (sym c.self.view_is) c.requires in (
      c.self.invariant.2,
      omega (
        arith,
        c.self.invariant.2,
        length_fits g.E.Numbered.number_of list last c.entry-last.ensures.list.1 c.entry-last.ensures.list.0,
        follows last c.entry-last.ensures.list.0,
        c.number-number.ensures,
        c.number-number.type_inv,
      ),
    )

pub publish-requires : goal.publish-requires
publish-requires g c =
    let same : c.publish-writer.result.desk.shown.value ≡ c.twin-spare.result = search rules in
    goes_on_equal _ _ same
