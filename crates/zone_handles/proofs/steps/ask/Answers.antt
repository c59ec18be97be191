use Rattle.std.proofs.Common.{Ok, Err, subst}
use Rattle.zone_handles.specs.declared.errors.HandleError.TheVariants.{OutOfZone}
use Rattle.zone_handles.specs.Steps.{Answers}
use Rattle.zone_handles.proofs.Moves.{got, lacks, same_since, none_since}
use Rattle.zone_handles.proofs.steps.ask.Goals as goal

pub returns-in-Ok-clause-answered : goal.returns-in-Ok-clause-answered
returns-in-Ok-clause-answered g c =
    let found = got c.args.handles.now c.args.handle c.in-Some.zone c.in-Some.ensures.lookup in
    λ z since v h at. subst (λ w. Answers w (g.N.Labelled.labels c.args.qname.now) c.args.qtype (Ok c.in-Ok.found)) (same_since c.args.handles.now z since c.args.handle c.in-Some.zone.now v found h at) (c.in-Ok.ensures.inside, c.in-Ok.ensures.answer)

pub returns-in-Err-clause-answered : goal.returns-in-Err-clause-answered
returns-in-Err-clause-answered g c =
    let found = got c.args.handles.now c.args.handle c.in-Some.zone c.in-Some.ensures.lookup in
    λ z since v h at. subst (λ w. Answers w (g.N.Labelled.labels c.args.qname.now) c.args.qtype (Err OutOfZone)) (same_since c.args.handles.now z since c.args.handle c.in-Some.zone.now v found h at) c.in-Err.ensures.outside

pub returns-in-None-clause-answered : goal.returns-in-None-clause-answered
returns-in-None-clause-answered g c =
    λ z since v h at. none_since c.args.handles.now z since c.args.handle v (lacks c.args.handles.now c.args.handle c.in-None.ensures.lookup) h at
