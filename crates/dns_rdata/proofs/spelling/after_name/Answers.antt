use Rattle.std.proofs.Common.{◌≡◌, ◌∷◌, List, ℕ, sym, ap, subst, ◌∙◌}
use Rattle.dns_name.specs.Names.{Name}
use Rattle.dns_rdata.proofs.FrontNames.{Leaves, at_first, behind_label, label_absent, with_root}
use Rattle.dns_rdata.proofs.spelling.after_name.Goals as goal

pub loop-label-init : goal.loop-label-init
loop-label-init g c =
    let octets : List ℕ = c.args.octets.now in
    let name : Name = g.N.Labelled.labels c.args.name.now in
    subst (λ labels. Leaves octets name octets labels) (sym c.iter_labels-labels.ensures) (at_first octets name)

pub loop-label-preserved : goal.loop-label-preserved
loop-label-preserved g c =
    let octets : List ℕ = c.args.octets.now in
    let name : Name = g.N.Labelled.labels c.args.name.now in
    let l : List ℕ = c.as_slice.result.now in
    let left : c.loop-label.labels ≡ l ∷ c.next.new.self = c.in-Some.ensures.steps ∙ ap (λ x. x ∷ c.next.new.self) (sym c.as_slice.ensures.value) in
    behind_label octets name c.loop-label.rest.now l c.next.new.self c.in-Some-after_label.after.now (subst (Leaves octets name c.loop-label.rest.now) left c.loop-label.invariant) c.in-Some-after_label.ensures

pub returns-in-None : goal.returns-in-None
returns-in-None g c =
    let octets : List ℕ = c.args.octets.now in
    let name : Name = g.N.Labelled.labels c.args.name.now in
    let l : List ℕ = c.as_slice.result.now in
    let left : c.loop-label.labels ≡ l ∷ c.next.new.self = c.in-Some.ensures.steps ∙ ap (λ x. x ∷ c.next.new.self) (sym c.as_slice.ensures.value) in
    label_absent octets name c.loop-label.rest.now l c.next.new.self (subst (Leaves octets name c.loop-label.rest.now) left c.loop-label.invariant) c.in-None.ensures

pub returns : goal.returns
returns g c =
    let octets : List ℕ = c.args.octets.now in
    let name : Name = g.N.Labelled.labels c.args.name.now in
    with_root (λ r. r.now) octets name c.loop-label.rest.now c.after_front.result (subst (Leaves octets name c.loop-label.rest.now) c.in_default.ensures.steps.0 c.loop-label.invariant) c.after_front.ensures
