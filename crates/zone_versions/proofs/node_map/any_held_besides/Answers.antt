use Rattle.std.proofs.Common.{◌≡◌, ◌<◌, Bool, true, false, ◌&&◌, ◌==◌, not, length, refl, sym, ◌∙◌, subst, option_map, is_eq, is_lt}
use Rattle.std.specs.List.{find}
use Rattle.std.specs.Map.Iter.{deref_pair}
use Rattle.paged_map.specs.Octets.{octets_cmp, begins_with}
use Rattle.zone_versions.specs.Keyed.{holds_besides, left_from}
use Rattle.zone_versions.proofs.Scan.{OneKept, At, Remains, look_starts, look_next, look_out, look_shrinks}
use Rattle.zone_versions.proofs.node_map.any_held_besides.Goals as goal

neither : (b x y : Bool) → (x && y) ≡ false → ((b && x) && y) ≡ false
neither true x y h = h
neither false x y h = refl

pub loop-next-init : goal.loop-next-init
loop-next-init c = subst (Remains c.args.name.now c.args.owner.now c.args.pages.now) (sym c.first_from-next.ensures) (look_starts c.args.name.now c.args.owner.now c.args.pages.now)

pub loop-next-preserved : goal.loop-next-preserved
loop-next-preserved c =
    let e : OneKept = (c.in-Some.key.now, c.in-Some.node.now) in
    let at : At c.args.name.now c.args.owner.now c.args.pages.now (c.in-Some.key.now, c.in-Some.node.now) = subst (λ n. Remains c.args.name.now c.args.owner.now c.args.pages.now (option_map deref_pair n)) c.in-Some.is c.loop-next.invariant in
    let none : holds_besides c.args.name.now c.args.owner.now (c.in-Some.key.now, c.in-Some.node.now) ≡ false
    = neither (begins_with c.in-Some.key.now c.args.name.now) (not (length c.in-Some.node.now == 0)) (not (is_eq (octets_cmp c.args.owner.now c.in-Some.key.now))) (sym c.holds_besides.ensures ∙ c.if-holds_besides.false) in
    subst (Remains c.args.name.now c.args.owner.now c.args.pages.now) (sym c.first_after-next.ensures) (look_next c.args.name.now c.args.owner.now c.args.pages.now (c.in-Some.key.now, c.in-Some.node.now) c.requires at none)

pub loop-next-smaller : goal.loop-next-smaller
loop-next-smaller c =
    let at : At c.args.name.now c.args.owner.now c.args.pages.now (c.in-Some.key.now, c.in-Some.node.now) = subst (λ n. Remains c.args.name.now c.args.owner.now c.args.pages.now (option_map deref_pair n)) c.in-Some.is c.loop-next.invariant in
    subst (λ n. left_from c.args.pages.now n < left_from c.args.pages.now (option_map deref_pair c.loop-next.next)) (sym c.first_after-next.ensures)
    (subst (λ n. left_from c.args.pages.now (find (λ (f : OneKept). is_lt (octets_cmp c.in-Some.key.now f.0)) c.args.pages.now) < left_from c.args.pages.now (option_map deref_pair n)) (sym c.in-Some.is)
    (look_shrinks c.args.name.now c.args.owner.now c.args.pages.now (c.in-Some.key.now, c.in-Some.node.now) at))

pub returns-then-not-starts_with : goal.returns-then-not-starts_with
returns-then-not-starts_with c =
    let at : At c.args.name.now c.args.owner.now c.args.pages.now (c.in-Some.key.now, c.in-Some.node.now) = subst (λ n. Remains c.args.name.now c.args.owner.now c.args.pages.now (option_map deref_pair n)) c.in-Some.is c.loop-next.invariant in
    sym (look_out c.args.name.now c.args.owner.now c.args.pages.now (c.in-Some.key.now, c.in-Some.node.now) c.requires at (sym c.starts_with.ensures.value ∙ c.if-not-starts_with.true))
