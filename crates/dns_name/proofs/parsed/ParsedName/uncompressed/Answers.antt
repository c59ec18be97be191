use Rattle.std.proofs.Common.{◌∙◌, ap, arith, refl, Some}
use Rattle.dns_name.specs.Pieces.{element_of}
use Rattle.dns_name.proofs.Decoding.{within}
use Rattle.dns_name.proofs.WireForms.{wire_invariant, labels_of_wire}
use Rattle.dns_name.proofs.FlatNames.{together_none, together_label, together_root}
use Rattle.dns_name.proofs.parsed.ParsedName.uncompressed.Goals as goal

pub pieces-init : goal.pieces-init
pieces-init c = together_none c.self.inside.message.now c.self.inside.pos c.args.self.now (record { some = c.self.invariant; labels = c.self.view_is })

pub pieces-preserved : goal.pieces-preserved
pieces-preserved c =
    let m = c.self.inside.message.now in
    let seen = c.in-Ok-Label.ensures.found ∙ ap (λ p. Some (element_of p)) c.in-Ok-Label.field-0-is in
    let g = within m c.pieces.place _ _ c.in-Ok-Label.ensures.inside c.in-Ok-Label.field-0-is in
    together_label m c.self.inside.pos c.pieces.place _ c.args.self.now c.in-Ok-Label.label.now c.pieces.invariant seen g.1 refl

pub slice_bounds-whole-count : goal.slice_bounds-whole-count
slice_bounds-whole-count c = omega (arith, c.pieces.invariant.after)

pub slice_bounds-whole-start : goal.slice_bounds-whole-start
slice_bounds-whole-start c = omega (arith, c.pieces.invariant.after)

pub whole-requires-clause-name : goal.whole-requires-clause-name
whole-requires-clause-name c =
    let seen = c.in-Ok-Root.ensures.found ∙ ap (λ p. Some (element_of p)) c.in-Ok-Root.field-0-is in
    let s = together_root c.self.inside.message.now c.self.inside.pos c.pieces.place c.args.self.now (record { some = c.self.invariant; labels = c.self.view_is }) c.pieces.invariant seen in
    (wire_invariant _ c.args.self.now s.wire s.name).0

pub whole-requires-clause-wire : goal.whole-requires-clause-wire
whole-requires-clause-wire c =
    let seen = c.in-Ok-Root.ensures.found ∙ ap (λ p. Some (element_of p)) c.in-Ok-Root.field-0-is in
    let s = together_root c.self.inside.message.now c.self.inside.pos c.pieces.place c.args.self.now (record { some = c.self.invariant; labels = c.self.view_is }) c.pieces.invariant seen in
    (wire_invariant _ c.args.self.now s.wire s.name).1

pub returns-in-Ok-Root-clause-value : goal.returns-in-Ok-Root-clause-value
returns-in-Ok-Root-clause-value c =
    let seen = c.in-Ok-Root.ensures.found ∙ ap (λ p. Some (element_of p)) c.in-Ok-Root.field-0-is in
    let s = together_root c.self.inside.message.now c.self.inside.pos c.pieces.place c.args.self.now (record { some = c.self.invariant; labels = c.self.view_is }) c.pieces.invariant seen in
    c.whole.ensures ∙ labels_of_wire _ c.args.self.now s.wire s.name

pub returns-in-Ok-Root-clause-name : goal.returns-in-Ok-Root-clause-name
returns-in-Ok-Root-clause-name c =
    let seen = c.in-Ok-Root.ensures.found ∙ ap (λ p. Some (element_of p)) c.in-Ok-Root.field-0-is in
    (together_root c.self.inside.message.now c.self.inside.pos c.pieces.place c.args.self.now (record { some = c.self.invariant; labels = c.self.view_is }) c.pieces.invariant seen).name
