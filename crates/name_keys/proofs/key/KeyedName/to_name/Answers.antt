use Rattle.std.proofs.Common.{◌≡◌, ◌≤◌, ◌<◌, ◌+◌, ◌++◌, ◌∷◌, ◌∙◌, List, ℕ, length, sym, ap, subst, arith}
use Rattle.dns_name.specs.Names.{Name, is_name, name_wire}
use Rattle.dns_name.proofs.WireForms.{first_is_label, label_short, wire_invariant, labels_of_wire}
use Rattle.name_keys.proofs.Spelling.{piece_spells, room_for_label, label_written, went_well, room_for_root}
use Rattle.name_keys.proofs.key.KeyedName.to_name.Goals as goal

pub append_label-requires-clause-label : goal.append_label-requires-clause-label
append_label-requires-clause-label g c =
    let (label, first) = c.in-Some.ensures in
    let same = piece_spells c.as_slice-octets.result.now c.as_slice.result.now label c.in-Some.parent c.loop-parent.rest c.as_slice-octets.ensures.value first
    c.as_slice-octets.ensures.folded c.as_slice.ensures.value in
    let is : is_name (label ∷ c.in-Some.parent) ≡ is_name c.loop-parent.rest = ap is_name (sym first) in
    let short = label_short label (first_is_label label c.in-Some.parent (is ∙ c.as_slice-octets.ensures.name)) in
    subst (λ (l : List ℕ). length l ≤ 63) (sym same) (omega (arith, short))

pub append_label-requires-clause-room : goal.append_label-requires-clause-room
append_label-requires-clause-room g c =
    let (label, first) = c.in-Some.ensures in
    let same = piece_spells c.as_slice-octets.result.now c.as_slice.result.now label c.in-Some.parent c.loop-parent.rest c.as_slice-octets.ensures.value first
    c.as_slice-octets.ensures.folded c.as_slice.ensures.value in
    let room = room_for_label c.loop-parent.wire label c.in-Some.parent c.loop-parent.rest c.args.self.now c.borrowed-rest.ensures.name first c.loop-parent.invariant in
    subst (λ (l : List ℕ). length c.loop-parent.wire + length l < 255) (sym same) room

pub loop-parent-preserved : goal.loop-parent-preserved
loop-parent-preserved g c =
    let (label, first) = c.in-Some.ensures in
    let same = piece_spells c.as_slice-octets.result.now c.as_slice.result.now label c.in-Some.parent c.loop-parent.rest c.as_slice-octets.ensures.value first
    c.as_slice-octets.ensures.folded c.as_slice.ensures.value in
    label_written c.loop-parent.wire c.append_label.new.wire label c.in-Some.parent c.loop-parent.rest (name_wire c.args.self.now) first c.loop-parent.invariant
    (c.append_label.ensures ∙ (λ i. c.loop-parent.wire ++ length (same i) ∷ same i))

pub from_wire-requires-clause-name : goal.from_wire-requires-clause-name
from_wire-requires-clause-name g c =
    let h = c.borrowed-rest.ensures.name in
    let whole = ap (λ (n : Name). c.loop-parent.wire ++ name_wire n) (sym c.in_default.ensures) ∙ c.loop-parent.invariant in
    let new = went_well c.append.result c.append.ensures.ok c.append.ensures.full (room_for_root c.loop-parent.wire c.args.self.now h whole) in
    (wire_invariant c.append.new.self c.args.self.now (new ∙ whole) h).0

pub from_wire-requires-clause-wire : goal.from_wire-requires-clause-wire
from_wire-requires-clause-wire g c =
    let h = c.borrowed-rest.ensures.name in
    let whole = ap (λ (n : Name). c.loop-parent.wire ++ name_wire n) (sym c.in_default.ensures) ∙ c.loop-parent.invariant in
    let new = went_well c.append.result c.append.ensures.ok c.append.ensures.full (room_for_root c.loop-parent.wire c.args.self.now h whole) in
    (wire_invariant c.append.new.self c.args.self.now (new ∙ whole) h).1

pub returns : goal.returns
returns g c =
    let h = c.borrowed-rest.ensures.name in
    let whole = ap (λ (n : Name). c.loop-parent.wire ++ name_wire n) (sym c.in_default.ensures) ∙ c.loop-parent.invariant in
    let new = went_well c.append.result c.append.ensures.ok c.append.ensures.full (room_for_root c.loop-parent.wire c.args.self.now h whole) in
    c.from_wire.ensures ∙ labels_of_wire c.append.new.self c.args.self.now (new ∙ whole) h
