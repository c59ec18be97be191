use Rattle.std.proofs.Common.{◌∙◌, arith}
use Rattle.dns_name.proofs.Elements.{octets_fit}
use Rattle.zone_reads.proofs.ChildNames.{joined, joined_labels, joined_named, joined_spelled}
use Rattle.zone_reads.proofs.child.joined.Goals as goal

-- The octets are the label's wire form and the name's.
pub from_wire-requires-clause-name : goal.from_wire-requires-clause-name
from_wire-requires-clause-name c =
    joined_named _ _ _
    (joined c.args.label.now c.args.name.now c.new-octets.result c.append_label.new.self c.as_slice.result.now c.append.new.self c.new-octets.ensures c.in_ok-append_label.ensures.ok c.as_slice.ensures.wire c.in_ok-append.ensures.ok c.in_ok-append.ensures.fits
    c.requires.some c.requires.bound (octets_fit c.args.label.now (λ k. omega (arith, c.type_inv.label k))) c.as_slice.ensures.name)

pub from_wire-requires-clause-wire : goal.from_wire-requires-clause-wire
from_wire-requires-clause-wire c =
    joined_spelled _ _ _
    (joined c.args.label.now c.args.name.now c.new-octets.result c.append_label.new.self c.as_slice.result.now c.append.new.self c.new-octets.ensures c.in_ok-append_label.ensures.ok c.as_slice.ensures.wire c.in_ok-append.ensures.ok c.in_ok-append.ensures.fits
    c.requires.some c.requires.bound (octets_fit c.args.label.now (λ k. omega (arith, c.type_inv.label k))) c.as_slice.ensures.name)

pub returns-clause-is : goal.returns-clause-is
returns-clause-is c =
    c.from_wire.ensures ∙ joined_labels _ _ _
    (joined c.args.label.now c.args.name.now c.new-octets.result c.append_label.new.self c.as_slice.result.now c.append.new.self c.new-octets.ensures c.in_ok-append_label.ensures.ok c.as_slice.ensures.wire c.in_ok-append.ensures.ok c.in_ok-append.ensures.fits
    c.requires.some c.requires.bound (octets_fit c.args.label.now (λ k. omega (arith, c.type_inv.label k))) c.as_slice.ensures.name)
