use Rattle.std.proofs.Common.{◌≡◌, ◌∙◌, subst, arith}
use Rattle.std.specs.Prelude.{IfOk}
use Rattle.dns_name.specs.Names.{Name}
use Rattle.dns_name.proofs.Elements.{octets_fit}
use Rattle.zone_reads.proofs.ChildNames.{joined_labels, joined_named, joined_spelled}
use Rattle.zone_generated.proofs.HostNames.{below}
use Rattle.zone_generated.proofs.records.below_apex.Goals as goal

-- The octets are the label's wire form and the apex's.
pub name_kept-requires-clause-name : goal.name_kept-requires-clause-name
name_kept-requires-clause-name c =
    joined_named _ _ _
    (below c.args.label.now c.in_ok-octets.octets.items c.push.new.self.items c.extend_from_slice.new.self.items c.extend_from_slice-2.new.self.items c.in_ok-octets.ensures.items c.in_ok-push.ensures.items c.in_ok-extend_from_slice.ensures.items
    c.in_ok-extend_from_slice-2.ensures.items c.requires.some c.requires.short (octets_fit c.args.label.now (λ k. omega (arith, c.type_inv.label k))))

pub name_kept-requires-clause-spelled : goal.name_kept-requires-clause-spelled
name_kept-requires-clause-spelled c =
    joined_spelled _ _ _
    (below c.args.label.now c.in_ok-octets.octets.items c.push.new.self.items c.extend_from_slice.new.self.items c.extend_from_slice-2.new.self.items c.in_ok-octets.ensures.items c.in_ok-push.ensures.items c.in_ok-extend_from_slice.ensures.items
    c.in_ok-extend_from_slice-2.ensures.items c.requires.some c.requires.short (octets_fit c.args.label.now (λ k. omega (arith, c.type_inv.label k))))

pub returns : goal.returns
returns c =
    subst (λ (m : Name). IfOk c.name_kept.result (λ n. n ≡ m))
    (joined_labels _ _ _
    (below c.args.label.now c.in_ok-octets.octets.items c.push.new.self.items c.extend_from_slice.new.self.items c.extend_from_slice-2.new.self.items c.in_ok-octets.ensures.items c.in_ok-push.ensures.items c.in_ok-extend_from_slice.ensures.items
    c.in_ok-extend_from_slice-2.ensures.items c.requires.some c.requires.short (octets_fit c.args.label.now (λ k. omega (arith, c.type_inv.label k)))))
    c.name_kept.ensures
