use Rattle.std.proofs.Common.{◌≡◌, ap, subst, ◌∙◌, Option, Some, option_map, IfOk}
use Rattle.zone_reads.specs.Parts.{Part, CutParts, cut_in, parts_of_cut, special_of}
use Rattle.zone_reads.proofs.NodeParts.{cut_told}
use Rattle.zone_reads.proofs.parts.ZoneNode.zone_cut.Goals as goal

-- The name is a zone cut where its special says so.
pub returns-in-Some : goal.returns-in-Some
returns-in-Some c =
    let node = c.args.self.now in
    subst (λ (x : Option CutParts). IfOk c.cut_of.result (λ cut. option_map parts_of_cut cut ≡ x))
    (ap (λ (p : Part). cut_in p.version p.name (Some (special_of c.in-Some.special))) c.self.view_is ∙ ap (cut_in node.version node.name) c.in-Some.ensures ∙ cut_told node.version node.name)
    c.cut_of.ensures
