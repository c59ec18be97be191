use Rattle.std.proofs.Common.{◌≡◌, true, refl, ap, sym, subst, ◌∙◌}
use Rattle.dns_name.specs.Names.{Name, under}
use Rattle.zone_model.specs.Version.{Sets}
use Rattle.zone_model.specs.Classify.{Normal, Cut, Alias, Accepted}
use Rattle.zone_records.specs.declared.kinds.RecordKind.{RecordKind}
use Rattle.zone_records.specs.Parsed.{Parsed, IsByKind}
use Rattle.zone_records.specs.Taking.{verdict_in, put_to}
use Rattle.zone_records.specs.Seen.{kind_seen}
use Rattle.zone_records.proofs.ByKind.{taken_by_kind, accepted_in, either}
use Rattle.zone_records.proofs.Opened.{under_root}
use Rattle.zone_records.proofs.zonefile.Zonefile.put.Goals as goal

-- The record is of its kind, and of no other.
pub invariant_of-self : goal.invariant_of-self
invariant_of-self c =
    let p : Parsed = record { origin = c.self.inside.origin; class = c.self.inside.class; normal = c.self.inside.normal; cuts = c.self.inside.zone_cuts; aliases = c.self.inside.cnames; outside = c.self.inside.out_of_zone } in
    let accepted = ap (λ (k : RecordKind). Accepted (kind_seen k)) (sym c.in-Normal.is) ∙ c.requires ∙ ap (λ (q : Parsed). verdict_in q c.args.found) (sym c.self.view_is) in
    either (λ (s : Sets). IsByKind s p.cuts p.aliases) c.put.result c.put.new.self (put_to p.normal c.args.found) p.normal c.put.ensures.ok c.put.ensures.err (taken_by_kind p c.args.found Normal accepted c.self.invariant) c.self.invariant

pub invariant_of-self-in-Cut : goal.invariant_of-self-in-Cut
invariant_of-self-in-Cut c =
    let p : Parsed = record { origin = c.self.inside.origin; class = c.self.inside.class; normal = c.self.inside.normal; cuts = c.self.inside.zone_cuts; aliases = c.self.inside.cnames; outside = c.self.inside.out_of_zone } in
    let accepted = ap (λ (k : RecordKind). Accepted (kind_seen k)) (sym c.in-Cut.is) ∙ c.requires ∙ ap (λ (q : Parsed). verdict_in q c.args.found) (sym c.self.view_is) in
    either (λ (s : Sets). IsByKind p.normal s p.aliases) c.put-in-Cut.result c.put-in-Cut.new.self (put_to p.cuts c.args.found) p.cuts c.put-in-Cut.ensures.ok c.put-in-Cut.ensures.err (taken_by_kind p c.args.found Cut accepted c.self.invariant) c.self.invariant

pub invariant_of-self-in-Alias : goal.invariant_of-self-in-Alias
invariant_of-self-in-Alias c =
    let p : Parsed = record { origin = c.self.inside.origin; class = c.self.inside.class; normal = c.self.inside.normal; cuts = c.self.inside.zone_cuts; aliases = c.self.inside.cnames; outside = c.self.inside.out_of_zone } in
    let accepted = ap (λ (k : RecordKind). Accepted (kind_seen k)) (sym c.in-Alias.is) ∙ c.requires ∙ ap (λ (q : Parsed). verdict_in q c.args.found) (sym c.self.view_is) in
    either (λ (s : Sets). IsByKind p.normal p.cuts s) c.put-in-Alias.result c.put-in-Alias.new.self (put_to p.aliases c.args.found) p.aliases c.put-in-Alias.ensures.ok c.put-in-Alias.ensures.err (taken_by_kind p c.args.found Alias accepted c.self.invariant) c.self.invariant

-- A record of a kind of those in the zone is in it.
pub put-requires : goal.put-requires
put-requires c =
    let p : Parsed = record { origin = c.self.inside.origin; class = c.self.inside.class; normal = c.self.inside.normal; cuts = c.self.inside.zone_cuts; aliases = c.self.inside.cnames; outside = c.self.inside.out_of_zone } in
    let accepted = ap (λ (k : RecordKind). Accepted (kind_seen k)) (sym c.in-Normal.is) ∙ c.requires ∙ ap (λ (q : Parsed). verdict_in q c.args.found) (sym c.self.view_is) in
    accepted_in p c.args.found Normal refl accepted

pub put-requires-in-Cut : goal.put-requires-in-Cut
put-requires-in-Cut c =
    let p : Parsed = record { origin = c.self.inside.origin; class = c.self.inside.class; normal = c.self.inside.normal; cuts = c.self.inside.zone_cuts; aliases = c.self.inside.cnames; outside = c.self.inside.out_of_zone } in
    let accepted = ap (λ (k : RecordKind). Accepted (kind_seen k)) (sym c.in-Cut.is) ∙ c.requires ∙ ap (λ (q : Parsed). verdict_in q c.args.found) (sym c.self.view_is) in
    accepted_in p c.args.found Cut refl accepted

pub put-requires-in-Alias : goal.put-requires-in-Alias
put-requires-in-Alias c =
    let p : Parsed = record { origin = c.self.inside.origin; class = c.self.inside.class; normal = c.self.inside.normal; cuts = c.self.inside.zone_cuts; aliases = c.self.inside.cnames; outside = c.self.inside.out_of_zone } in
    let accepted = ap (λ (k : RecordKind). Accepted (kind_seen k)) (sym c.in-Alias.is) ∙ c.requires ∙ ap (λ (q : Parsed). verdict_in q c.args.found) (sym c.self.view_is) in
    accepted_in p c.args.found Alias refl accepted

-- All are in the root.
pub put-requires-in-Outside : goal.put-requires-in-Outside
put-requires-in-Outside c = subst (λ (n : Name). under c.args.found.owner n ≡ true) (sym c.root.ensures) (under_root c.args.found.owner)
