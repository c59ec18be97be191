use Rattle.std.proofs.Common.{◌≡◌, true, ap, sym, subst, ◌∙◌}
use Rattle.std.specs.Prelude.{IfOk}
use Rattle.std.specs.List.{list_all}
use Rattle.std.specs.Map.{keys_of}
use Rattle.dns_name.specs.Names.{under}
use Rattle.zone_model.specs.Version.{Key, Version}
use Rattle.zone_model.specs.Edits.{with_sets}
use Rattle.zone_values.specs.SetEdits.{put_all}
use Rattle.zone_versions.specs.Sound.{IsSound}
use Rattle.zone_records.specs.Parsed.{Parsed, version_of}
use Rattle.zone_records.specs.Faults.{faults}
use Rattle.zone_records.proofs.SoundFiles.{makes_sound, owners_in}
use Rattle.zone_records.proofs.zonefile.Zonefile.joined.Goals as goal

-- Without faults all owners are in the zone.
pub into_tree-tree-requires : goal.into_tree-tree-requires
into_tree-tree-requires c =
    let p : Parsed = record { origin = c.self.inside.origin; class = c.self.inside.class; normal = c.self.inside.normal; cuts = c.self.inside.zone_cuts; aliases = c.self.inside.cnames; outside = c.self.inside.out_of_zone } in
    (owners_in p (ap (λ (q : Parsed). faults q) c.self.view_is ∙ c.requires)).0

pub joined_with-requires-clause-cuts : goal.joined_with-requires-clause-cuts
joined_with-requires-clause-cuts c =
    let p : Parsed = record { origin = c.self.inside.origin; class = c.self.inside.class; normal = c.self.inside.normal; cuts = c.self.inside.zone_cuts; aliases = c.self.inside.cnames; outside = c.self.inside.out_of_zone } in
    subst (λ (v : Version). list_all (λ (k : Key). under k.0 v.apex) (keys_of p.cuts) ≡ true) (sym c.in-Ok.ensures.is) (owners_in p (ap (λ (q : Parsed). faults q) c.self.view_is ∙ c.requires)).1

pub joined_with-requires-clause-aliases : goal.joined_with-requires-clause-aliases
joined_with-requires-clause-aliases c =
    let p : Parsed = record { origin = c.self.inside.origin; class = c.self.inside.class; normal = c.self.inside.normal; cuts = c.self.inside.zone_cuts; aliases = c.self.inside.cnames; outside = c.self.inside.out_of_zone } in
    subst (λ (v : Version). list_all (λ (k : Key). under k.0 v.apex) (keys_of p.aliases) ≡ true) (sym c.in-Ok.ensures.is) (owners_in p (ap (λ (q : Parsed). faults q) c.self.view_is ∙ c.requires)).2

-- Without faults the sets may stand together.
pub joined_with-requires-clause-sound : goal.joined_with-requires-clause-sound
joined_with-requires-clause-sound c =
    let p : Parsed = record { origin = c.self.inside.origin; class = c.self.inside.class; normal = c.self.inside.normal; cuts = c.self.inside.zone_cuts; aliases = c.self.inside.cnames; outside = c.self.inside.out_of_zone } in
    λ t u. subst (λ (v : Version). IsSound (with_sets v (put_all (put_all v.sets p.cuts) p.aliases))) (sym c.in-Ok.ensures.is)
    (makes_sound p c.into_tree-tree.ensures.tidy t u c.self.invariant (ap (λ (q : Parsed). faults q) c.self.view_is ∙ c.requires))

pub returns-in-Ok : goal.returns-in-Ok
returns-in-Ok c =
    let p : Parsed = record { origin = c.self.inside.origin; class = c.self.inside.class; normal = c.self.inside.normal; cuts = c.self.inside.zone_cuts; aliases = c.self.inside.cnames; outside = c.self.inside.out_of_zone } in
    let all = (λ i. with_sets (c.in-Ok.ensures.is i) (put_all (put_all (c.in-Ok.ensures.is i).sets p.cuts) p.aliases)) ∙ ap (λ (q : Parsed). version_of q) c.self.view_is in
    subst (λ (w : Version). IfOk c.joined_with.result (λ (v : Version). v ≡ w)) all c.joined_with.ensures
