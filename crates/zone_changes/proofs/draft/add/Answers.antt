use Rattle.std.proofs.Common.{◌≡◌, sym, ap, subst, ◌∙◌, rules}
use Rattle.std.specs.Arc.{arc_value}
use Rattle.dns_rdata.specs.ZoneData.{data_fields}
use Rattle.zone_model.specs.Version.{Version}
use Rattle.zone_versions.specs.Held.{counted}
use Rattle.zone_versions.specs.Trees.{built}
use Rattle.zone_versions.proofs.Outcomes.{on_ok}
use Rattle.zone_changes.specs.Touched.{Covers}
use Rattle.zone_changes.proofs.Drafting.{added_covers, added_apex}
use Rattle.zone_changes.proofs.draft.add.Goals as goal

-- The version was this owner's alone, or a copy of it is edited.
pub returns-in-Ok-clause-covered : goal.returns-in-Ok-clause-covered
returns-in-Ok-clause-covered c keys base t h =
    let before : c.in-Ok.version.now ≡ arc_value c.args.pending.now = (search rules) in
    let after : arc_value (c.make_mut.follows.lender c.add.new.self) ≡ c.add.new.self = (search rules) in
    subst (λ (x : Version). Covers keys base x.sets) (sym after)
    (added_covers c.add.result c.args.key c.args.ttl (data_fields c.args.item) c.in-Ok.version.now c.add.new.self c.add.ensures.folded c.add.ensures.ok c.add.ensures.err keys base t (subst (λ (x : Version). Covers keys base x.sets) (sym before) h))

pub returns-in-Ok-clause-apex : goal.returns-in-Ok-clause-apex
returns-in-Ok-clause-apex c =
    let before : c.in-Ok.version.now ≡ arc_value c.args.pending.now = (search rules) in
    let after : arc_value (c.make_mut.follows.lender c.add.new.self) ≡ c.add.new.self = (search rules) in
    ap (λ (x : Version). x.apex) after
    ∙ added_apex c.add.result c.args.key c.args.ttl (data_fields c.args.item) c.in-Ok.version.now c.add.new.self c.add.ensures.folded c.add.ensures.ok c.add.ensures.err
    ∙ ap (λ (x : Version). x.apex) before

pub returns-in-Ok-clause-steps : goal.returns-in-Ok-clause-steps
returns-in-Ok-clause-steps c =
    let before : c.in-Ok.version.now ≡ arc_value c.args.pending.now = (search rules) in
    let after : arc_value (c.make_mut.follows.lender c.add.new.self) ≡ c.add.new.self = (search rules) in
    on_ok c.add.result
    (λ e. e ∙ (λ i. counted c.args.steps.now (built (before i) (sym after i) c.args.key.0 c.args.key.1)))
    c.add.ensures.steps
