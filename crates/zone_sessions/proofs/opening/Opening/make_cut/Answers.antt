use Rattle.std.proofs.Common.{◌≡◌, ℕ, sym, ap, ◌∙◌, option_map}
use Rattle.dns_name.specs.Names.{Name}
use Rattle.zone_model.specs.Edits.{make_cut}
use Rattle.zone_values.specs.TypedSets.{TypedSet}
use Rattle.zone_sessions.proofs.KeptApex.{place, cut_place, kept}
use Rattle.zone_sessions.proofs.opening.Opening.make_cut.Goals as goal

-- An edit keeps the apex and the class.
pub keep-requires-clause-apex : goal.keep-requires-clause-apex
keep-requires-clause-apex c =
    let v = c.in_ok-version.version in
    ap (λ (p : Name × ℕ). p.0) (kept c.make_cut-put.result c.args.self.now v c.make_cut-put.new.version (make_cut v c.args.owner.now c.args.ns.now.contents (option_map (λ (s : TypedSet). s.contents) c.args.ds.now) c.args.glue.now) c.in_ok-version.ensures.ok c.make_cut-put.ensures.ok c.make_cut-put.ensures.err (cut_place v c.args.owner.now c.args.ns.now.contents (option_map (λ (s : TypedSet). s.contents) c.args.ds.now) c.args.glue.now) ∙ sym (ap place c.in_ok-version.ensures.rest))

pub keep-requires-clause-class : goal.keep-requires-clause-class
keep-requires-clause-class c =
    let v = c.in_ok-version.version in
    ap (λ (p : Name × ℕ). p.1) (kept c.make_cut-put.result c.args.self.now v c.make_cut-put.new.version (make_cut v c.args.owner.now c.args.ns.now.contents (option_map (λ (s : TypedSet). s.contents) c.args.ds.now) c.args.glue.now) c.in_ok-version.ensures.ok c.make_cut-put.ensures.ok c.make_cut-put.ensures.err (cut_place v c.args.owner.now c.args.ns.now.contents (option_map (λ (s : TypedSet). s.contents) c.args.ds.now) c.args.glue.now) ∙ sym (ap place c.in_ok-version.ensures.rest))
