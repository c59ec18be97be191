use Rattle.std.proofs.Common.{◌≡◌, All, sym, ap, subst, ◌∙◌}
use Rattle.std.specs.BTreeMap.{insert_entry, is_at}
use Rattle.std.specs.Map.{lookup}
use Rattle.dns_name.specs.Names.{fold}
use Rattle.zone_model.specs.Zones.{zone_key_cmp, zone_of}
use Rattle.zone_tree.specs.Trees.{key_of}
use Rattle.zone_tree.proofs.Keys.{IsPlaced}
use Rattle.zone_tree.proofs.Edited.{on_ok, on_err, of_both, inserted_there, inserted_others, placed_inserted}
use Rattle.zone_tree.proofs.tree.ZoneTree.put.Goals as goal

-- At the zone's own key the tree has nothing.
pub put_at-requires : goal.put_at-requires
put_at-requires g c =
    let z = g.Z.AtApex in
    let zone = c.args.zone in
    let key : c.zone_key-key.result ≡ key_of z.class_of z.apex_of zone = c.zone_key-key.ensures ∙ (λ i. (c.class.ensures i, fold (c.apex_name.ensures i))) in
    record {
      free = ap (λ k. lookup (is_at (zone_key_cmp k)) c.self.inside.entries.entries) key ∙ ap (λ es. zone_of es (z.class_of zone) (z.apex_of zone)) c.self.view_is ∙ c.requires.free;
    }

-- The key is the zone's own.
pub invariant_of-self : goal.invariant_of-self
invariant_of-self g c =
    let z = g.Z.AtApex in
    let zone = c.args.zone in
    let key : c.zone_key-key.result ≡ key_of z.class_of z.apex_of zone = c.zone_key-key.ensures ∙ (λ i. (c.class.ensures i, fold (c.apex_name.ensures i))) in
    record {
      ordered = c.put_at.ensures.ordered;
      placed = of_both c.put_at.result _ _ (All (IsPlaced z.class_of z.apex_of) c.put_at.new.entries.entries) c.put_at.ensures.ok c.put_at.ensures.err
          (λ e. subst (All (IsPlaced z.class_of z.apex_of)) (sym e) (placed_inserted z.class_of z.apex_of c.self.inside.entries.entries c.zone_key-key.result zone key c.self.invariant.placed))
          (λ e. subst (All (IsPlaced z.class_of z.apex_of)) (sym e) c.self.invariant.placed);
    }

pub returns-clause-ok : goal.returns-clause-ok
returns-clause-ok g c =
    let z = g.Z.AtApex in
    let zone = c.args.zone in
    let key : c.zone_key-key.result ≡ key_of z.class_of z.apex_of zone = c.zone_key-key.ensures ∙ (λ i. (c.class.ensures i, fold (c.apex_name.ensures i))) in
    on_ok c.put_at.result _ _ c.put_at.ensures.ok
    (λ e. e ∙ ap (λ k. insert_entry zone_key_cmp c.self.inside.entries.entries k zone) key ∙ ap (λ es. insert_entry zone_key_cmp es (key_of z.class_of z.apex_of zone) zone) c.self.view_is)

-- What is put at a key is found there.
pub returns-clause-stands : goal.returns-clause-stands
returns-clause-stands g c =
    let z = g.Z.AtApex in
    let zone = c.args.zone in
    let key : c.zone_key-key.result ≡ key_of z.class_of z.apex_of zone = c.zone_key-key.ensures ∙ (λ i. (c.class.ensures i, fold (c.apex_name.ensures i))) in
    on_ok c.put_at.result _ _ c.put_at.ensures.ok
    (λ e. ap (λ es. zone_of es (z.class_of zone) (z.apex_of zone)) (e ∙ ap (λ k. insert_entry zone_key_cmp c.self.inside.entries.entries k zone) key)
    ∙ inserted_there c.self.inside.entries.entries (key_of z.class_of z.apex_of zone) zone)

-- Done or not, every other key has what it had.
pub returns-clause-others : goal.returns-clause-others
returns-clause-others g c = λ q n apart.
    let z = g.Z.AtApex in
    let zone = c.args.zone in
    let key : c.zone_key-key.result ≡ key_of z.class_of z.apex_of zone = c.zone_key-key.ensures ∙ (λ i. (c.class.ensures i, fold (c.apex_name.ensures i))) in
    of_both c.put_at.result _ _ (zone_of c.put_at.new.entries.entries q n ≡ zone_of c.self.inside.entries.entries q n) c.put_at.ensures.ok c.put_at.ensures.err
    (λ e. ap (λ es. zone_of es q n) (e ∙ ap (λ k. insert_entry zone_key_cmp c.self.inside.entries.entries k zone) key) ∙ inserted_others c.self.inside.entries.entries (z.class_of zone) (z.apex_of zone) zone q n apart)
    (λ e. ap (λ es. zone_of es q n) e)
    ∙ ap (λ es. zone_of es q n) c.self.view_is

pub returns-clause-err : goal.returns-clause-err
returns-clause-err g c = on_err c.put_at.result _ _ c.put_at.ensures.err (λ e. e ∙ c.self.view_is)
