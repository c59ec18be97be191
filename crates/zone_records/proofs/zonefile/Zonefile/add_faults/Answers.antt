use Rattle.std.proofs.Common.{◌++◌, List, map, ap, sym, ◌∙◌, append-nil}
use Rattle.dns_name.specs.Names.{Name}
use Rattle.zone_model.specs.Version.{Key}
use Rattle.zone_values.specs.TypedSets.{TypedSet}
use Rattle.zone_values.specs.declared.record_errors.ContextError.{ContextError}
use Rattle.zone_versions.specs.Held.{told}
use Rattle.zone_versions.specs.Stops.{key_told}
use Rattle.zone_versions.proofs.Stops.{keys_told}
use Rattle.zone_records.specs.Parsed.{sets_for}
use Rattle.zone_records.specs.Seen.{kind_seen}
use Rattle.zone_records.specs.Faults.{faults_at}
use Rattle.zone_records.proofs.Faulty.{fault_step}
use Rattle.zone_records.proofs.zonefile.Zonefile.add_faults.Goals as goal

-- All sets are left at first.
pub loop-set-init : goal.loop-set-init
loop-set-init c =
    let p = c.args.self.now in
    let kind = kind_seen c.args.kind in
    ap (λ (ks : List Key). c.args.found.now ++ faults_at p kind ks) (ap (map key_told) (c.into_iter-set-iterator.ensures.into_iter_gives ∙ c.iter-set-items.ensures.is ∙ ap (map told) c.owners.ensures) ∙ keys_told (sets_for p kind))

-- One set more.
pub loop-set-preserved : goal.loop-set-preserved
loop-set-preserved c =
    let p = c.args.self.now in
    let kind = kind_seen c.args.kind in
    ap (λ (l : List (Name × ContextError)). l ++ faults_at p kind (map key_told c.next.new.self)) c.in_ok-add_fault.ensures
    ∙ fault_step p kind c.loop-set.found (key_told c.in-Some.set) (map key_told c.next.new.self)
    ∙ ap (λ (xs : List (Name × TypedSet)). c.loop-set.found ++ faults_at p kind (map key_told xs)) (sym c.in-Some.ensures.steps) ∙ c.loop-set.invariant

-- No set is left.
pub returns : goal.returns
returns c =
    sym (append-nil c.loop-set.found) ∙ ap (λ (xs : List (Name × TypedSet)). c.loop-set.found ++ faults_at c.args.self.now (kind_seen c.args.kind) (map key_told xs)) (sym c.in-None.ensures.steps.0) ∙ c.loop-set.invariant
