use Rattle.std.proofs.Common.{◌≡◌, ℕ, List, true, sym, ap, ◌∙◌, subst, is_le}
use Rattle.std.specs.List.{list_any, AllByRecursion}
use Rattle.std.specs.List.Sorted.{IsStrictlySortedBy}
use Rattle.std.specs.Map.{keys_of}
use Rattle.std.proofs.lemmas.Map.Keys.{sorted_tail}
use Rattle.paged_map.specs.Octets.{octets_cmp}
use Rattle.zone_versions.specs.Keyed.{Keyed, holds_outside}
use Rattle.zone_versions.proofs.Named.{sorted_filter}
use Rattle.zone_versions.proofs.Cleared.{any_from, from_all, none_behind, not_here}
use Rattle.zone_versions.proofs.node_map.any_held_outside.Goals as goal

pub entries-init : goal.entries-init
entries-init c = record {
  step = (tt, tt);
  left = ap (list_any (holds_outside c.args.name.now c.args.other.now)) c.iter_from-entries.ensures ∙ any_from c.args.name.now c.args.other.now c.args.pages.now;
  sorted =
      subst (λ (es : Keyed). IsStrictlySortedBy octets_cmp (keys_of es)) (sym c.iter_from-entries.ensures) (sorted_filter (λ k. is_le (octets_cmp c.args.name.now k)) c.args.pages.now c.requires);
  from =
      subst (λ (es : Keyed). AllByRecursion (λ (k : List ℕ). is_le (octets_cmp c.args.name.now k) ≡ true) (keys_of es)) (sym c.iter_from-entries.ensures)
      (from_all c.args.name.now c.args.other.now c.args.pages.now);
}

pub returns-then-not-starts_with : goal.returns-then-not-starts_with
returns-then-not-starts_with c =
    let sorted = subst (λ (es : Keyed). IsStrictlySortedBy octets_cmp (keys_of es)) c.in-Some.ensures.steps c.entries.invariant.sorted in
    let from = subst (λ (es : Keyed). AllByRecursion (λ (k : List ℕ). is_le (octets_cmp c.args.name.now k) ≡ true) (keys_of es)) c.in-Some.ensures.steps c.entries.invariant.from in
    sym (none_behind c.args.name.now c.args.other.now (c.in-Some.key.now, c.in-Some.node.now) c.next.new.self sorted from.0 (sym c.starts_with.ensures.value ∙ c.if-not-starts_with.true))
    ∙ ap (list_any (holds_outside c.args.name.now c.args.other.now)) (sym c.in-Some.ensures.steps) ∙ c.entries.invariant.left

pub entries-preserved : goal.entries-preserved
entries-preserved c =
    let sorted = subst (λ (es : Keyed). IsStrictlySortedBy octets_cmp (keys_of es)) c.in-Some.ensures.steps c.entries.invariant.sorted in
    let from = subst (λ (es : Keyed). AllByRecursion (λ (k : List ℕ). is_le (octets_cmp c.args.name.now k) ≡ true) (keys_of es)) c.in-Some.ensures.steps c.entries.invariant.from in
    record {
      step = (tt, tt);
      left =
          sym (not_here c.args.name.now c.args.other.now (c.in-Some.key.now, c.in-Some.node.now) c.next.new.self (sym c.holds_outside.ensures ∙ c.if-holds_outside.false))
          ∙ ap (list_any (holds_outside c.args.name.now c.args.other.now)) (sym c.in-Some.ensures.steps) ∙ c.entries.invariant.left;
      sorted = sorted_tail octets_cmp c.in-Some.key.now (keys_of c.next.new.self) sorted;
      from = from.1;
    }
