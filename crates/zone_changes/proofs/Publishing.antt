-- What a commit publishes of an edited version: the keys that are noted before cover what it and the base differ in.
use Rattle.std.proofs.Common.{◌≡◌, List, sym, ap, ◌∙◌, subst, Option}
use Rattle.dns_name.specs.Names.{fold}
use Rattle.dns_numbers.specs.Codes.{type_soa}
use Rattle.zone_model.specs.Version.{Key, Sets, Version}
use Rattle.zone_model.specs.Edits.{bump, close}
use Rattle.zone_changes.specs.Touched.{is_touched, noted, noted_all, noted_in, noted_all_in, stray_keys, CoversIn}
use Rattle.zone_changes.specs.Drafts.{BeganAs}
use Rattle.zone_changes.proofs.Noting.{noted_itself}
use Rattle.zone_changes.proofs.Covering.{covers_noted, covers_noted_all, covers_close}
use Rattle.zone_changes.proofs.Drafting.{covers_in, covers_noted_in, covers_is, covers_bump, began_apex, bump_apex}

-- keys that are noted cover no less
pub more_in : (kept now : Option (List Key)) (k : Key) → now ≡ noted_in kept k → (a b : Sets) → CoversIn kept a b → CoversIn now a b
more_in kept now k note a b h = subst (λ (l : Option (List Key)). CoversIn l a b) (sym note) (covers_noted_in kept k a b h)

pub more_all_in : (kept now : Option (List Key)) (more : List Key) → now ≡ noted_all_in kept more → (a b : Sets) → CoversIn kept a b → CoversIn now a b
more_all_in kept now more note a b h =
    subst (λ (l : Option (List Key)). CoversIn l a b) (sym note)
    (covers_in (λ keys. noted_all keys more) kept a b a b (λ keys g. covers_noted_all keys more a b g) h)

-- the serial counted on, where the SOA's key was noted
pub covers_counted : (kept now : Option (List Key)) (k : Key) (base v w : Version) → k ≡ (fold v.apex, type_soa) → now ≡ noted_in kept k → w ≡ bump base v → CoversIn kept base.sets v.sets → CoversIn now base.sets w.sets
covers_counted kept now k base v w is note done h =
    covers_is (noted_in kept k) now base.sets (bump base v) w note done
    (covers_in (λ keys. noted keys k) kept base.sets v.sets base.sets (bump base v).sets
    (λ keys g. covers_bump (noted keys k) base.sets base v (ap (is_touched (noted keys k)) (sym is) ∙ noted_itself keys k) (covers_noted keys k base.sets v.sets g)) h)

pub began_counted : (base v w : Version) → w ≡ bump base v → BeganAs base v → BeganAs base w
began_counted base v w done h = began_apex base v w (ap (λ (x : Version). x.apex) done ∙ bump_apex base v) h

-- the stray sets left out, where their keys were noted
pub covers_left_out : (kept now : Option (List Key)) (base : Sets) (v w : Version) → now ≡ noted_all_in kept (stray_keys v) → w ≡ close v → CoversIn kept base v.sets → CoversIn now base w.sets
covers_left_out kept now base v w note done h =
    covers_is (noted_all_in kept (stray_keys v)) now base (close v) w note done
    (covers_in (λ keys. noted_all keys (stray_keys v)) kept base v.sets base (close v).sets (λ keys g. covers_close keys base v g) h)
