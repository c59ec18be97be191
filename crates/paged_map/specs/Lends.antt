-- What a map ends as, where a `&mut` to one of its values is lent out.
use Rattle.std.specs.Prelude.{◌≡◌, ℕ, List, [], ◌∷◌, ◌++◌, Result, slice_set, slice_index_or}
use Rattle.std.specs.Borrow.{Lends, LendsSoOk, Fml, RattleType, MutBor}
use Rattle.std.specs.contracts.alloc.Global as global
use Rattle.std.specs.contracts.sync.Arc as arc
use Rattle.std.specs.contracts.vec.Vec as vec
use Rattle.std.specs.contracts.impls.GlobalAllocator.TheImpl.{ghosts}
use Rattle.std.specs.declared.sync.Arc.{Arc}
use Rattle.std.specs.declared.vec.Vec.{Vec}
use Rattle.std.specs.declared.alloc.Global.{Global}
use Rattle.std.specs.Arc.{arc_value}
use Rattle.std.specs.Map.{keys_of}
use Rattle.std.specs.BTreeMap.{insert_entry}
use Rattle.paged_map.specs.declared.spots.Spot.{Spot}
use Rattle.paged_map.specs.Octets.{octets_cmp}
use Rattle.paged_map.specs.Pages.{AreFit, IsSound, before, beyond, entries_of, joined, key_there, values_in}
use Rattle.paged_map.specs.contracts.page.Entry.{the_row as entry_row}
use Rattle.paged_map.specs.contracts.page.Page.{the_row as page_row}
use Rattle.paged_map.specs.contracts.map.PagedMap.{the_row as map_row}

-- the entries with a value at a place, under the key there
abbrev pub with_value : {X : Type 0} → List (List ℕ × X) → ℕ → X → List (List ℕ × X)
with_value es at w = slice_set es at (slice_index_or (keys_of es) at [], w)

module _ (V : RattleType) where
  -- an entry has the last value written through r
  abbrev pub lends_value : MutBor (List ℕ × V.Denot) → MutBor V.Denot → Fml
  lends_value s r = Lends (entry_row V) V s r (λ w. (s.now.0, w))

  -- the same of a shared entry, which at `Err` is as before
  abbrev pub lends_shared : MutBor (Arc (List ℕ × V.Denot) Global) → {E : Type 0} → Result (MutBor V.Denot) E → Fml
  lends_shared s r = LendsSoOk (arc.the_row (entry_row V) global.the_row ghosts) V s r (λ n w. arc_value n ≡ ((arc_value s.now).0, w)) (λ n. arc_value n ≡ arc_value s.now)

  abbrev pub pages_row : RattleType
  pages_row = vec.the_row (arc.the_row (page_row V) global.the_row ghosts) global.the_row ghosts

  -- a page has the last value written through r at a place, and at `Err` is as before
  abbrev pub lends_at : MutBor (List (List ℕ × V.Denot)) → ℕ → {E : Type 0} → Result (MutBor V.Denot) E → Fml
  lends_at s at r = LendsSoOk (page_row V) V s r (λ n w. n ≡ with_value s.now at w) (λ n. n ≡ s.now)

  -- the same of a shared page
  abbrev pub lends_in : MutBor (Arc (List (List ℕ × V.Denot)) Global) → ℕ → {E : Type 0} → Result (MutBor V.Denot) E → Fml
  lends_in s at r = LendsSoOk (arc.the_row (page_row V) global.the_row ghosts) V s r (λ n w. arc_value n ≡ with_value (arc_value s.now) at w) (λ n. arc_value n ≡ arc_value s.now)

  -- the same of pages at a place
  abbrev pub lends_there : MutBor (Vec (Arc (List (List ℕ × V.Denot)) Global) Global) → Spot → {E : Type 0} → Result (MutBor V.Denot) E → Fml
  lends_there s spot r = LendsSoOk pages_row V s r
      (λ n w. (joined (values_in n.items) ≡ before (values_in s.now.items) spot ++ (key_there (values_in s.now.items) spot, w) ∷ beyond (values_in s.now.items) spot) × AreFit (values_in n.items))
      (λ n. values_in n.items ≡ values_in s.now.items)

  -- the same of pages at a key
  abbrev pub lends_key : MutBor (Vec (Arc (List (List ℕ × V.Denot)) Global) Global) → List ℕ → {E : Type 0} → Result (MutBor V.Denot) E → Fml
  lends_key s k r = LendsSoOk pages_row V s r
      (λ n w. (entries_of n.items ≡ insert_entry octets_cmp (entries_of s.now.items) k w) × IsSound n.items)
      (λ n. values_in n.items ≡ values_in s.now.items)

  -- a map has the last value written through r at a key, and at `Err` is as before
  abbrev pub lends_entry : MutBor (List (List ℕ × V.Denot)) → List ℕ → {E : Type 0} → Result (MutBor V.Denot) E → Fml
  lends_entry s k r = LendsSoOk (map_row V) V s r (λ n w. n ≡ insert_entry octets_cmp s.now k w) (λ n. n ≡ s.now)
