-- Pages of entries in order, and places among them.
use Rattle.std.specs.Prelude.{◌≡◌, ℕ, zero, suc, ◌<◌, ◌≤◌, true, false, List, [], ◌∷◌, ◌++◌, map, take, drop, length, flat_map, slice_index_or, slice_get, option_map, IsSome, Some, None}
use Rattle.std.specs.List.{AllByRecursion}
use Rattle.std.specs.List.Sorted.{IsStrictlySortedBy}
use Rattle.std.specs.BTreeMap.{insert_entry, is_at}
use Rattle.std.specs.Map.{keys_of, lookup, remove_entry}
use Rattle.std.specs.declared.sync.Arc.{Arc}
use Rattle.std.specs.Arc.{arc_value}
use Rattle.paged_map.specs.declared.marks.Mark.{Mark}
use Rattle.paged_map.specs.declared.spots.Spot.{Spot}
use Rattle.paged_map.specs.Octets.{octets_cmp, passes, reaches}

-- the entries of pages, one after another
abbrev pub joined : {X : Type 0} → List (List X) → List X
joined ps = flat_map (λ p. p) ps

-- what shared values are
abbrev pub values_in : {X Z : Type 0} → List (Arc X Z) → List X
values_in ps = map arc_value ps

-- how many entries a page has at most
abbrev pub most : ℕ
most = 256

-- a page of a map: it has entries, and no more than fit
abbrev pub IsFit : {X : Type 0} → List X → Type 0
IsFit p = (0 < length p) × (length p ≤ most)

abbrev pub AreFit : {X : Type 0} → List (List X) → Type 0
AreFit ps = AllByRecursion IsFit ps

-- their keys ascend, over all together
abbrev pub Ascend : {X : Type 0} → List (List ℕ × X) → Type 0
Ascend es = IsStrictlySortedBy octets_cmp (keys_of es)

-- the key that a page begins at
abbrev pub first_key : {X : Type 0} → List (List ℕ × X) → List ℕ
first_key [] = []
first_key (e ∷ es) = e.0

-- the page of a number
abbrev pub page_at : {X : Type 0} → List (List X) → ℕ → List X
page_at ps q = slice_index_or ps q []

-- the key at a place
abbrev pub key_there : {X : Type 0} → List (List (List ℕ × X)) → Spot → List ℕ
key_there ps s = slice_index_or (keys_of (page_at ps s.page)) s.at []

-- the entries before a place
abbrev pub before : {X : Type 0} → List (List X) → Spot → List X
before ps s = joined (take s.page ps) ++ take s.at (page_at ps s.page)

-- the entries from a place on
abbrev pub after : {X : Type 0} → List (List X) → Spot → List X
after ps s = drop s.at (page_at ps s.page) ++ joined (drop (suc s.page) ps)

-- the entries after the one at a place in its page
abbrev pub beyond : {X : Type 0} → List (List X) → Spot → List X
beyond ps s = drop (suc s.at) (page_at ps s.page) ++ joined (drop (suc s.page) ps)

-- a place is one within pages: in one of them, if there are any
abbrev pub IsWithin : {X : Type 0} → List (List X) → Spot → Type 0
IsWithin ps s = (s.at ≤ length (page_at ps s.page)) × (0 < length ps → s.page < length ps)

-- a mark passes some entries
abbrev pub Passed : {X : Type 0} → Mark → List (List ℕ × X) → Type 0
Passed m es = AllByRecursion (λ e. passes m e.0 ≡ true) es

-- a mark passes none of some entries
abbrev pub Ahead : {X : Type 0} → Mark → List (List ℕ × X) → Type 0
Ahead m es = AllByRecursion (λ e. passes m e.0 ≡ false) es

-- a mark stands after the entry before a place
abbrev pub FollowsOne : {X : Type 0} → Mark → List (List ℕ × X) → ℕ → Type 0
FollowsOne m es zero = ⊥
FollowsOne m es (suc i) = option_map (λ e. passes m e.0) (slice_get es i) ≡ Some true

-- no page that begins at any of their keys reaches to a mark
abbrev pub Unreached : {X : Type 0} → Mark → List (List ℕ × X) → Type 0
Unreached m es = AllByRecursion (λ e. reaches m e.0 ≡ false) es

-- the entries of shared pages
abbrev pub entries_of : {X Z : Type 0} → List (Arc (List X) Z) → List X
entries_of pages = joined (values_in pages)

-- the pages of a map: each is fit, and the keys ascend over all
abbrev pub IsSound : {X Z : Type 0} → List (Arc (List (List ℕ × X)) Z) → Type 0
IsSound pages = AreFit (values_in pages) × Ascend (entries_of pages)

-- an entry with a key stands at a place: what edits there do to all entries
pub record HasAt {X : Type 0} (k : List ℕ) (ps : List (List (List ℕ × X))) (s : Spot) : Type 0 where
  pub page : s.page < length ps
  pub at : s.at < length (page_at ps s.page)
  pub found : IsSome (lookup (is_at (octets_cmp k)) (joined ps))
  pub key : key_there ps s ≡ k
  pub value : lookup (is_at (octets_cmp k)) (joined ps) ≡ option_map (λ e. e.1) (slice_get (page_at ps s.page) s.at)
  pub inserted : (v : X) → insert_entry octets_cmp (joined ps) k v ≡ before ps s ++ (k, v) ∷ beyond ps s
  pub removed : remove_entry (is_at (octets_cmp k)) (joined ps) ≡ before ps s ++ beyond ps s

-- no entry has a key, and a new one belongs at a place
pub record LacksAt {X : Type 0} (k : List ℕ) (ps : List (List (List ℕ × X))) (s : Spot) : Type 0 where
  pub absent : lookup (is_at (octets_cmp k)) (joined ps) ≡ None
  pub inserted : (v : X) → insert_entry octets_cmp (joined ps) k v ≡ before ps s ++ (k, v) ∷ after ps s
