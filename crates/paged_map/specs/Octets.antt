-- Strings of octets in order, and places among them.
use Rattle.std.specs.Prelude.{ℕ, Bool, false, Option, Some, None, List, not, ◌||◌, nat_eq}
use Rattle.std.specs.List.{starts_with}
use Rattle.std.specs.declared.cmp.Ordering.{Ordering}
use Rattle.std.specs.Ordering.{nat_cmp, is_gt, is_lt, is_eq}
use Rattle.std.specs.Cmp.Lexicographic.{slice_cmp}
use Rattle.paged_map.specs.declared.marks.Mark.{Mark}
use Rattle.paged_map.specs.declared.marks.Mark.TheVariants.{Before, After, Under}

-- strings of octets by their first difference; one that the other begins with is less
abbrev pub octets_cmp : List ℕ → List ℕ → Ordering
octets_cmp = slice_cmp nat_cmp

-- whether a string of octets begins with another
abbrev pub begins_with : List ℕ → List ℕ → Bool
begins_with = starts_with nat_eq

-- whether a mark stands after a key
abbrev pub passes : Mark → List ℕ → Bool
passes (Before m) k = is_gt (octets_cmp m.now k)
passes (After m) k = not (is_lt (octets_cmp m.now k))
passes (Under m) k = is_gt (octets_cmp m.now k) || begins_with k m.now

-- whether a page that begins at a key has entries that a mark passes, or the first that it doesn't: a page that begins at a key has it
abbrev pub reaches : Mark → List ℕ → Bool
reaches (Before m) k = not (is_lt (octets_cmp m.now k))
reaches (After m) k = not (is_lt (octets_cmp m.now k))
reaches (Under m) k = is_gt (octets_cmp m.now k) || begins_with k m.now

-- whether there is an entry, and it has this key
abbrev pub is_key_of : {X : Type 0} → List ℕ → Option (List ℕ × X) → Bool
is_key_of k None = false
is_key_of k (Some e) = is_eq (octets_cmp k e.0)
