-- The pages that a text was cut into, one by one.
use Rattle.std.proofs.Common.{◌≡◌, ℕ, ◌≤◌, Bool, true, false, List, [], ◌∷◌, length, arith}
use Rattle.std.specs.Prelude.{IsTrue, ◌&&◌, ◌==◌, not, nat_le, if◌then◌else◌}
use Rattle.std.specs.List.{AllByRecursion}
use Rattle.std.proofs.lemmas.Bool.{and_parts}
use Rattle.std.proofs.lemmas.Bool.Decides.{nat_tests}
use Rattle.dns_rdata.specs.Records.{Record}
use Rattle.zone_model.specs.Offer.{room_of, are_pages, are_single}

-- a page has a record, and there is room for it
abbrev pub IsPage : ℕ → List Record → Type 0
IsPage room page = (1 ≤ length page) × (nat_le (room_of page) room ≡ true)

some_there : (n : ℕ) → not (n == 0) ≡ true → 1 ≤ n
some_there n some = grind (arith, nat_tests)

one_there : (n : ℕ) → (n == 1) ≡ true → 1 ≤ n
one_there n one = grind (arith, nat_tests)

each_filled : (room : ℕ) (pages : List (List Record)) → are_pages room pages ≡ true → AllByRecursion (IsPage room) pages
each_filled room [] each = tt
each_filled room (page ∷ more) each =
    let three = (and_parts _ _ each).0 in
    let two = (and_parts _ _ three).0 in
    let parts = and_parts _ _ two in
    ((some_there (length page) parts.0, parts.1), each_filled room more (and_parts _ _ each).1)

each_single : (room : ℕ) (pages : List (List Record)) → are_single room pages ≡ true → AllByRecursion (IsPage room) pages
each_single room [] each = tt
each_single room (page ∷ more) each =
    let parts = and_parts ((length page == 1) && nat_le (room_of page) room) (are_single room more) each in
    let two = and_parts (length page == 1) (nat_le (room_of page) room) parts.0 in
    ((one_there (length page) two.0, two.1), each_single room more parts.1)

pub each_page : (room : ℕ) (singles : Bool) (pages : List (List Record)) → IsTrue (if singles then are_single room pages else are_pages room pages) → AllByRecursion (IsPage room) pages
each_page room true pages each = each_single room pages each
each_page room false pages each = each_filled room pages each
