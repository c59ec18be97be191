-- A text cut into pages: which page is the first.
use Rattle.std.proofs.Common.{◌≡◌, ℕ, ◌+◌, ◌≤◌, Bool, true, false, true≢false, List, [], ◌∷◌, ◌++◌, length, refl, sym, ap, ◌∙◌, subst, arith}
use Rattle.std.specs.Prelude.{◌≢◌, ◌&&◌, ◌==◌, not, nat_le, flat_map}
use Rattle.std.specs.List.{list_all}
use Rattle.std.proofs.lemmas.Bool.{and_parts, and_from}
use Rattle.std.proofs.lemmas.Bool.Decides.{nat_tests}
use Rattle.std.proofs.lemmas.List.{append_assoc, append-nil}
use Rattle.std.proofs.lemmas.List.Sums.{sum_by-append, sum_by-cons, sum_by_push}
use Rattle.dns_rdata.specs.Records.{Record, record_wire}
use Rattle.zone_model.specs.Offer.{room_of, is_filled, are_pages, are_single, IsCutInto}
use Rattle.xfr_replies.specs.TransferPages.{has_page, sendable, EndsBefore, FirstPage}

-- ---- lists

-- two fronts of one list: they are one, or either is longer
data Fronts {X : Type 0} (p q a b : List X) : Type 0 where
  Same : p ≡ q → a ≡ b → Fronts p q a b
  Shorter : (x : X) (xs : List X) → q ≡ p ++ x ∷ xs → a ≡ x ∷ xs ++ b → Fronts p q a b
  Longer : (x : X) (xs : List X) → p ≡ q ++ x ∷ xs → b ≡ x ∷ xs ++ a → Fronts p q a b

behind_first : {X : Type 0} (x y : X) (p q a b : List X) → x ≡ y → Fronts p q a b → Fronts (x ∷ p) (y ∷ q) a b
behind_first x y p q a b first (Same front rest) = Same (cc) rest
behind_first x y p q a b first (Shorter z zs front rest) = Shorter z zs (cc) rest
behind_first x y p q a b first (Longer z zs front rest) = Longer z zs (cc) rest

fronts : {X : Type 0} (p q a b : List X) → p ++ a ≡ q ++ b → Fronts p q a b
fronts [] [] a b e = Same refl e
fronts [] (y ∷ q) a b e = Shorter y q refl e
fronts (x ∷ p) [] a b e = Longer x p refl (sym e)
fronts (x ∷ p) (y ∷ q) a b e =
    let first : x ≡ y = cc in
    let rest : p ++ a ≡ q ++ b = cc in
    behind_first x y p q a b first (fronts p q a b rest)

-- ---- room

-- how many octets the records of a page and what stands behind it have
pub room_more : (xs : List Record) (x : Record) (ys : List Record) → room_of (xs ++ x ∷ ys) ≡ room_of xs + (length (record_wire x) + room_of ys)
room_more xs x ys =
    sum_by-append (λ r. length (record_wire r)) xs (x ∷ ys) ∙ ap (λ n. room_of xs + n) (sum_by-cons (λ r. length (record_wire r)) x ys)

-- a record behind a front is within the room of the whole
fits_behind : (room : ℕ) (xs : List Record) (x : Record) (ys : List Record) → nat_le (room_of (xs ++ x ∷ ys)) room ≡ true → nat_le (room_of xs + length (record_wire x)) room ≡ true
fits_behind room xs x ys fits =
    let more = room_more xs x ys in
    at (room_of xs) (length (record_wire x)) (room_of ys) (room_of (xs ++ x ∷ ys)) more fits
  where
    at : (a b c n : ℕ) → n ≡ a + (b + c) → nat_le n room ≡ true → nat_le (a + b) room ≡ true
    at a b c n is fits = grind (arith, nat_tests)

-- ---- the first page

abbrev joined_pages : List (List Record) → List Record
joined_pages pages = flat_map (λ page. page) pages

not_nil : {X : Type 0} (page rest : List X) → page ≢ [] → [] ≡ page ++ rest → ⊥
not_nil [] rest some e = some refl
not_nil (x ∷ page) rest some e = cc

-- the tests of pages one by one
pub within_first : (room : ℕ) (page : List Record) (more : List (List Record)) → are_pages room (page ∷ more) ≡ true → nat_le (room_of page) room ≡ true
within_first room page more each =
    let three = (and_parts _ _ each).0 in
    let two = (and_parts _ _ three).0 in
    (and_parts _ _ two).1

filled_first : (room : ℕ) (page : List Record) (more : List (List Record)) → are_pages room (page ∷ more) ≡ true → is_filled room page more ≡ true
filled_first room page more each = (and_parts _ _ (and_parts _ _ each).0).1

pub pages_behind : (room : ℕ) (page : List Record) (more : List (List Record)) → are_pages room (page ∷ more) ≡ true → are_pages room more ≡ true
pages_behind room page more each = (and_parts _ _ each).1

-- a page that is filled has no room for what stands behind it
filled_by : (room : ℕ) (page : List Record) (more : List (List Record)) (x : Record) (rest : List Record) → is_filled room page more ≡ true → joined_pages more ≡ x ∷ rest
    → nat_le (room_of page + length (record_wire x)) room ≡ false
filled_by room page [] x rest filled e = cc
filled_by room page ([] ∷ more) x rest filled e = absurd (true≢false (sym filled))
filled_by room page ((y ∷ ys) ∷ more) x rest filled e =
    let first : y ≡ x = cc in
    let none : not (nat_le (room_of page + length (record_wire x)) room) ≡ true = subst (λ r. not (nat_le (room_of page + length (record_wire r)) room) ≡ true) first filled in
    turned (nat_le (room_of page + length (record_wire x)) room) none
  where
    turned : (b : Bool) → not b ≡ true → b ≡ false
    turned true e = sym e
    turned false e = refl

first_of : (room : ℕ) (page rest p : List Record) (more : List (List Record)) → nat_le (room_of page) room ≡ true → EndsBefore room page rest
    → are_pages room (p ∷ more) ≡ true → Fronts p page (joined_pages more) rest → FirstPage room false page rest (p ∷ more)
first_of room page rest p more within ends each (Same front behind) =
    record { more = more; first = ap (λ q. q ∷ more) front; cut = record { joined = behind; filled = pages_behind room p more each } }
first_of room page rest p more within ends each (Shorter x xs front behind) =
    let none = filled_by room p more x (xs ++ rest) (filled_first room p more each) behind in
    let some = fits_behind room p x xs (subst (λ q. nat_le (room_of q) room ≡ true) front within) in
    absurd (true≢false (sym some ∙ none))
first_of room page rest p more within ends each (Longer x xs front behind) =
    let none : nat_le (room_of page + length (record_wire x)) room ≡ false = subst (λ r. EndsBefore room page r) behind ends in
    let some = fits_behind room page x xs (subst (λ q. nat_le (room_of q) room ≡ true) front (within_first room p more each)) in
    absurd (true≢false (sym some ∙ none))

-- a page that is within its room, and has none for what stands behind it, is the first of any cut
pub first_page : (room : ℕ) (page rest : List Record) (pages : List (List Record)) → page ≢ [] → nat_le (room_of page) room ≡ true → EndsBefore room page rest
    → IsCutInto room false (page ++ rest) pages → FirstPage room false page rest pages
first_page room page rest [] some within ends cut = absurd (not_nil page rest some cut.joined)
first_page room page rest (p ∷ more) some within ends cut =
    first_of room page rest p more within ends cut.filled (fronts p page (joined_pages more) rest cut.joined)

two_or_more : (n : ℕ) → 2 ≤ n → (n == 1) ≡ false
two_or_more n many = grind (arith, nat_tests)

-- with one record each, the first record is the first page
pub first_single : (room : ℕ) (r : Record) (rest : List Record) (pages : List (List Record)) → IsCutInto room true (r ∷ rest) pages → FirstPage room true (r ∷ []) rest pages
first_single room r rest [] cut = let e = cut.joined in cc
first_single room r rest ([] ∷ more) cut = absurd (true≢false (sym cut.filled))
first_single room r rest ((x ∷ []) ∷ more) cut =
    let joined : x ∷ joined_pages more ≡ r ∷ rest = cut.joined in
    let first : x ≡ r = cc in
    let behind : joined_pages more ≡ rest = cc in
    record { more = more; first = ap (λ y. (y ∷ []) ∷ more) first; cut = record { joined = behind; filled = (and_parts _ _ cut.filled).1 } }
first_single room r rest ((x ∷ y ∷ page) ∷ more) cut =
    let two : (length (x ∷ y ∷ page) == 1) ≡ true = (and_parts _ _ (and_parts _ _ cut.filled).0).0 in
    absurd (true≢false (sym two ∙ two_or_more (length (x ∷ y ∷ page)) (omega arith)))

-- no record, no page
pub no_pages : (room : ℕ) (singles : Bool) (pages : List (List Record)) → IsCutInto room singles [] pages → pages ≡ []
no_pages room singles [] cut = refl
no_pages room true ([] ∷ more) cut = absurd (true≢false (sym cut.filled))
no_pages room false ([] ∷ more) cut = absurd (true≢false (sym cut.filled))
no_pages room singles ((x ∷ page) ∷ more) cut = let e = cut.joined in cc

-- ---- what can be sent

-- a list of records before the first without room
pub sendable_more : (room : ℕ) (r : Record) (rest : List Record) → has_page room r ≡ true → sendable room (r ∷ rest) ≡ r ∷ sendable room rest
sendable_more room r rest fits = rw fits refl

pub sendable_none : (room : ℕ) (r : Record) (rest : List Record) → has_page room r ≡ false → sendable room (r ∷ rest) ≡ []
sendable_none room r rest none = rw none refl

fits_alone : (room : ℕ) (r : Record) (rest : List Record) → nat_le (room_of (r ∷ rest)) room ≡ true → has_page room r ≡ true
fits_alone room r rest fits = at (length (record_wire r)) (room_of rest) (room_of (r ∷ rest)) (sum_by-cons (λ x. length (record_wire x)) r rest) fits
  where
    at : (a b n : ℕ) → n ≡ a + b → nat_le n room ≡ true → nat_le a room ≡ true
    at a b n is fits = grind (arith, nat_tests)

-- the room of one record
pub one_room : (r : Record) → room_of (r ∷ []) ≡ length (record_wire r)
one_room r = omega (arith, sum_by-cons (λ x. length (record_wire x)) r [])

one_page : (room : ℕ) (r : Record) → has_page room r ≡ true → nat_le (room_of (r ∷ [])) room ≡ true
one_page room r fits = ap (λ n. nat_le n room) (one_room r) ∙ fits

fits_later : (room : ℕ) (r : Record) (rest : List Record) → nat_le (room_of (r ∷ rest)) room ≡ true → nat_le (room_of rest) room ≡ true
fits_later room r rest fits = at (length (record_wire r)) (room_of rest) (room_of (r ∷ rest)) (sum_by-cons (λ x. length (record_wire x)) r rest) fits
  where
    at : (a b n : ℕ) → n ≡ a + b → nat_le n room ≡ true → nat_le b room ≡ true
    at a b n is fits = grind (arith, nat_tests)

-- records that are within one page can be sent, and so what can be of those behind them
pub sendable_behind : (room : ℕ) (page rest : List Record) → nat_le (room_of page) room ≡ true → sendable room (page ++ rest) ≡ page ++ sendable room rest
sendable_behind room [] rest fits = refl
sendable_behind room (r ∷ page) rest fits =
    sendable_more room r (page ++ rest) (fits_alone room r page fits)
    ∙ ap (λ rs. r ∷ rs) (sendable_behind room page rest (fits_later room r page fits))

pub all_behind : (room : ℕ) (page rest : List Record) → nat_le (room_of page) room ≡ true → list_all (has_page room) (page ++ rest) ≡ list_all (has_page room) rest
all_behind room [] rest fits = refl
all_behind room (r ∷ page) rest fits = rw (fits_alone room r page fits) (all_behind room page rest (fits_later room r page fits))

-- ---- each text has a cut

-- the pages of a text where these records stand in the first of them
record Begun (room : ℕ) (r : Record) (page rest : List Record) : Type 0 where
  after : List Record
  more : List (List Record)
  joined : joined_pages (((r ∷ page) ++ after) ∷ more) ≡ (r ∷ page) ++ rest
  each : are_pages room (((r ∷ page) ++ after) ∷ more) ≡ true

positive : (n : ℕ) → 1 ≤ n → (n == 0) ≡ false
positive n some = grind (arith, nat_tests)

some_first : (r : Record) (page : List Record) → not (length (r ∷ page) == 0) ≡ true
some_first r page = ap not (positive (length (r ∷ page)) (omega arith))

last_begun : (room : ℕ) (r : Record) (page : List Record) → nat_le (room_of (r ∷ page)) room ≡ true → Begun room r page []
last_begun room r page fits = record {
  after = [];
  more = [];
  joined = append-nil ((r ∷ page) ++ []);
  each = and_from _ true (and_from _ true (and_from _ _ (some_first r (page ++ [])) (subst (λ q. nat_le (room_of q) room ≡ true) (sym (append-nil (r ∷ page))) fits)) refl) refl;
}

-- with one more record in it
wider : (room : ℕ) (r x : Record) (page rest : List Record) → Begun room r (page ++ x ∷ []) rest → Begun room r page (x ∷ rest)
wider room r x page rest b = record {
  after = x ∷ b.after;
  more = b.more;
  joined = ap (λ q. r ∷ q ++ joined_pages b.more) (sym (append_assoc page (x ∷ []) b.after)) ∙ b.joined ∙ ap (λ q. r ∷ q) (append_assoc page (x ∷ []) rest);
  each = subst (λ q. are_pages room ((r ∷ q) ∷ b.more) ≡ true) (append_assoc page (x ∷ []) b.after) b.each;
}

-- with a record behind it that has no room in it
followed : (room : ℕ) (r x : Record) (page rest : List Record) → nat_le (room_of (r ∷ page)) room ≡ true → nat_le (room_of (r ∷ page) + length (record_wire x)) room ≡ false
    → Begun room x [] rest → Begun room r page (x ∷ rest)
followed room r x page rest fits none b = record {
  after = [];
  more = ((x ∷ []) ++ b.after) ∷ b.more;
  joined = ap (λ q. r ∷ q ++ joined_pages (((x ∷ []) ++ b.after) ∷ b.more)) (append-nil page) ∙ ap (λ q. (r ∷ page) ++ q) b.joined;
  each = subst (λ q. are_pages room ((r ∷ q) ∷ ((x ∷ []) ++ b.after) ∷ b.more) ≡ true) (sym (append-nil page))
      (and_from _ _ (and_from _ _ (and_from _ _ (some_first r page) fits) (ap not none)) b.each);
}

by_room : (room : ℕ) (r x : Record) (page rest : List Record) (b : Bool) → nat_le (room_of (r ∷ page)) room ≡ true → nat_le (room_of (r ∷ page) + length (record_wire x)) room ≡ b
    → (nat_le (room_of (r ∷ (page ++ x ∷ []))) room ≡ true → Begun room r (page ++ x ∷ []) rest) → Begun room x [] rest → Begun room r page (x ∷ rest)
by_room room r x page rest true fits is wide next = wider room r x page rest (wide (ap (λ n. nat_le n room) (sum_by_push (λ y. length (record_wire y)) (r ∷ page) x) ∙ is))
by_room room r x page rest false fits is wide next = followed room r x page rest fits is next

begun : (room : ℕ) (rest : List Record) (r : Record) (page : List Record) → nat_le (room_of (r ∷ page)) room ≡ true → list_all (has_page room) rest ≡ true → Begun room r page rest
begun room [] r page fits each = last_begun room r page fits
begun room (x ∷ rest) r page fits each =
    let others = (and_parts (has_page room x) (list_all (has_page room) rest) each).1 in
    let alone = one_page room x (and_parts (has_page room x) (list_all (has_page room) rest) each).0 in
    by_room room r x page rest (nat_le (room_of (r ∷ page) + length (record_wire x)) room) fits refl (λ wide. begun room rest r (page ++ x ∷ []) wide others) (begun room rest x [] alone others)

pub has_cut : (room : ℕ) (text : List Record) → list_all (has_page room) text ≡ true → (pages : List (List Record)) × IsCutInto room false text pages
has_cut room [] each = ([], record { joined = refl; filled = refl })
has_cut room (r ∷ rest) each =
    let parts = and_parts (has_page room r) (list_all (has_page room) rest) each in
    let b = begun room rest r [] (one_page room r parts.0) parts.1 in
    (((r ∷ []) ++ b.after) ∷ b.more, record { joined = b.joined; filled = b.each })

pub has_singles : (room : ℕ) (text : List Record) → list_all (has_page room) text ≡ true → (pages : List (List Record)) × IsCutInto room true text pages
has_singles room [] each = ([], record { joined = refl; filled = refl })
has_singles room (r ∷ rest) each =
    let parts = and_parts (has_page room r) (list_all (has_page room) rest) each in
    let more = has_singles room rest parts.1 in
    let first : ((length (r ∷ []) == 1) && nat_le (room_of (r ∷ [])) room) ≡ true = and_from (length (r ∷ []) == 1) (nat_le (room_of (r ∷ [])) room) refl (one_page room r parts.0) in
    ((r ∷ []) ∷ more.0, record { joined = ap (λ rs. r ∷ rs) more.1.joined; filled = and_from _ (are_single room more.0) first more.1.filled })

-- what can be sent has room, record by record
fits_by_first : (room : ℕ) (r : Record) (rest : List Record) (b : Bool) → has_page room r ≡ b → list_all (has_page room) (sendable room rest) ≡ true
    → list_all (has_page room) (sendable room (r ∷ rest)) ≡ true
fits_by_first room r rest true is more = ap (list_all (has_page room)) (sendable_more room r rest is) ∙ and_from (has_page room r) (list_all (has_page room) (sendable room rest)) is more
fits_by_first room r rest false is more = ap (list_all (has_page room)) (sendable_none room r rest is)

pub sendable_fits : (room : ℕ) (text : List Record) → list_all (has_page room) (sendable room text) ≡ true
sendable_fits room [] = refl
sendable_fits room (r ∷ rest) = fits_by_first room r rest (has_page room r) refl (sendable_fits room rest)

pub has_pages : (room : ℕ) (singles : Bool) (text : List Record) → (pages : List (List Record)) × IsCutInto room singles (sendable room text) pages
has_pages room true text = has_singles room (sendable room text) (sendable_fits room text)
has_pages room false text = has_cut room (sendable room text) (sendable_fits room text)

-- ---- .. and only one

ends_first : (room : ℕ) (page : List Record) (more : List (List Record)) (rest : List Record) → is_filled room page more ≡ true → joined_pages more ≡ rest → EndsBefore room page rest
ends_first room page more [] filled joined = tt
ends_first room page more (x ∷ rest) filled joined = filled_by room page more x rest filled joined

pub some_page : (room : ℕ) (page : List Record) (more : List (List Record)) → are_pages room (page ∷ more) ≡ true → page ≢ []
some_page room [] more each none = true≢false (sym each)
some_page room (r ∷ page) more each none = cc

one_filled : (room : ℕ) (text : List Record) (pages others : List (List Record)) → IsCutInto room false text pages → IsCutInto room false text others → pages ≡ others
one_filled room text [] others cut other = sym (no_pages room false others (subst (λ t. IsCutInto room false t others) (sym cut.joined) other))
one_filled room text (page ∷ more) others cut other =
    let within = within_first room page more cut.filled in
    let f = first_page room page (joined_pages more) others (some_page room page more cut.filled) within (ends_first room page more (joined_pages more) (filled_first room page more cut.filled) refl)
    (subst (λ t. IsCutInto room false t others) (sym cut.joined) other) in
    ap (λ ps. page ∷ ps) (one_filled room (joined_pages more) more f.more (record { joined = refl; filled = pages_behind room page more cut.filled }) f.cut) ∙ sym f.first

one_single : (room : ℕ) (text : List Record) (pages others : List (List Record)) → IsCutInto room true text pages → IsCutInto room true text others → pages ≡ others
one_single room [] pages others cut other = no_pages room true pages cut ∙ sym (no_pages room true others other)
one_single room (r ∷ rest) pages others cut other =
    let f = first_single room r rest pages cut in
    let g = first_single room r rest others other in
    f.first ∙ ap (λ ps. (r ∷ []) ∷ ps) (one_single room rest f.more g.more f.cut g.cut) ∙ sym g.first

-- a text has one cut
pub one_cut : (room : ℕ) (singles : Bool) (text : List Record) (pages others : List (List Record)) → IsCutInto room singles text pages → IsCutInto room singles text others → pages ≡ others
one_cut room true text pages others cut other = one_single room text pages others cut other
one_cut room false text pages others cut other = one_filled room text pages others cut other
