-- How much room a page takes in its message.
use Rattle.std.proofs.Common.{◌≡◌, ℕ, ◌+◌, ◌-◌, ◌≤◌, Bool, true, false, true≢false, List, [], ◌∷◌, length, refl, sym, ap, ◌∙◌, subst, arith}
use Rattle.std.specs.Prelude.{◌≢◌, ◌&&◌, ◌==◌, nat_le, min, flat_map, All, Some, None, IsSome, if◌then◌else◌}
use Rattle.std.proofs.lemmas.Bool.{and_parts}
use Rattle.std.proofs.lemmas.Bool.Decides.{nat_tests}
use Rattle.std.proofs.lemmas.List.{length-append}
use Rattle.std.proofs.lemmas.List.Elements.{All-cons, All-nil}
use Rattle.std.proofs.lemmas.List.Sums.{sum_by-cons}
use Rattle.dns_rdata.specs.Records.{Record, record_wire}
use Rattle.dns_wire.specs.Wire.{Building, header_in, message_wire, fits}
use Rattle.dns_wire.specs.Reply.{empty_answer}
use Rattle.dns_wire.specs.Parse.{questions_in}
use Rattle.zone_model.specs.Offer.{room_of, are_pages, are_single, IsCutInto}
use Rattle.xfr_batch.specs.Batches.{message_with, has_room}
use Rattle.xfr_batch.specs.ReadyMessages.{Kept}
use Rattle.xfr_batch.specs.XfrBatches.{axfr_header, push_limit, transfer_begins}
use Rattle.xfr_batch.proofs.BatchAdding.{wire_length, record_long}
use Rattle.xfr_services.specs.Replying.{error_reply}
use Rattle.xfr_replies.specs.TransferPages.{page_answer, page_message, page_room}
use Rattle.xfr_replies.proofs.Cutting.{within_first, some_page, pages_behind}

room_length : (rs : List Record) → length (flat_map record_wire rs) ≡ room_of rs
room_length [] = refl
room_length (r ∷ rs) =
    length-append (record_wire r) (flat_map record_wire rs) ∙ ap (λ n. length (record_wire r) + n) (room_length rs)
    ∙ sym (sum_by-cons (λ x. length (record_wire x)) r rs)

page_length : (q : List ℕ) (page : List Record) → length (message_wire (page_answer q page)) ≡ length (message_wire (page_answer q [])) + room_of page
page_length q page =
    omega (arith, wire_length (axfr_header (header_in q)) (questions_in q) page, wire_length (axfr_header (header_in q)) (questions_in q) [], room_length page)

within_rest : (n base len most : ℕ) → n ≡ base + len → 1 ≤ len → nat_le n most ≡ nat_le len (most - base)
within_rest n base len most is some = grind (arith, nat_tests)

some_room : (r : Record) (rs : List Record) → 1 ≤ room_of (r ∷ rs)
some_room r rs = omega (arith, sum_by-cons (λ x. length (record_wire x)) r rs, record_long r)

page_fits : (q : List ℕ) (limit : ℕ) (page : List Record) → page ≢ [] → fits limit (message_wire (page_answer q page)) ≡ nat_le (room_of page) (page_room q limit)
page_fits q limit [] some = absurd (some refl)
page_fits q limit (r ∷ rs) some =
    within_rest (length (message_wire (page_answer q (r ∷ rs)))) (length (message_wire (page_answer q []))) (room_of (r ∷ rs)) (min limit 65535) (page_length q (r ∷ rs)) (some_room r rs)

-- a batcher's message has room for a page as its octets have
pub room_is : (s : Kept) (q : List ℕ) (limit : ℕ) (page : List Record) → s.soft_byte_limit ≡ Some limit → page ≢ []
    → has_room (transfer_begins s q) page ≡ nat_le (room_of page) (page_room q limit)
room_is s q limit page soft some = ap (λ l. fits (push_limit l) (message_wire (page_answer q page))) soft ∙ page_fits q limit page some

-- .. and that message is the page's
pub message_is : (s : Kept) (q : List ℕ) (limit : ℕ) (page : List Record) → s.soft_byte_limit ≡ Some limit → message_with (transfer_begins s q) page ≡ page_message q limit page
message_is s q limit page soft = ap (λ l. record { octets = message_wire (page_answer q page); limit = push_limit l }) soft

-- where a message has room for header and question, an error reply has
most_room : (limit n : ℕ) → nat_le n (min limit 65535) ≡ true → nat_le n (min 65535 65535) ≡ true
most_room limit n room = grind (arith, nat_tests)

pub error_made : (q : List ℕ) (limit rcode : ℕ) → fits limit (message_wire (page_answer q [])) ≡ true → IsSome (error_reply q rcode)
error_made q limit rcode room =
    let reply : Building = record { octets = message_wire (empty_answer q rcode); limit = 65535 } in
    let P : Bool → Type 0 = λ b. IsSome (if b then Some reply else None) in
    subst P (sym (most_room limit (length (message_wire (page_answer q []))) room)) refl

-- ---- the pages of a cut

abbrev Fits : List ℕ → ℕ → List Record → Type 0
Fits q limit page = fits limit (message_wire (page_answer q page)) ≡ true

filled_fit : (q : List ℕ) (limit : ℕ) (pages : List (List Record)) → are_pages (page_room q limit) pages ≡ true → All (Fits q limit) pages
filled_fit q limit [] each = All-nil (Fits q limit)
filled_fit q limit (page ∷ more) each =
    let room = page_room q limit in
    All-cons (Fits q limit) page more (page_fits q limit page (some_page room page more each) ∙ within_first room page more each) (filled_fit q limit more (pages_behind room page more each))

one_of : (page : List Record) → (length page == 1) ≡ true → page ≢ []
one_of [] one none = true≢false (sym one)
one_of (r ∷ page) one none = cc

single_fit : (q : List ℕ) (limit : ℕ) (pages : List (List Record)) → are_single (page_room q limit) pages ≡ true → All (Fits q limit) pages
single_fit q limit [] each = All-nil (Fits q limit)
single_fit q limit (page ∷ more) each =
    let room = page_room q limit in
    let parts = and_parts ((length page == 1) && nat_le (room_of page) room) (are_single room more) each in
    let first = and_parts (length page == 1) (nat_le (room_of page) room) parts.0 in
    All-cons (Fits q limit) page more (page_fits q limit page (one_of page first.0) ∙ first.1) (single_fit q limit more parts.1)

-- the message of each page is within the limit
pub each_fits : (q : List ℕ) (limit : ℕ) (singles : Bool) (text : List Record) (pages : List (List Record)) → IsCutInto (page_room q limit) singles text pages → All (Fits q limit) pages
each_fits q limit true text pages cut = single_fit q limit pages cut.filled
each_fits q limit false text pages cut = filled_fit q limit pages cut.filled
