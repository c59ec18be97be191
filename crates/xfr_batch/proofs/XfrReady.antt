-- What the messages of a transfer are that are ready, and how many records they have.
use Rattle.std.proofs.Common.{◌≡◌, ℕ, ◌+◌, ◌<◌, ◌≤◌, true, false, List, [], ◌∷◌, ◌++◌, length, map, refl, sym, ap, ◌∙◌, subst, arith}
use Rattle.std.specs.Prelude.{nat_le, All, Option, Some}
use Rattle.std.proofs.lemmas.Bool.Decides.{nat_tests}
use Rattle.std.proofs.lemmas.List.{append_assoc, append-nil, length-append}
use Rattle.std.proofs.lemmas.List.Elements.{All-weaker}
use Rattle.dns_rdata.specs.Records.{Record}
use Rattle.dns_wire.specs.Wire.{Building, header_in, ancount_in}
use Rattle.dns_wire.specs.Parse.{questions_in}
use Rattle.dns_wire.proofs.Pushing.{answers-counted}
use Rattle.xfr_batch.specs.Batches.{message_with, has_room, Ending, Batch, MustEnd, IsBatch, Batching, Stands}
use Rattle.xfr_batch.specs.Batches.Ending.{Full, NoRoomFor, Finished}
use Rattle.xfr_batch.specs.BatchCalls.{HandsOn}
use Rattle.xfr_batch.specs.ReadyMessages.{Kept}
use Rattle.xfr_batch.specs.XfrBatches.{axfr_header, has_reached, transfer_begins, transfer_is_full, TransferReadies}
use Rattle.xfr_batch.proofs.BatchAdding.{few}

-- ---- the messages handed on are those that are ready behind the others

pub ready_are : (q : List ℕ) (s : Kept) (batches : List (Batch Kept)) (t : Kept) → HandsOn (λ x. transfer_begins x q) TransferReadies s batches t
    → t ≡ record s { ready = s.ready ++ map (λ b. message_with (transfer_begins s q) b.records) batches }
ready_are q s [] t h = sym h ∙ ap (λ (ms : List Building). record s { ready = ms }) (sym (append-nil s.ready))
ready_are q s (b ∷ batches) t h =
    let m : Building = message_with (transfer_begins s q) b.records in
    let more : List Building = map (λ (x : Batch Kept). message_with (transfer_begins s q) x.records) batches in
    let P : Kept → Type 0 = λ mid. t ≡ record mid { ready = mid.ready ++ map (λ (x : Batch Kept). message_with (transfer_begins mid q) x.records) batches } in
    let there : t ≡ record s { ready = (s.ready ++ m ∷ []) ++ more } = subst P h.1.1.0.1 (ready_are q h.1.0 batches t h.1.1.1) in
    there ∙ ap (λ (ms : List Building). record s { ready = ms }) (append_assoc s.ready (m ∷ []) more)

-- ---- no message has more records than it may have

counted : (q : List ℕ) (s : Kept) (rs : List Record) → length rs < 65535 → ancount_in (message_with (transfer_begins s q) rs).octets ≡ length rs
counted q s rs small = answers-counted (axfr_header (header_in q)) (questions_in q) rs (omega (arith, small))

below : (n k : ℕ) → nat_le n k ≡ false → k < n
below n k e = grind (arith, nat_tests)

pub fewer : (q : List ℕ) (s : Kept) (rs : List Record) (n : ℕ) → s.hard_rr_limit ≡ Some n → length rs < 65535 → transfer_is_full s (message_with (transfer_begins s q) rs) ≡ false → length rs < n
fewer q s rs n limit small not_full =
    let P : Option ℕ → Type 0 = λ l. has_reached l (ancount_in (message_with (transfer_begins s q) rs).octets) ≡ false in
    let Q : ℕ → Type 0 = λ k. nat_le n k ≡ false in
    below n (length rs) (subst Q (counted q s rs small) (subst P limit not_full))

pub small_batch : (q : List ℕ) (s : Kept) (rs : List Record) → has_room (transfer_begins s q) rs ≡ true → length rs < 65535
small_batch q s rs room = few (transfer_begins s q).limit (axfr_header (header_in q)) (questions_in q) rs room

-- all records but the last, and the last
snoc_of : {X : Type 0} (x : X) (xs : List X) → (front : List X) × ((last : X) × (x ∷ xs ≡ front ++ last ∷ []))
snoc_of x [] = ([], (x, refl))
snoc_of x (y ∷ ys) =
    let rest = snoc_of y ys in
    (x ∷ rest.0, (rest.1.0, ap (λ zs. x ∷ zs) rest.1.1))

full_most : (q : List ℕ) (s : Kept) (rs front : List Record) (last : Record) (n : ℕ) → s.hard_rr_limit ≡ Some n → 1 ≤ n → length rs < 65535 → rs ≡ front ++ last ∷ []
    → ((front ≡ [] → ⊥) → transfer_is_full s (message_with (transfer_begins s q) front) ≡ false) → length rs ≤ n
full_most q s rs [] last n limit one small is before = omega (arith, ap length is)
full_most q s rs (f ∷ front) last n limit one small is before =
    let long : length rs ≡ length (f ∷ front) + 1 = ap length is ∙ length-append (f ∷ front) (last ∷ []) in
    let less = fewer q s (f ∷ front) n limit (omega (arith, small, long)) (before (λ e. cc)) in
    omega (arith, less, long)

most : (q : List ℕ) (s : Kept) (rs : List Record) (how : Ending) (n : ℕ) → s.hard_rr_limit ≡ Some n → 1 ≤ n → length rs < 65535 → (rs ≡ [] → ⊥)
    → MustEnd (transfer_begins s q) (transfer_is_full s) rs how → length rs ≤ n
most q s [] Full n limit one small some ended = absurd (some refl)
most q s (r ∷ rs) Full n limit one small some ended =
    let parts = snoc_of r rs in
    full_most q s (r ∷ rs) parts.0 parts.1.0 n limit one small parts.1.1 (λ full. ended.1 parts.0 parts.1.0 parts.1.1 full)
most q s rs (NoRoomFor r) n limit one small some ended = let less = fewer q s rs n limit small ended.0 in omega (arith, less)
most q s rs Finished n limit one small some ended = let less = fewer q s rs n limit small ended in omega (arith, less)

pub each_within_limit : (b : Batching Kept) (pushed : List Record) (batches : List (Batch Kept)) (n : ℕ) → 1 ≤ n → Stands transfer_begins transfer_is_full b pushed batches
    → All (λ x. x.state.hard_rr_limit ≡ Some n → length x.records ≤ n) batches
each_within_limit b pushed batches n one st =
    All-weaker (IsBatch (λ s. transfer_begins s b.request) transfer_is_full) (λ (x : Batch Kept). x.state.hard_rr_limit ≡ Some n → length x.records ≤ n)
    (λ x h. λ limit. most b.request x.state x.records x.ending n limit one (small_batch b.request x.state x.records h.within) h.some h.ended) batches st.each
