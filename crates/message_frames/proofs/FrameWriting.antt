-- Two parts that a sink takes one after the other.
use Rattle.std.proofs.Common.{◌≡◌, ℕ, ◌+◌, ◌<◌, ◌≤◌, ◌⊎◌, List, ◌++◌, length, take, sym, ap, ◌∙◌, append_assoc, Some, None, Option, inl, inr, take_all, true, false, leb, arith}
use Rattle.std.proofs.Math.Seq.{take-append-add, take-append_seam}
use Rattle.std.proofs.lemmas.List.{take-append-le}
use Rattle.std.proofs.lemmas.Bool.Decides.{leb_tells}
use Rattle.dns_name.specs.Octets.{u16_octets}
use Rattle.zone_devices.specs.Streams.{with_more}
use Rattle.message_frames.specs.Frames.{frame_of}

both_parts : (before mid after : Option (List ℕ)) (head rest : List ℕ) → mid ≡ with_more head before → after ≡ with_more rest mid
    → after ≡ with_more (head ++ rest) before
both_parts None mid after head rest e f = f ∙ ap (with_more rest) e
both_parts (Some had) mid after head rest e f = f ∙ ap (with_more rest) e ∙ ap Some (append_assoc had head rest)

first_of : (n : ℕ) (head rest : List ℕ) → ((leb n (length head) ≡ true) × (n ≤ length head)) ⊎ ((leb n (length head) ≡ false) × (length head < n))
    → (k : ℕ) × (take n head ≡ take k (head ++ rest))
first_of n head rest (inl p) = (n, sym (take-append-le n head rest p.1))
first_of n head rest (inr p) = (length head, take_all n head (omega (arith, p.1)) ∙ sym (take-append_seam head rest))

first_part : (before after : Option (List ℕ)) (head rest : List ℕ) (n : ℕ) → after ≡ with_more (take n head) before
    → (k : ℕ) × (after ≡ with_more (take k (head ++ rest)) before)
first_part before after head rest n e =
    let f = first_of n head rest (leb_tells n (length head)) in (f.0, e ∙ ap (λ l. with_more l before) f.1)

second_part : (before mid after : Option (List ℕ)) (head rest : List ℕ) (n : ℕ) → mid ≡ with_more head before → after ≡ with_more (take n rest) mid
    → (k : ℕ) × (after ≡ with_more (take k (head ++ rest)) before)
second_part before mid after head rest n e f =
    (length head + n, both_parts before mid after head (take n rest) e f ∙ ap (λ l. with_more l before) (sym (take-append-add head rest n)))

-- .. where the second one is a message, and the first one its length
pub frame_first : (before after : Option (List ℕ)) (head message : List ℕ) (n : ℕ) → head ≡ u16_octets (length message)
    → after ≡ with_more (take n head) before → (k : ℕ) × (after ≡ with_more (take k (frame_of message)) before)
frame_first before after head message n h e =
    let p = first_part before after head message n e in
    (p.0, p.1 ∙ ap (λ l. with_more (take p.0 (l ++ message)) before) h)

pub frame_second : (before mid after : Option (List ℕ)) (head message : List ℕ) (n : ℕ) → head ≡ u16_octets (length message)
    → mid ≡ with_more head before → after ≡ with_more (take n message) mid
    → (k : ℕ) × (after ≡ with_more (take k (frame_of message)) before)
frame_second before mid after head message n h e f =
    let p = second_part before mid after head message n e f in
    (p.0, p.1 ∙ ap (λ l. with_more (take p.0 (l ++ message)) before) h)
