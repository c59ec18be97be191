-- How octets are cut into frames.
use Rattle.std.proofs.Common.{◌≡◌, ℕ, zero, suc, ◌+◌, ◌<◌, ◌≤◌, ◌^◌, Bool, true, false, List, [], ◌∷◌, ◌++◌, length, get_or, take, drop, refl, sym, ap, ◌∙◌, subst, arith, append_assoc, append-nil, le-leb, leb-true, ltb-true, le_refl, not-suc-le-zero, Some, None, Option, nat_le, nat_lt, cond, length-append}
use Rattle.std.specs.List.{list_all, AllByRecursion}
use Rattle.std.specs.Int.{w16, from_be_bytes}
use Rattle.std.proofs.Math.Seq.{take-append_seam, drop-append_seam}
use Rattle.std.proofs.lemmas.Bool.{and_parts, lt-leb}
use Rattle.std.proofs.lemmas.Nat.{from_be_bytes-to_be_bytes_2, be_bytes_2}
use Rattle.std.proofs.lemmas.List.{take-append-drop, length-take-le}
use Rattle.std.proofs.lemmas.List.Concat.{flat_map-cons}
use Rattle.std.proofs.lemmas.List.Folds.{list_all-append}
use Rattle.message_frames.specs.Frames.{frame_of, frames_of, split_at, first_frame, Cut, with_message, cut_behind, cut_within, cut_frames}

-- ---- one frame

pub split_front : (message more : List ℕ) → split_at (length message) (message ++ more) ≡ Some (message, more)
split_front message more =
    rw (le-leb (length message) (length (message ++ more)) (omega (arith, length-append message more)), take-append_seam message more, drop-append_seam message more) refl

pub split_none : (count : ℕ) (octets : List ℕ) → length octets < count → split_at count octets ≡ None
split_none count octets short = rw (lt-leb count (length octets) short) refl

pub frame_found : (message more : List ℕ) → length message ≤ 65535 → first_frame (frame_of message ++ more) ≡ Some (message, more)
frame_found message more short =
    let fits : length message < 2 ^ 16 = omega (arith, short) in
    ap (λ n. split_at n (message ++ more)) (from_be_bytes-to_be_bytes_2 (length message) fits) ∙ split_front message more

split_by : (b : Bool) (n : ℕ) (octets message rest : List ℕ) → nat_le n (length octets) ≡ b
    → cond {A = Option (List ℕ × List ℕ)} b (Some (take n octets, drop n octets)) None ≡ Some (message, rest) → (octets ≡ message ++ rest) × (length message ≡ n)
split_by false n octets message rest h e = cc
split_by true n octets message rest h e =
    let same : ◌≡◌ {A = List ℕ × List ℕ} (take n octets, drop n octets) (message, rest) = cc in
    let m : take n octets ≡ message = ap (λ x. x.0) same in
    let r : drop n octets ≡ rest = ap (λ x. x.1) same in (
      sym (take-append-drop n octets) ∙ ap (λ xs. xs ++ drop n octets) m ∙ ap (λ xs. message ++ xs) r,
      ap length (sym m) ∙ length-take-le n octets (leb-true n (length octets) h),
    )

-- what was found in front
pub record Found (octets message rest : List ℕ) : Type 0 where
  pub high : ℕ
  pub low : ℕ
  pub whole : octets ≡ high ∷ low ∷ (message ++ rest)
  pub long : length message ≡ from_be_bytes w16 (high ∷ low ∷ [])

pub found : (octets message rest : List ℕ) → first_frame octets ≡ Some (message, rest) → Found octets message rest
found [] message rest e = cc
found (a ∷ []) message rest e = cc
found (a ∷ b ∷ more) message rest e =
    let s = split_by (nat_le (from_be_bytes w16 (a ∷ b ∷ [])) (length more)) (from_be_bytes w16 (a ∷ b ∷ [])) more message rest refl e in
    record { high = a; low = b; whole = ap (λ xs. a ∷ b ∷ xs) s.0; long = s.1 }

shorter : (octets message rest : List ℕ) → first_frame octets ≡ Some (message, rest) → length rest + 2 ≤ length octets
shorter octets message rest e =
    let f = found octets message rest e in
    let l : length octets ≡ suc (suc (length (message ++ rest))) = ap length f.whole in
    omega (arith, l, length-append message rest)

-- ---- as many steps as there are octets are enough

steps_behind : (n k : ℕ) (octets : List ℕ) (f : Option (List ℕ × List ℕ))
    → ((rest : List ℕ) → length rest ≤ n → length rest ≤ k → cut_within n rest ≡ cut_within k rest)
    → first_frame octets ≡ f → length octets ≤ suc n → length octets ≤ suc k
    → cut_behind (cut_within n) octets f ≡ cut_behind (cut_within k) octets f
steps_behind n k octets None ih e h g = refl
steps_behind n k octets (Some (m, rest)) ih e h g =
    let s = shorter octets m rest e in
    ap (with_message m) (ih rest (omega (arith, s, h)) (omega (arith, s, g)))

steps_enough : (n k : ℕ) (octets : List ℕ) → length octets ≤ n → length octets ≤ k → cut_within n octets ≡ cut_within k octets
steps_enough zero zero octets h g = refl
steps_enough zero (suc k) [] h g = refl
steps_enough zero (suc k) (a ∷ xs) h g = absurd (not-suc-le-zero h)
steps_enough (suc n) zero [] h g = refl
steps_enough (suc n) zero (a ∷ xs) h g = absurd (not-suc-le-zero g)
steps_enough (suc n) (suc k) octets h g =
    steps_behind n k octets (first_frame octets) (λ rest p q. steps_enough n k rest p q) refl h g

pub cut_none : (octets : List ℕ) → first_frame octets ≡ None → cut_frames octets ≡ record { messages = []; left = octets }
cut_none [] e = refl
cut_none (a ∷ xs) e = ap (λ f. cut_behind (cut_within (length xs)) (a ∷ xs) f) e

pub cut_some : (octets message rest : List ℕ) → first_frame octets ≡ Some (message, rest) → cut_frames octets ≡ with_message message (cut_frames rest)
cut_some [] message rest e = cc
cut_some (a ∷ xs) message rest e =
    let s = shorter (a ∷ xs) message rest e in
    let fewer : length rest ≤ length xs = omega (arith, s) in
    ap (λ f. cut_behind (cut_within (length xs)) (a ∷ xs) f) e
    ∙ ap (with_message message) (steps_enough (length xs) (length rest) rest fewer (le_refl (length rest)))

-- ---- frames that were written

pub written_before : (messages : List (List ℕ)) (more : List ℕ) → AllByRecursion (λ m. length m ≤ 65535) messages
    → cut_frames (frames_of messages ++ more) ≡ record { messages = messages ++ (cut_frames more).messages; left = (cut_frames more).left }
written_before [] more all = refl
written_before (m ∷ messages) more all =
    let rest = frames_of messages ++ more in
    ap (λ l. cut_frames (l ++ more)) (flat_map-cons frame_of m messages)
    ∙ ap cut_frames (append_assoc (frame_of m) (frames_of messages) more)
    ∙ cut_some (frame_of m ++ rest) m rest (frame_found m rest all.0)
    ∙ ap (with_message m) (written_before messages more all.1)

pub written_alone : (messages : List (List ℕ)) → AllByRecursion (λ m. length m ≤ 65535) messages
    → cut_frames (frames_of messages) ≡ record { messages = messages; left = [] }
written_alone messages all =
    let joined : ◌≡◌ {A = Cut} (record { messages = messages ++ []; left = [] }) (record { messages = messages; left = [] })
    = ap (λ (l : List (List ℕ)). record { messages = l; left = [] }) (append-nil messages) in
    ap cut_frames (sym (append-nil (frames_of messages))) ∙ written_before messages [] all ∙ joined

-- ---- octets that were cut

abbrev pub Below : List ℕ → Type 0
Below octets = list_all (λ c. nat_lt c 256) octets ≡ true

record Parts (octets message rest : List ℕ) : Type 0 where
  again : frame_of message ++ rest ≡ octets
  short : length message ≤ 65535
  behind : Below rest

both_below : (a b : ℕ) → a < 256 → b < 256 → (i : ℕ) → get_or (a ∷ b ∷ []) i 0 < 256
both_below a b h k zero = h
both_below a b h k (suc zero) = k
both_below a b h k (suc (suc i)) = omega arith

number_short : (a b : ℕ) → a < 256 → b < 256 → from_be_bytes w16 (a ∷ b ∷ []) ≤ 65535
number_short a b h k = omega (arith, h, k)

parts : (octets message rest : List ℕ) → Below octets → first_frame octets ≡ Some (message, rest) → Parts octets message rest
parts octets message rest below e =
    let f = found octets message rest e in
    let all : Below (f.high ∷ f.low ∷ (message ++ rest)) = subst (λ xs. Below xs) f.whole below in
    let one = and_parts (nat_lt f.high 256) (list_all (λ c. nat_lt c 256) (f.low ∷ (message ++ rest))) all in
    let two = and_parts (nat_lt f.low 256) (list_all (λ c. nat_lt c 256) (message ++ rest)) one.1 in
    let high : f.high < 256 = ltb-true f.high 256 one.0 in
    let low : f.low < 256 = ltb-true f.low 256 two.0 in
    let length_again = be_bytes_2 (f.high ∷ f.low ∷ []) (length message) refl (both_below f.high f.low high low) f.long in
    let number = number_short f.high f.low high low in
    let three = and_parts (list_all (λ c. nat_lt c 256) message) (list_all (λ c. nat_lt c 256) rest) (sym (list_all-append (λ c. nat_lt c 256) message rest) ∙ two.1) in
    record {
      again = ap (λ l. (l ++ message) ++ rest) length_again ∙ sym f.whole;
      short = omega (arith, f.long, number);
      behind = three.1;
    }

again_behind : (n : ℕ) (octets : List ℕ) (f : Option (List ℕ × List ℕ))
    → ((rest : List ℕ) → Below rest → frames_of (cut_within n rest).messages ++ (cut_within n rest).left ≡ rest)
    → first_frame octets ≡ f → Below octets
    → frames_of (cut_behind (cut_within n) octets f).messages ++ (cut_behind (cut_within n) octets f).left ≡ octets
again_behind n octets None ih e below = refl
again_behind n octets (Some (m, rest)) ih e below =
    let p = parts octets m rest below e in
    let c = cut_within n rest in
    ap (λ l. l ++ c.left) (flat_map-cons frame_of m c.messages) ∙ append_assoc (frame_of m) (frames_of c.messages) c.left
    ∙ ap (λ l. frame_of m ++ l) (ih rest p.behind) ∙ p.again

cut_again : (n : ℕ) (octets : List ℕ) → Below octets → frames_of (cut_within n octets).messages ++ (cut_within n octets).left ≡ octets
cut_again zero octets below = refl
cut_again (suc n) octets below = again_behind n octets (first_frame octets) (λ rest b. cut_again n rest b) refl below

short_behind : (n : ℕ) (octets : List ℕ) (f : Option (List ℕ × List ℕ))
    → ((rest : List ℕ) → Below rest → AllByRecursion (λ m. length m ≤ 65535) (cut_within n rest).messages)
    → first_frame octets ≡ f → Below octets
    → AllByRecursion (λ m. length m ≤ 65535) (cut_behind (cut_within n) octets f).messages
short_behind n octets None ih e below = tt
short_behind n octets (Some (m, rest)) ih e below =
    let p = parts octets m rest below e in (p.short, ih rest p.behind)

cut_short : (n : ℕ) (octets : List ℕ) → Below octets → AllByRecursion (λ m. length m ≤ 65535) (cut_within n octets).messages
cut_short zero octets below = tt
cut_short (suc n) octets below = short_behind n octets (first_frame octets) (λ rest b. cut_short n rest b) refl below

left_behind : (n : ℕ) (octets : List ℕ) (f : Option (List ℕ × List ℕ))
    → ((rest : List ℕ) → length rest ≤ n → first_frame (cut_within n rest).left ≡ None)
    → first_frame octets ≡ f → length octets ≤ suc n → first_frame (cut_behind (cut_within n) octets f).left ≡ None
left_behind n octets None ih e h = e
left_behind n octets (Some (m, rest)) ih e h = let s = shorter octets m rest e in ih rest (omega (arith, s, h))

cut_left : (n : ℕ) (octets : List ℕ) → length octets ≤ n → first_frame (cut_within n octets).left ≡ None
cut_left zero [] h = refl
cut_left zero (a ∷ xs) h = absurd (not-suc-le-zero h)
cut_left (suc n) octets h = left_behind n octets (first_frame octets) (λ rest p. cut_left n rest p) refl h

pub octets_again : (octets : List ℕ) → Below octets → frames_of (cut_frames octets).messages ++ (cut_frames octets).left ≡ octets
octets_again octets below = cut_again (length octets) octets below

pub messages_short : (octets : List ℕ) → Below octets → AllByRecursion (λ m. length m ≤ 65535) (cut_frames octets).messages
messages_short octets below = cut_short (length octets) octets below

pub left_none : (octets : List ℕ) → first_frame (cut_frames octets).left ≡ None
left_none octets = cut_left (length octets) octets (le_refl (length octets))
