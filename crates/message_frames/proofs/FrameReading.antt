-- Octets that are read of a source in parts.
use Rattle.std.proofs.Common.{◌≡◌, ℕ, ◌+◌, ◌-◌, ◌≤◌, List, [], ◌∷◌, ◌++◌, length, take, refl, sym, ap, ◌∙◌, subst, arith, append_assoc, Some, None, Option, IfSome, slice_range, drop_at, take_all, length-take-le, le_refl, length-append}
use Rattle.std.specs.Int.{w16, from_be_bytes}
use Rattle.std.proofs.lemmas.List.{length-take}
use Rattle.std.proofs.lemmas.Slice.{take-put_mid_below}
use borrow.Rule.Slice.PartMut.{put_mid, post_of}
use lib.Seq.{take-add, take-append-le}
use Rattle.zone_devices.specs.Streams.{with_first}
use Rattle.message_frames.specs.Frames.{frame_size}
use Rattle.message_frames.specs.Passing.{TakesAtMost, TakesWithinFrame}

-- all that was read so far, then the rest
read_more : (before mid after : Option (List ℕ)) (octets part : List ℕ) → with_first octets mid ≡ before → with_first part after ≡ mid
    → with_first (octets ++ part) after ≡ before
read_more before mid None octets part e f = ap (with_first octets) f ∙ e
read_more before mid (Some rest) octets part e f = ap Some (append_assoc octets part rest) ∙ ap (with_first octets) f ∙ e

-- octets were read behind the first ones of a buffer
take_split : (a b : ℕ) (old new : List ℕ) → a ≤ b → take a new ≡ take a old → take a old ++ slice_range new a b ≡ take b new
take_split a b old new h front =
    let same : a + (b - a) ≡ b = omega arith in
    ap (λ l. l ++ slice_range new a b) (sym front) ∙ sym (take-add a (b - a) new) ∙ ap (λ n. take n new) same

slice_range-put_mid : (a k n : ℕ) (xs ys : List ℕ) → a ≤ length xs → n ≤ length ys → slice_range (put_mid a k xs ys) a (a + n) ≡ take n ys
slice_range-put_mid a k n xs ys within fits =
    let same : (a + n) - a ≡ n = omega arith in
    let after = post_of a k xs in
    ap (take ((a + n) - a)) (drop_at (take a xs) (ys ++ after) a (length-take-le a xs within)) ∙ ap (λ m. take m (ys ++ after)) same ∙ take-append-le n ys after fits

pub filled_more : (before mid after : Option (List ℕ)) (xs ys : List ℕ) (a k n : ℕ) → a ≤ length xs → n ≤ length ys
    → with_first (take a xs) mid ≡ before → with_first (take n ys) after ≡ mid → with_first (take (a + n) (put_mid a k xs ys)) after ≡ before
filled_more before mid after xs ys a k n within fits e f =
    let part = slice_range-put_mid a k n xs ys within fits in
    let joined = take_split a (a + n) xs (put_mid a k xs ys) (omega arith) (take-put_mid_below _ _ _ _ _ (le_refl _) within) in
    subst (λ l. with_first l after ≡ before) (ap (λ l. take a xs ++ l) (sym part) ∙ joined) (read_more before mid after (take a xs) (take n ys) e f)

-- the two octets of a length, and then a message's
pub taken_both : (before mid after : Option (List ℕ)) (head : List ℕ) (n count : ℕ) → length head ≡ 2 → count ≤ 65535
    → with_first (take n head) mid ≡ before → TakesAtMost count mid after → TakesAtMost 65537 before after
taken_both before mid after head n count two few e t =
    let l = length-take n head in
    (take n head ++ t.0, omega (arith, l, two, few, t.1, length-append (take n head) t.0), read_more before mid after (take n head) t.0 e t.2)

-- a source of which two octets were read had them
pub had_two : (before after : Option (List ℕ)) (head : List ℕ) (n : ℕ) → length head ≡ 2 → 2 ≤ n → n ≤ 2 → with_first (take n head) after ≡ before → IfSome before (λ left. 2 ≤ length left)
had_two before after head n two enough within e = subst (λ (x : Option (List ℕ)). IfSome x (λ left. 2 ≤ length left)) e (by after)
  where
    by : (after : Option (List ℕ)) → IfSome (with_first (take n head) after) (λ left. 2 ≤ length left)
    by None = tt
    by (Some rest) =
        let l = length-take-le n head (omega (arith, two, within)) in
        omega (arith, length-append (take n head) rest, l, enough)

-- ---- nothing behind the first frame

two_or_more : (octets : List ℕ) → 2 ≤ frame_size octets
two_or_more [] = omega arith
two_or_more (a ∷ []) = omega arith
two_or_more (a ∷ b ∷ more) = omega arith

pub within_length : (before after : Option (List ℕ)) → TakesAtMost 2 before after → TakesWithinFrame before after
within_length None after t = tt
within_length (Some octets) after t = let two = two_or_more octets in (t.0, omega (arith, t.1, two), t.2)

behind_length : (a b count : ℕ) (mid after : Option (List ℕ)) → count ≡ from_be_bytes w16 (a ∷ b ∷ []) → TakesAtMost count mid after
    → TakesWithinFrame (with_first (a ∷ b ∷ []) mid) after
behind_length a b count None after e t = tt
behind_length a b count (Some left) after e t =
    (a ∷ b ∷ t.0, omega (arith, t.1, e), read_more (Some (a ∷ b ∷ left)) (Some left) after (a ∷ b ∷ []) t.0 refl t.2)

pub within_frame : (before mid after : Option (List ℕ)) (head : List ℕ) (n count : ℕ) → length head ≡ 2 → 2 ≤ n → count ≡ from_be_bytes w16 head
    → with_first (take n head) mid ≡ before → TakesAtMost count mid after → TakesWithinFrame before after
within_frame before mid after [] n count two enough is e t = absurd (omega (arith, two))
within_frame before mid after (a ∷ []) n count two enough is e t = absurd (omega (arith, two))
within_frame before mid after (a ∷ b ∷ []) n count two enough is e t =
    subst (λ x. TakesWithinFrame x after) (ap (λ l. with_first l mid) (sym (take_all n (a ∷ b ∷ []) enough)) ∙ e) (behind_length a b count mid after is t)
within_frame before mid after (a ∷ b ∷ c ∷ xs) n count two enough is e t = absurd (omega (arith, two))
