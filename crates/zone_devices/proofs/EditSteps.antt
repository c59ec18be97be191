-- An edit of messages in buffers, and of the octets that they hold.
use Rattle.std.specs.Prelude.{◌≡◌, ℕ, ◌+◌, ◌-◌, ◌<◌, List, [], ◌∷◌, ◌++◌, Bool, false, take, drop, length, slice_set, slice_index_or}
use Rattle.std.specs.List.{swap}
use Rattle.std.specs.Global.{Vec}
use Rattle.std.proofs.Common.{ap, sym, ◌∙◌, arith}
use Rattle.std.proofs.lemmas.List.{map-append, map-set, get_or-map, take-map, drop-map, drop_more, take_rest, length-map}
use Rattle.zone_devices.specs.Edits.{octets_of, changed_at, swapped_at}
use Rattle.zone_devices.specs.Queues.{waiting_of}
use Rattle.zone_devices.proofs.QueueSteps.{queued}

-- a buffer of a list, among their octets
held_at : (xs : List (Vec ℕ)) (i : ℕ) (x : Vec ℕ) (d : List ℕ) → i < length xs → x ≡ slice_index_or xs i x → slice_index_or (octets_of xs) i d ≡ x.items
held_at xs i x d h e = get_or-map (λ m. m.items) xs i x d h ∙ ap (λ m. m.items) (sym e)

pub changed : (xs : List (Vec ℕ)) (i : ℕ) (change : List ℕ → List ℕ) (x y : Vec ℕ) → i < length xs → x ≡ slice_index_or xs i x → y.items ≡ change x.items
    → octets_of (slice_set xs i y) ≡ changed_at i change (octets_of xs)
changed xs i change x y h e f =
    map-set (λ m. m.items) xs i y ∙ ap (λ m. slice_set (octets_of xs) i m) (f ∙ ap change (sym (held_at xs i x [] h e)))

both_parts : (xs ys : List (Vec ℕ)) (i j : ℕ) → ys ≡ take i xs ++ drop j xs → octets_of ys ≡ take i (octets_of xs) ++ drop j (octets_of xs)
both_parts xs ys i j e =
    ap (λ zs. octets_of zs) e ∙ map-append (λ m. m.items) (take i xs) (drop j xs)
    ∙ ap (λ zs. zs ++ octets_of (drop j xs)) (sym (take-map (λ m. m.items) i xs)) ∙ ap (λ zs. take i (octets_of xs) ++ zs) (sym (drop-map (λ m. m.items) j xs))

pub left_out : (xs ys : List (Vec ℕ)) (i : ℕ) → ys ≡ take i xs ++ drop (i + 1) xs → octets_of ys ≡ take i (octets_of xs) ++ drop (i + 1) (octets_of xs)
left_out xs ys i e = both_parts xs ys i (i + 1) e

pub repeated : (xs ys : List (Vec ℕ)) (i : ℕ) (x c : Vec ℕ) → i < length xs → x ≡ slice_index_or xs i x → c.items ≡ x.items → ys ≡ take (i + 1) xs ++ c ∷ drop (i + 1) xs
    → octets_of ys ≡ take (i + 1) (octets_of xs) ++ drop i (octets_of xs)
repeated xs ys i x c h e f g =
    let within : i < length (octets_of xs) = let l = length-map xs (λ (m : Vec ℕ). m.items) in omega (arith, l, h) in
    let rest = drop_more (octets_of xs) i [] within in
    let first : slice_index_or (octets_of xs) i [] ≡ c.items = held_at xs i x [] h e ∙ sym f in
    ap (λ zs. octets_of zs) g ∙ map-append (λ m. m.items) (take (i + 1) xs) (c ∷ drop (i + 1) xs)
    ∙ ap (λ zs. zs ++ c.items ∷ octets_of (drop (i + 1) xs)) (sym (take-map (λ m. m.items) (i + 1) xs))
    ∙ ap (λ zs. take (i + 1) (octets_of xs) ++ c.items ∷ zs) (sym (drop-map (λ m. m.items) (i + 1) xs))
    ∙ ap (λ m. take (i + 1) (octets_of xs) ++ m ∷ drop (i + 1) (octets_of xs)) (sym first)
    ∙ ap (λ zs. take (i + 1) (octets_of xs) ++ zs) (sym rest)

pub swapped : (xs ys : List (Vec ℕ)) (i j : ℕ) → i < length xs → j < length xs → ys ≡ swap xs i j → octets_of ys ≡ swapped_at i j (octets_of xs)
swapped [] ys i j h k e = absurd (omega (arith, h))
swapped (x ∷ xs) ys i j h k e =
    let f : Vec ℕ → List ℕ = λ m. m.items in
    let l : List (Vec ℕ) = x ∷ xs in
    ap (λ zs. octets_of zs) e
    ∙ map-set f (slice_set l i (slice_index_or l j x)) j (slice_index_or l i x)
    ∙ ap (λ zs. slice_set zs j (f (slice_index_or l i x))) (map-set f l i (slice_index_or l j x))
    ∙ ap (λ m. slice_set (slice_set (octets_of l) i m) j (f (slice_index_or l i x))) (sym (get_or-map f l j x (slice_index_or (octets_of l) i []) k))
    ∙ ap (λ m. slice_set (slice_set (octets_of l) i (slice_index_or (octets_of l) j (slice_index_or (octets_of l) i []))) j m) (sym (get_or-map f l i x (slice_index_or (octets_of l) j []) h))

-- what waits in a queue over buffers, and its first message
pub waits : (ms : List (Vec ℕ)) (n : ℕ) (b : Bool) → octets_of (take (length ms - n) (drop n ms)) ≡ waiting_of (queued ms n b)
waits ms n b = ap (λ zs. octets_of zs) (take_rest ms n) ∙ sym (drop-map (λ m. m.items) n ms)

pub first_waits : (ms : List (Vec ℕ)) (n : ℕ) (b : Bool) (m : Vec ℕ) (o : List ℕ) → n < length ms → m ≡ slice_index_or ms n m → o ≡ m.items
    → waiting_of (queued ms n b) ≡ o ∷ waiting_of (queued ms (n + 1) false)
first_waits ms n b m o h e f =
    let within : n < length (octets_of ms) = let l = length-map ms (λ (m : Vec ℕ). m.items) in omega (arith, l, h) in
    drop_more (octets_of ms) n [] within ∙ ap (λ x. x ∷ drop (n + 1) (octets_of ms)) (held_at ms n m [] h e ∙ sym f)
