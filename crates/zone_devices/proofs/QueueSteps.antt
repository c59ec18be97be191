-- A queue hands on one message more.
use Rattle.std.specs.Prelude.{◌≡◌, ℕ, ◌+◌, ◌<◌, List, [], ◌∷◌, ◌++◌, Bool, false, IsTrue, take, drop, length, map, Some, option_map, slice_get, refl}
use Rattle.std.specs.Global.{Vec}
use Rattle.std.proofs.Common.{ap, sym, ◌∙◌, add-one, get_or, arith}
use Rattle.std.proofs.Math.Seq.{take-suc}
use Rattle.std.proofs.lemmas.List.{take-append-drop, take_all, length-map}
use Rattle.std.proofs.lemmas.Option.{slice_get_within, get_or_from_slice_get, slice_get-map, slice_get_read}
use Rattle.zone_devices.specs.Links.{HandsOn, no_way, with_handed}
use Rattle.zone_devices.specs.Queues.{Queued, way_of}

handed_next : (xs : List (List ℕ)) (n : ℕ) (m : List ℕ) → slice_get xs n ≡ Some m → take (n + 1) xs ≡ take n xs ++ m ∷ []
handed_next xs n m e = rw add-one (rw (take-suc xs n m (slice_get_within xs n m e)) (ap (λ x. take n xs ++ x ∷ []) (get_or_from_slice_get xs n m m e)))

-- the messages of a queue over buffers
abbrev pub queued : List (Vec ℕ) → ℕ → Bool → Queued
queued ms n b = record { messages = map (λ m. m.items) ms; count = n; stopped = b }

pub handed_on : (ms : List (Vec ℕ)) (n : ℕ) (b : Bool) (m : Vec ℕ) (o : List ℕ) → n < length ms → m ≡ get_or ms n m → o ≡ m.items
    → way_of (queued ms (n + 1) false) ≡ with_handed o (way_of (queued ms n b))
handed_on ms n b m o h e f =
    let found : slice_get ms n ≡ Some m = slice_get_read ms (length ms) n m refl h e in
    let got : slice_get (map (λ m. m.items) ms) n ≡ Some o = slice_get-map (λ m. m.items) ms n ∙ ap (option_map (λ m. m.items)) found ∙ ap Some (rw f refl) in
    ap (λ hs. record { taken = map (λ m. m.items) ms; handed = hs; ended = false }) (handed_next _ n o got)

-- messages of which so many were handed on, all of them once the end was told
pub honest_queue : (ms : List (Vec ℕ)) (n : ℕ) (b : Bool) → (IsTrue b → n ≡ length ms) → HandsOn no_way (way_of (queued ms n b))
honest_queue ms n b whole = record {
  in_order = (drop n (map (λ m. m.items) ms), sym (take-append-drop n (map (λ m. m.items) ms)));
  to_the_end = λ e. take_all n (map (λ m. m.items) ms) (let l = length-map ms (λ (m : Vec ℕ). m.items) in let w = whole e in omega (arith, l, w));
}
