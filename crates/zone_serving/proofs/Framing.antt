-- Frames that a sink takes one after another.
use Rattle.std.proofs.Common.{◌≡◌, ℕ, List, [], ◌∷◌, ◌++◌, append_assoc, append-nil, refl, sym, ap, ◌∙◌, Option, Some, None}
use Rattle.std.proofs.lemmas.List.Concat.{flat_map-append, flat_map-cons}
use Rattle.zone_devices.specs.Streams.{with_more}
use Rattle.message_frames.specs.Frames.{frame_of, frames_of}

pub more_twice : (old : Option (List ℕ)) (a b : List ℕ) → with_more b (with_more a old) ≡ with_more (a ++ b) old
more_twice None a b = refl
more_twice (Some had) a b = ap Some (append_assoc had a b)

pub nothing_more : (old : Option (List ℕ)) → old ≡ with_more [] old
nothing_more None = refl
nothing_more (Some had) = ap Some (sym (append-nil had))

pub one_frame : (m : List ℕ) → frames_of (m ∷ []) ≡ frame_of m
one_frame m = flat_map-cons frame_of m [] ∙ append-nil (frame_of m)

pub frames_on : (old mid new : Option (List ℕ)) (sent more : List (List ℕ)) → mid ≡ with_more (frames_of sent) old → new ≡ with_more (frames_of more) mid
    → new ≡ with_more (frames_of (sent ++ more)) old
frames_on old mid new sent more e f =
    f ∙ ap (with_more (frames_of more)) e ∙ more_twice old (frames_of sent) (frames_of more)
    ∙ ap (λ l. with_more l old) (sym (flat_map-append frame_of sent more))

pub frame_on : (old mid new : Option (List ℕ)) (sent : List (List ℕ)) (m : List ℕ) → mid ≡ with_more (frames_of sent) old → new ≡ with_more (frame_of m) mid
    → new ≡ with_more (frames_of (sent ++ m ∷ [])) old
frame_on old mid new sent m e f = frames_on old mid new sent (m ∷ []) e (f ∙ ap (λ l. with_more l mid) (sym (one_frame m)))

pub part_on : (old mid new : Option (List ℕ)) (sent : List (List ℕ)) (part : List ℕ) → mid ≡ with_more (frames_of sent) old → new ≡ with_more part mid
    → new ≡ with_more (frames_of sent ++ part) old
part_on old mid new sent part e f = f ∙ ap (with_more part) e ∙ more_twice old (frames_of sent) part
