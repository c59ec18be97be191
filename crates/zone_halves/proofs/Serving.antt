-- A stream of one request, and what was written for it.
use Rattle.std.proofs.Common.{◌≡◌, ℕ, ◌≤◌, false, List, [], ◌∷◌, ◌++◌, length, map, append-nil, refl, sym, ap, ◌∙◌, subst, Option, Some, None}
use Rattle.std.specs.Prelude.{flat_map}
use Rattle.std.specs.List.{AllByRecursion}
use Rattle.std.proofs.lemmas.List.Concat.{flat_map-cons}
use Rattle.zone_devices.specs.Streams.{with_more}
use Rattle.message_frames.specs.Frames.{Cut, frame_of, frames_of, cut_frames}
use Rattle.xfr_services.specs.Items.{Sending}
use Rattle.zone_serving.specs.StreamServing.{Answered, SendsJust, requests_of, replies_of, IsAnswered}
use Rattle.zone_serving.specs.WholeStreams.{ServesToEnd}
use Rattle.zone_halves.specs.Meeting.{WritesAll}

-- the frames of one message are its frame
one_frame : (message : List ℕ) → frames_of (message ∷ []) ≡ frame_of message
one_frame message = flat_map-cons frame_of message [] ∙ append-nil (frame_of message)

abbrev first_of : List ℕ → List (List ℕ) → List ℕ
first_of d [] = d
first_of d (m ∷ more) = m

abbrev has_more : List (List ℕ) → ℕ
has_more [] = 0
has_more (m ∷ []) = 1
has_more (m ∷ n ∷ more) = 2

module _ (written : (messages : List (List ℕ)) → AllByRecursion (λ m. length m ≤ 65535) messages → cut_frames (frames_of messages) ≡ record { messages = messages; left = [] })
    (Sends : List ℕ → Option (List Sending) → Type 0) (request : List ℕ) (short : length request ≤ 65535) (sink : Option (List ℕ)) where
  pub one_request : (count : ℕ) (src_new : Option (List ℕ)) → ServesToEnd Sends (frame_of request) [] count src_new (Some []) sink → WritesAll (Sends request) sink
  one_request count src_new e = by e.served requests e.answered e.took
    where
      requests : requests_of e.served ≡ request ∷ []
      requests = sym (ap (λ (c : Cut). c.messages) e.cut) ∙ ap (λ o. (cut_frames o).messages) (sym (one_frame request)) ∙ ap (λ (c : Cut). c.messages) (written (request ∷ []) (short, tt))

      by : (served : List Answered) → requests_of served ≡ request ∷ [] → AllByRecursion (IsAnswered Sends) served → sink ≡ with_more (frames_of (replies_of served)) (Some []) → WritesAll (Sends request) sink
      by [] h all took = absurd (cc (ap has_more h))
      by (x ∷ []) h all took =
          let same : x.request ≡ request = ap (first_of x.request) h in
          let replies : replies_of (x ∷ []) ≡ x.replies = flat_map-cons (λ (y : Answered). y.replies) x [] ∙ append-nil x.replies in
          record { messages = x.replies; sends = subst (λ m. SendsJust (Sends m) false x.replies) same all.0.1; frames = took ∙ ap (λ l. with_more (frames_of l) (Some [])) replies }
      by (x ∷ y ∷ more) h all took = absurd (cc (ap has_more h))
