-- Frames read of a source, one after the other.
use Rattle.std.proofs.Common.{◌≡◌, ℕ, suc, ◌+◌, ◌≤◌, Bool, true, false, not, filter, List, [], ◌∷◌, ◌++◌, length, take, drop, nat_le, cond, refl, sym, ap, ◌∙◌, subst, arith, append_assoc, append-nil, leb-true, length-append, drop-drop, Option, Some, None, Result, Ok, Err}
use Rattle.std.specs.Prelude.{option_map, IfSome}
use Rattle.std.specs.Int.{w16, from_be_bytes, to_be_bytes}
use Rattle.std.proofs.lemmas.List.{length-take-le}
use Rattle.std.proofs.lemmas.List.Concat.{flat_map-cons}
use Rattle.std.proofs.lemmas.List.Elements.{filter-append}
use Rattle.std.proofs.lemmas.Grind.{flat_map-append}
use Rattle.dns_name.specs.Octets.{u16_octets}
use Rattle.zone_devices.specs.Streams.{with_first}
use Rattle.message_frames.specs.Frames.{frame_of, frames_of, first_frame, frame_size, Cut, with_message, cut_frames}
use Rattle.message_frames.specs.Passing.{Gives, TakesAtMost, IsCutOff, TakesWithinFrame}
use Rattle.message_frames.specs.declared.reading.FrameError.{FrameError}
use Rattle.message_frames.specs.declared.reading.FrameError.TheVariants as frame
use Rattle.xfr_outcomes.specs.declared.outcome.SyncOk.{SyncOk}
use Rattle.xfr_outcomes.specs.declared.outcome.SyncError.TheVariants.{Ended}
use Rattle.zone_asking.specs.declared.limits.Limits.{Limits}
use Rattle.zone_asking.specs.declared.limits.Limit as kinds
use Rattle.zone_asking.specs.declared.errors.AskError.{AskError}
use Rattle.zone_asking.specs.declared.errors.AskError.TheVariants.{Transfer, Limit}
use Rattle.zone_asking.specs.Limiting.{passed, IsLeft}
use Rattle.zone_asking.specs.Failures.{of_frame}
use Rattle.zone_asking.specs.Streams.{BeginsWith, GivesFrames, has_id, replies_among, LeavesBy, Reads, ReadSoFar}
use Rattle.zone_asking.proofs.Limiting.{none_read, left_behind, within, passed_left}

-- the law by which octets are cut at a frame
abbrev pub CutsAtFrames : Type 0
CutsAtFrames = (octets message rest : List ℕ) → first_frame octets ≡ Some (message, rest) → cut_frames octets ≡ with_message message (cut_frames rest)

-- ---- one frame

split_behind : (b : Bool) (n : ℕ) (octets message rest : List ℕ) → nat_le n (length octets) ≡ b
    → cond {A = Option (List ℕ × List ℕ)} b (Some (take n octets, drop n octets)) None ≡ Some (message, rest) → rest ≡ drop (length message) octets
split_behind false n octets message rest h e = cc
split_behind true n octets message rest h e =
    let same : ◌≡◌ {A = List ℕ × List ℕ} (take n octets, drop n octets) (message, rest) = cc in
    let m : take n octets ≡ message = ap (λ x. x.0) same in
    let r : drop n octets ≡ rest = ap (λ x. x.1) same in
    let l : length message ≡ n = ap length (sym m) ∙ length-take-le n octets (leb-true n (length octets) h) in
    sym r ∙ ap (λ k. drop k octets) (sym l)

behind_frame : (octets message rest : List ℕ) → first_frame octets ≡ Some (message, rest) → rest ≡ drop (suc (suc (length message))) octets
behind_frame [] message rest e = cc
behind_frame (a ∷ []) message rest e = cc
behind_frame (a ∷ b ∷ more) message rest e =
    split_behind (nat_le (from_be_bytes w16 (a ∷ b ∷ [])) (length more)) (from_be_bytes w16 (a ∷ b ∷ [])) more message rest refl e

frame_length : (message : List ℕ) → length (frame_of message) ≡ suc (suc (length message))
frame_length message =
    let l : length (frame_of message) ≡ 2 + length message = length-append (u16_octets (length message)) message in
    omega (arith, l)

frames_length : (first : List (List ℕ)) (message : List ℕ) → length (frames_of (first ++ message ∷ [])) ≡ length (frames_of first) + suc (suc (length message))
frames_length first message =
    ap length (flat_map-append frame_of first (message ∷ []))
    ∙ length-append (frames_of first) (frames_of (message ∷ []))
    ∙ ap (λ l. length (frames_of first) + l) (ap length (flat_map-cons frame_of message [] ∙ append-nil (frame_of message)) ∙ frame_length message)

-- ---- one frame more

begins_more : (first : List (List ℕ)) (octets mid message rest : List ℕ) → CutsAtFrames → BeginsWith first octets mid → first_frame mid ≡ Some (message, rest)
    → BeginsWith (first ++ message ∷ []) octets rest
begins_more first octets mid message rest cuts b e =
    let c = cuts mid message rest e in
    record {
      messages = b.messages ∙ ap (λ (x : Cut). first ++ x.messages) c ∙ sym (append_assoc first (message ∷ []) (cut_frames rest).messages);
      left = b.left ∙ ap (λ (x : Cut). x.left) c;
      behind =
          behind_frame mid message rest e ∙ ap (drop (suc (suc (length message)))) b.behind
          ∙ drop-drop (suc (suc (length message))) (length (frames_of first)) octets
          ∙ ap (λ n. drop n octets) (sym (frames_length first message));
    }

some_frame : (found : Option (List ℕ × List ℕ)) (message rest : List ℕ) → ◌≡◌ {A = Option (Option (List ℕ × List ℕ))} (Some found) (Some (Some (message, rest))) → found ≡ Some (message, rest)
some_frame found message rest e = ap (unless found) e
  where
    unless : Option (List ℕ × List ℕ) → Option (Option (List ℕ × List ℕ)) → Option (List ℕ × List ℕ)
    unless d None = d
    unless d (Some x) = x

pub gives_more : (first : List (List ℕ)) (old mid new : Option (List ℕ)) (message : List ℕ) → CutsAtFrames → GivesFrames first old mid → Gives message mid new → GivesFrames (first ++ message ∷ []) old new
gives_more first None None None message cuts b g = tt
gives_more first None None (Some rest) message cuts b g = absurd (cc g)
gives_more first None (Some x) new message cuts b g = absurd b
gives_more first (Some octets) None new message cuts b g = absurd b
gives_more first (Some octets) (Some mid) None message cuts b g = absurd (cc g)
gives_more first (Some octets) (Some mid) (Some rest) message cuts b g = begins_more first octets mid message rest cuts b (some_frame (first_frame mid) message rest g)

pub gives_none : (old : Option (List ℕ)) → GivesFrames [] old old
gives_none None = tt
gives_none (Some octets) = record { messages = refl; left = refl; behind = refl }

-- ---- the end

-- a source at its end stays as it is
none_left : (octets rest : List ℕ) → octets ++ rest ≡ [] → rest ≡ []
none_left [] rest e = e
none_left (a ∷ octets) rest e = absurd (cc e)

at_end : (octets : List ℕ) (after : Option (List ℕ)) → with_first octets after ≡ Some [] → after ≡ Some []
at_end octets None e = absurd (cc e)
at_end octets (Some rest) e = ap Some (none_left octets rest (some_same (octets ++ rest) [] e))
  where
    some_same : (x y : List ℕ) → ◌≡◌ {A = Option (List ℕ)} (Some x) (Some y) → x ≡ y
    some_same x y e = ap (unless x) e
      where
        unless : List ℕ → Option (List ℕ) → List ℕ
        unless d None = d
        unless d (Some z) = z

pub ends_still : (old new : Option (List ℕ)) → IfSome old (λ left. left ≡ []) → TakesAtMost 65537 old new → new ≡ old
ends_still None None h t = refl
ends_still None (Some x) h t = absurd (cc t.2)
ends_still (Some octets) new h t =
    at_end t.0 new (t.2 ∙ ap Some h) ∙ ap Some (sym h)

-- nothing was taken
pub takes_none : (old : Option (List ℕ)) → TakesWithinFrame old old
takes_none None = tt
takes_none (Some octets) = ([], omega arith, refl)

-- ---- what was read

pub begins : (limits : Limits) (over : Option ℕ) (old : Option (List ℕ)) → ReadSoFar limits over [] old old limits
begins limits over old = record { read = []; among = refl; spent = none_read limits; frames = gives_none old }

-- a reply more, or a message that is passed over
one_among : (over : Option ℕ) (read : List (List ℕ)) (m : List ℕ) (b : Bool) → has_id over m ≡ b → replies_among over (read ++ m ∷ []) ≡ replies_among over read ++ cond (not b) (m ∷ []) []
one_among over read m b e =
    let kept : List ℕ → Bool = λ x. not (has_id over x) in
    filter-append kept read (m ∷ []) ∙ ap (λ x. filter kept read ++ cond (not x) (m ∷ []) []) e

pub reads_reply : (limits : Limits) (over : Option ℕ) (replies : List (List ℕ)) (old mid new : Option (List ℕ)) (left rest : Limits) (m : List ℕ) → CutsAtFrames → ReadSoFar limits over replies old mid left → Gives m mid new
    → IsLeft left (m ∷ []) rest → has_id over m ≡ false → ReadSoFar limits over (replies ++ m ∷ []) old new rest
reads_reply limits over replies old mid new left rest m cuts k g one mine = record {
  read = k.read ++ m ∷ [];
  among = ap (λ l. l ++ m ∷ []) k.among ∙ sym (one_among over k.read m false mine);
  spent = left_behind limits left rest k.read m k.spent one;
  frames = gives_more k.read old mid new m cuts k.frames g;
}

pub reads_over : (limits : Limits) (over : Option ℕ) (replies : List (List ℕ)) (old mid new : Option (List ℕ)) (left rest : Limits) (m : List ℕ) → CutsAtFrames → ReadSoFar limits over replies old mid left → Gives m mid new
    → IsLeft left (m ∷ []) rest → has_id over m ≡ true → ReadSoFar limits over replies old new rest
reads_over limits over replies old mid new left rest m cuts k g one other = record {
  read = k.read ++ m ∷ [];
  among = k.among ∙ sym (one_among over k.read m true other ∙ append-nil (replies_among over k.read));
  spent = left_behind limits left rest k.read m k.spent one;
  frames = gives_more k.read old mid new m cuts k.frames g;
}

-- no more is read
pub reads_to : (limits : Limits) (over : Option ℕ) (replies : List (List ℕ)) (old rest new : Option (List ℕ)) (left : Limits) (answer : Result SyncOk AskError) → (k : ReadSoFar limits over replies old rest left)
    → LeavesBy limits k.read answer rest new → Reads limits over replies old new answer
reads_to limits over replies old rest new left answer k leaves = record {
  read = k.read;
  among = k.among;
  within = within limits left k.read k.spent;
  rest = rest;
  frames = k.frames;
  leaves = leaves;
}

pub reads_ended : (limits : Limits) (over : Option ℕ) (replies : List (List ℕ)) (old mid new : Option (List ℕ)) (left : Limits) → ReadSoFar limits over replies old mid left → IfSome mid (λ octets. octets ≡ []) → TakesAtMost 65537 mid new
    → Reads limits over replies old new (Err (Transfer Ended))
reads_ended limits over replies old mid new left k none most = reads_to limits over replies old mid new left (Err (Transfer Ended)) k (none, ends_still mid new none most)

-- what the source leaves where it gave no frame
pub record FailsToGive (x : FrameError) (mid new : Option (List ℕ)) : Type 0 where
  pub cut : x ≡ frame.Cut → IfSome mid IsCutOff
  pub ended : x ≡ frame.Cut → IfSome new (λ octets. octets ≡ [])
  pub within : TakesWithinFrame mid new

pub reads_failed : (limits : Limits) (over : Option ℕ) (replies : List (List ℕ)) (old mid new : Option (List ℕ)) (left : Limits) (x : FrameError) → ReadSoFar limits over replies old mid left → FailsToGive x mid new
    → Reads limits over replies old new (Err (of_frame x))
reads_failed limits over replies old mid new left frame.Cut k f = reads_to limits over replies old mid new left (Err (of_frame frame.Cut)) k (f.cut refl, f.ended refl)
reads_failed limits over replies old mid new left frame.Fault k f = reads_to limits over replies old mid new left (Err (of_frame frame.Fault)) k f.within
reads_failed limits over replies old mid new left frame.Memory k f = reads_to limits over replies old mid new left (Err (of_frame frame.Memory)) k f.within

pub reads_past : (limits : Limits) (over : Option ℕ) (replies : List (List ℕ)) (old mid new : Option (List ℕ)) (left : Limits) (m : List ℕ) (which : kinds.Limit) → CutsAtFrames → ReadSoFar limits over replies old mid left → Gives m mid new
    → passed left [] m ≡ Some which → Reads limits over replies old new (Err (Limit which))
reads_past limits over replies old mid new left m which cuts k g over_left =
    reads_to limits over replies old mid new left (Err (Limit which)) k (record {
      message = m;
      frame = gives_more [] mid mid new m cuts (gives_none mid) g;
      passes = passed_left limits left k.read m k.spent ∙ over_left;
    })

-- nothing is passed over where no id is given
pub all_among : (read : List (List ℕ)) → replies_among None read ≡ read
all_among [] = refl
all_among (m ∷ read) = ap (λ l. m ∷ l) (all_among read)
