-- Requests of a stream, one after another.
use Rattle.std.proofs.Common.{◌≡◌, ℕ, ◌+◌, List, [], ◌∷◌, ◌++◌, length, append_assoc, append-nil, refl, sym, ap, ◌∙◌, subst, arith, inl, Option, Some, None, option_map, IfSome, Ok}
use Rattle.std.specs.List.{AllByRecursion}
use Rattle.std.proofs.lemmas.List.Concat.{flat_map-append, flat_map-cons}
use Rattle.zone_devices.specs.Streams.{emptied, with_first, with_more}
use Rattle.message_frames.specs.Frames.{Cut, first_frame, with_message, cut_frames, frames_of}
use Rattle.message_frames.specs.Passing.{Gives, IsCutOff, TakesAtMost, TakesWithinFrame}
use Rattle.message_frames.specs.declared.reading.FrameError.{FrameError}
use Rattle.message_frames.specs.declared.reading.FrameError.TheVariants as frame
use Rattle.xfr_services.specs.Items.{Sending}
use Rattle.zone_serving.specs.Refusals.{of_frame}
use Rattle.zone_serving.specs.StreamServing.{RepliesBy, Reads, BreaksOff, IsOver, Answered, requests_of, replies_of, IsAnswered, GivesAll, with_messages, ServedCount}
use Rattle.zone_serving.proofs.Framing.{nothing_more, frames_on}

-- ---- the end

unread : (old new : Option (List ℕ)) (octets : List ℕ) → IfSome old (λ left. left ≡ []) → with_first octets new ≡ old → new ≡ old
unread None None octets h e = refl
unread None (Some rest) octets h e = cc
unread (Some left) None octets h e = cc
unread (Some left) (Some rest) [] h e = e
unread (Some left) (Some rest) (a ∷ xs) h e = cc

pub is_over : (old new sink : Option (List ℕ)) → IfSome old (λ left. left ≡ []) → TakesAtMost 65537 old new → IsOver old new sink sink
is_over old new sink h t = record { ended = h; unread = unread old new t.0 h t.2; unwritten = refl }

-- ---- no further frame

all_read : (old new : Option (List ℕ)) (octets : List ℕ) → IfSome new (λ left. left ≡ []) → with_first octets new ≡ old → new ≡ emptied old
all_read None None octets h e = refl
all_read None (Some rest) octets h e = cc
all_read (Some left) None octets h e = cc
all_read (Some left) (Some rest) octets h e = ap Some h

pub not_read : (Sends : List ℕ → Option (List Sending) → Type 0) (old new sink : Option (List ℕ)) (e : FrameError)
    → (e ≡ frame.Cut → IfSome old IsCutOff) → (e ≡ frame.Cut → IfSome new (λ left. left ≡ [])) → TakesAtMost 65537 old new → TakesWithinFrame old new
    → BreaksOff Sends old new sink sink (of_frame e)
not_read Sends old new sink frame.Cut cut ended most within = (cut refl, all_read old new most.0 (ended refl) most.2, refl)
not_read Sends old new sink frame.Fault cut ended most within = (within, refl)
not_read Sends old new sink frame.Memory cut ended most within = inl (within, refl)

-- ---- one request more

gives_on : (messages : List (List ℕ)) (m : List ℕ) (old mid new : Option (List ℕ)) → GivesAll messages old mid → Gives m mid new → GivesAll (messages ++ m ∷ []) old new
gives_on [] m old mid new e f = (new, subst (λ x. Gives m x new) e f, refl)
gives_on (x ∷ messages) m old mid new g f = (g.0, g.1, gives_on messages m g.0 mid new g.2 f)

-- octets are cut at their first frame, and behind it
abbrev pub CutsFirst : Type 0
CutsFirst = (octets message rest : List ℕ) → first_frame octets ≡ Some (message, rest) → cut_frames octets ≡ with_message message (cut_frames rest)

abbrev pub left_behind : List (List ℕ) → Option (List ℕ) → Option Cut
left_behind messages source = option_map (λ rest. with_messages messages (cut_frames rest)) source

one_cut : CutsFirst → (messages : List (List ℕ)) (m : List ℕ) (mid new : Option (List ℕ)) → Gives m mid new → left_behind messages mid ≡ left_behind (messages ++ m ∷ []) new
one_cut law messages m None None e = refl
one_cut law messages m None (Some rest) e = cc
one_cut law messages m (Some octets) None e = cc
one_cut law messages m (Some octets) (Some rest) e =
    let first : first_frame octets ≡ Some (m, rest) = cc in
    ap (λ c. Some (with_messages messages c)) (law octets m rest first)
    ∙ ap (λ (l : List (List ℕ)). Some (record { messages = l; left = (cut_frames rest).left })) (sym (append_assoc messages (m ∷ []) (cut_frames rest).messages))

all_on : {A : Type 0} (P : A → Type 0) (xs : List A) (x : A) → AllByRecursion P xs → P x → AllByRecursion P (xs ++ x ∷ [])
all_on P [] x all p = (p, tt)
all_on P (y ∷ ys) x all p = (all.0, all_on P ys x all.1 p)

requests_on : (served : List Answered) (x : Answered) → requests_of (served ++ x ∷ []) ≡ requests_of served ++ x.request ∷ []
requests_on [] x = refl
requests_on (y ∷ served) x = ap (λ l. y.request ∷ l) (requests_on served x)

replies_on : (served : List Answered) (x : Answered) → replies_of (served ++ x ∷ []) ≡ replies_of served ++ x.replies
replies_on served x =
    flat_map-append (λ (y : Answered). y.replies) served (x ∷ [])
    ∙ ap (λ l. replies_of served ++ l) (flat_map-cons (λ (y : Answered). y.replies) x [] ∙ append-nil x.replies)

longer : (served : List Answered) (x : Answered) → length (served ++ x ∷ []) ≡ length served + 1
longer [] x = refl
longer (y ∷ served) x = omega (arith, longer served x)

pub begins : (Sends : List ℕ → Option (List Sending) → Type 0) (source sink : Option (List ℕ)) → ServedCount Sends 0 source source sink sink
begins Sends source sink = record {
  served = [];
  counted = refl;
  so_far = record { read = refl; cut = refl; answered = tt; took = nothing_more sink };
}

pub serves_on : CutsFirst → (Sends : List ℕ → Option (List Sending) → Type 0) (count : ℕ) (src_old src_mid src_new sink_old sink_mid sink_new : Option (List ℕ))
    → ServedCount Sends count src_old src_mid sink_old sink_mid → Reads (λ m. RepliesBy (Sends m) m sink_mid sink_new (Ok tt)) src_mid src_new
    → ServedCount Sends (count + 1) src_old src_new sink_old sink_new
serves_on law Sends count src_old src_mid src_new sink_old sink_mid sink_new k r =
    let x : Answered = record { request = r.request; replies = r.holds.1.messages } in
    let requests = requests_of k.served in
    record {
      served = k.served ++ x ∷ [];
      counted = longer k.served x ∙ ap (λ n. n + 1) k.counted;
      so_far = record {
        read = subst (λ l. GivesAll l src_old src_new) (sym (requests_on k.served x)) (gives_on requests r.request src_old src_mid src_new k.so_far.read r.gives);
        cut = k.so_far.cut ∙ one_cut law requests r.request src_mid src_new r.gives ∙ ap (λ l. left_behind l src_new) (sym (requests_on k.served x));
        answered = all_on (IsAnswered Sends) k.served x k.so_far.answered (r.holds.0, r.holds.1.are);
        took = frames_on sink_old sink_mid sink_new (replies_of k.served) x.replies k.so_far.took r.holds.1.took
            ∙ ap (λ l. with_more (frames_of l) sink_old) (sym (replies_on k.served x));
      };
    }
