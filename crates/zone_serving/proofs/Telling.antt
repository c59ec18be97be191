-- What the end of a stream tells of all its octets.
use Rattle.std.proofs.Common.{◌≡◌, ◌≢◌, ◌⊎◌, ℕ, ◌≤◌, true, false, List, [], ◌∷◌, ◌++◌, length, append-nil, refl, sym, ap, ◌∙◌, subst, arith, inl, inr, Option, Some, None, option_map, IfSome, Result, Ok, Err}
use Rattle.std.specs.List.{AllByRecursion}
use Rattle.zone_devices.specs.Streams.{emptied}
use Rattle.message_frames.specs.Frames.{Cut, first_frame, cut_frames}
use Rattle.message_frames.specs.Passing.{Gives, IsCutOff}
use Rattle.xfr_services.specs.Items.{Sending}
use Rattle.xfr_signing.specs.Failing.{fails}
use Rattle.zone_serving.specs.StreamServing.{requests_of, SendsJust, TakesFrames, with_messages, ServesStream}
use Rattle.zone_serving.specs.WholeStreams.{CanBeServed, EndsWell, ServesToEnd, ServesToShort}
use Rattle.zone_serving.specs.declared.errors.ServeError.{ServeError}
use Rattle.zone_serving.specs.declared.errors.ServeError.TheVariants as why
use Rattle.zone_serving.specs.declared.serving.Served.{Served}
use Rattle.zone_serving.proofs.Stepping.{CutsFirst, left_behind}

-- octets without a whole frame are left as they are
abbrev pub CutsNone : Type 0
CutsNone = (octets : List ℕ) → first_frame octets ≡ None → cut_frames octets ≡ record { messages = []; left = octets }

of_some : (octets : List ℕ) (messages : List (List ℕ)) (rest : List ℕ) → option_map cut_frames (Some octets) ≡ left_behind messages (Some rest)
    → cut_frames octets ≡ with_messages messages (cut_frames rest)
of_some octets messages rest e = cc

none_behind : (messages : List (List ℕ)) (left : List ℕ) → ◌≡◌ {A = Cut} (record { messages = messages ++ []; left = left }) (record { messages = messages; left = left })
none_behind messages left = ap (λ (l : List (List ℕ)). record { messages = l; left = left }) (append-nil messages)

-- ---- to the end

record AtEnd (octets : List ℕ) (messages : List (List ℕ)) (left : List ℕ) (source : Option (List ℕ)) : Type 0 where
  cut : cut_frames octets ≡ record { messages = messages; left = left }
  is : source ≡ Some left

at_end : (octets : List ℕ) (messages : List (List ℕ)) (source : Option (List ℕ)) → option_map cut_frames (Some octets) ≡ left_behind messages source
    → IfSome source (λ left. left ≡ []) → AtEnd octets messages [] source
at_end octets messages None e h = cc
at_end octets messages (Some rest) e h = record {
  cut = of_some octets messages rest e ∙ ap (λ r. with_messages messages (cut_frames r)) h ∙ none_behind messages [];
  is = ap Some h;
}

pub whole : (Sends : List ℕ → Option (List Sending) → Type 0) (octets : List ℕ) (src_new sink_old sink_new : Option (List ℕ)) (s : Served)
    → ServesStream Sends (Some octets) src_new sink_old sink_new (Ok s) → ServesToEnd Sends octets [] s.requests src_new sink_old sink_new
whole Sends octets src_new sink_old sink_new s k =
    let at = at_end octets (requests_of k.served) k.source k.so_far.cut k.ends.1.ended in
    record {
      served = k.served;
      cut = at.cut;
      answered = k.so_far.answered;
      took = k.ends.1.unwritten ∙ k.so_far.took;
      count_is = sym k.ends.0;
      emptied = k.ends.1.unread ∙ at.is;
    }

-- ---- within a frame

record AtCut (octets : List ℕ) (messages : List (List ℕ)) (source : Option (List ℕ)) : Type 0 where
  left : List ℕ
  some : left ≢ []
  at : AtEnd octets messages left source

at_cut : CutsNone → (octets : List ℕ) (messages : List (List ℕ)) (source : Option (List ℕ)) → option_map cut_frames (Some octets) ≡ left_behind messages source
    → IfSome source IsCutOff → AtCut octets messages source
at_cut law octets messages None e h = cc
at_cut law octets messages (Some rest) e h = record {
  left = rest;
  some = h.0;
  at = record {
    cut = of_some octets messages rest e ∙ ap (λ c. with_messages messages c) (law rest h.1) ∙ none_behind messages rest;
    is = refl;
  };
}

pub cut : CutsNone → (Sends : List ℕ → Option (List Sending) → Type 0) (octets : List ℕ) (src_new sink_old sink_new : Option (List ℕ))
    → ServesStream Sends (Some octets) src_new sink_old sink_new (Err why.Cut)
    → (left : List ℕ) × (count : ℕ) × (left ≢ []) × ServesToEnd Sends octets left count src_new sink_old sink_new
cut law Sends octets src_new sink_old sink_new k =
    let a = at_cut law octets (requests_of k.served) k.source k.so_far.cut k.ends.0 in (
      a.left,
      length k.served,
      a.some,
      record {
        served = k.served;
        cut = a.at.cut;
        answered = k.so_far.answered;
        took = k.ends.2 ∙ k.so_far.took;
        count_is = refl;
        emptied = k.ends.1 ∙ ap emptied a.at.is;
      },
    )

-- ---- a message without a header

record Behind (octets : List ℕ) (messages : List (List ℕ)) (m : List ℕ) : Type 0 where
  more : List (List ℕ)
  cut : (cut_frames octets).messages ≡ messages ++ m ∷ more

behind : CutsFirst → (octets : List ℕ) (messages : List (List ℕ)) (m : List ℕ) (source new : Option (List ℕ))
    → option_map cut_frames (Some octets) ≡ left_behind messages source → Gives m source new → Behind octets messages m
behind law octets messages m None new e g = cc
behind law octets messages m (Some rest) None e g = cc
behind law octets messages m (Some rest) (Some after) e g =
    let first : first_frame rest ≡ Some (m, after) = cc in
    record {
      more = (cut_frames after).messages;
      cut = ap (λ c. c.messages) (of_some octets messages rest e ∙ ap (λ c. with_messages messages c) (law rest m after first));
    }

pub short : CutsFirst → (Sends : List ℕ → Option (List Sending) → Type 0) (octets : List ℕ) (src_new sink_old sink_new : Option (List ℕ))
    → ServesStream Sends (Some octets) src_new sink_old sink_new (Err why.Short) → ServesToShort Sends octets sink_old sink_new
short law Sends octets src_new sink_old sink_new k =
    let b = behind law octets (requests_of k.served) k.ends.request k.source src_new k.so_far.cut k.ends.gives in
    record {
      served = k.served;
      message = k.ends.request;
      more = b.more;
      cut = b.cut;
      short = k.ends.holds.0;
      answered = k.so_far.answered;
      took = k.ends.holds.1 ∙ k.so_far.took;
    }

-- ---- nothing else

all_at : {A : Type 0} (P : A → Type 0) (xs : List A) (x : A) (more : List A) → AllByRecursion P (xs ++ x ∷ more) → P x
all_at P [] x more all = all.0
all_at P (y ∷ ys) x more all = all_at P ys x more all.1

never_fails : (Sends : Option (List Sending) → Type 0) (old new : Option (List ℕ)) → ((sent : Option (List Sending)) → Sends sent → fails sent ≡ false)
    → (Sends None × (new ≡ old)) ⊎ TakesFrames (SendsJust Sends true) old new → ⊥
never_fails Sends old new all (inl k) = let e = all None k.0 in cc
never_fails Sends old new all (inr k) = let e = all (Some k.are.items) k.are.sends in let f = ap (λ s. s.fails) k.are.just in cc

pub served_well : CutsFirst → CutsNone → (Sends : List ℕ → Option (List Sending) → Type 0) (octets : List ℕ) (src_new sink_old sink_new : Option (List ℕ)) (answer : Result Served ServeError)
    → ServesStream Sends (Some octets) src_new sink_old sink_new answer → CanBeServed Sends octets → answer ≢ Err why.SourceFault → answer ≢ Err why.SinkFault
    → EndsWell answer
served_well some none Sends octets src_new sink_old sink_new (Ok s) k can source sink = inl (s, refl)
served_well some none Sends octets src_new sink_old sink_new (Err why.Memory) k can source sink = inr (inl refl)
served_well some none Sends octets src_new sink_old sink_new (Err why.TooMany) k can source sink = inr (inr refl)
served_well some none Sends octets src_new sink_old sink_new (Err why.SourceFault) k can source sink = absurd (source refl)
served_well some none Sends octets src_new sink_old sink_new (Err why.SinkFault) k can source sink = absurd (sink refl)
served_well some none Sends octets src_new sink_old sink_new (Err why.Cut) k can source sink =
    let c = cut none Sends octets src_new sink_old sink_new k in
    absurd (c.2 (sym (ap (λ x. x.left) c.3.cut) ∙ can.whole))
served_well some none Sends octets src_new sink_old sink_new (Err why.Short) k can source sink =
    let s = short some Sends octets src_new sink_old sink_new k in
    let header = all_at (λ m. 12 ≤ length m) (requests_of s.served) s.message s.more (subst (λ l. AllByRecursion (λ m. 12 ≤ length m) l) s.cut can.headers) in
    absurd (omega (arith, header, s.short))
served_well some none Sends octets src_new sink_old sink_new (Err why.NoReply) k can source sink =
    let b = behind some octets (requests_of k.served) k.ends.request k.source src_new k.so_far.cut k.ends.gives in
    let P : List ℕ → Type 0 = λ m. (sent : Option (List Sending)) → Sends m sent → fails sent ≡ false in
    let all = all_at P (requests_of k.served) k.ends.request b.more (subst (λ l. AllByRecursion P l) b.cut can.replies) in
    absurd (never_fails (Sends k.ends.request) k.sink sink_new all k.ends.holds.1)
