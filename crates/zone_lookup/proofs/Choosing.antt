-- The first message within the limit.
use Rattle.std.proofs.Common.{◌≡◌, ℕ, Bool, true, false, List, [], ◌∷◌, length, map, refl, sym, ap, ◌∙◌, subst}
use Rattle.std.specs.Prelude.{Option, Some, None, option_map, unwrap_or, Ok, Err}
use Rattle.std.proofs.lemmas.List.{append-nil}
use Rattle.dns_wire.specs.Wire.{Building, Question, Message, message_wire, fits}
use Rattle.dns_wire.specs.Reply.{answer_with, error_answer}
use Rattle.dns_wire.specs.Builds.{Builds, building}
use Rattle.dns_wire.specs.declared.builder.PushError.{PushError}
use Rattle.dns_wire.specs.declared.builder.PushError.TheVariants.{ShortBuf}
use Rattle.zone_lookup.specs.Replies.{Reply}
use Rattle.zone_lookup.specs.declared.sending.Extent.{Extent}
use Rattle.zone_lookup.specs.Sending.{answers_of, authority_of, required_of, reply_with, whole_reply, cut_replies, replies_to, reply_to_extent, refusal, refusal_message, first_within, first_or_header, built_first, Tried}

abbrev pub extent : Bool → Bool → Bool → Bool → Extent
extent answers authority required discardable = record { answers = answers; authority = authority; required = required; discardable = discardable }

-- ---- of a list

pub first_is : (limit : ℕ) (m : Message) (ms : List Message) → fits limit (message_wire m) ≡ true → first_within limit (m ∷ ms) ≡ Some m
first_is limit m ms fit = rw fit refl

pub first_later : (limit : ℕ) (m : Message) (ms : List Message) → fits limit (message_wire m) ≡ false → first_within limit (m ∷ ms) ≡ first_within limit ms
first_later limit m ms out = rw out refl

-- ---- or a header alone

pub chosen : (limit : ℕ) (request : List ℕ) (rcode : ℕ) (m : Message) (ms : List Message) → fits limit (message_wire m) ≡ true → first_or_header limit request rcode (m ∷ ms) ≡ m
chosen limit request rcode m ms fit = ap (λ o. unwrap_or o (answer_with request rcode [])) (first_is limit m ms fit)

pub not_chosen : (limit : ℕ) (request : List ℕ) (rcode : ℕ) (m : Message) → fits limit (message_wire m) ≡ false → first_or_header limit request rcode (m ∷ []) ≡ answer_with request rcode []
not_chosen limit request rcode m out = ap (λ o. unwrap_or o (answer_with request rcode [])) (first_later limit m [] out)

-- ---- one after another

pub tried_first : (limit : ℕ) (m : Message) (ms : List Message) (found : Option Building) (b : Building) → found ≡ Some b
    → Tried (message_wire m) limit found → Some b ≡ built_first limit (m ∷ ms)
tried_first limit m ms found b is tried =
    let P : Option Building → Type 0 = λ o. Tried (message_wire m) limit o in
    let there = subst P is tried in
    ap Some there.1 ∙ sym (ap (option_map (λ (x : Message). building (message_wire x) limit)) (first_is limit m ms there.0))

pub tried_later : (limit : ℕ) (m : Message) (ms : List Message) (found later : Option Building) → found ≡ None
    → Tried (message_wire m) limit found → later ≡ built_first limit ms → later ≡ built_first limit (m ∷ ms)
tried_later limit m ms found later none tried is =
    let P : Option Building → Type 0 = λ o. Tried (message_wire m) limit o in
    is ∙ sym (ap (option_map (λ (x : Message). building (message_wire x) limit)) (first_later limit m ms (subst P none tried)))

-- .. over what is left of a table of them
pub row_built : {E : Type 0} (f : E → Message) (limit : ℕ) (rest behind : List E) (x : E) (found : Option Building) (b : Building) → rest ≡ x ∷ behind → found ≡ Some b
    → Tried (message_wire (f x)) limit found → Some b ≡ built_first limit (map f rest)
row_built f limit rest behind x found b split is tried =
    tried_first limit (f x) (map f behind) found b is tried ∙ sym (ap (λ xs. built_first limit (map f xs)) split)

pub row_refused : {E : Type 0} (f : E → Message) (limit : ℕ) (rest behind : List E) (x : E) (found : Option Building) → rest ≡ x ∷ behind → found ≡ None
    → Tried (message_wire (f x)) limit found → built_first limit (map f behind) ≡ built_first limit (map f rest)
row_refused f limit rest behind x found split none tried =
    tried_later limit (f x) (map f behind) found (built_first limit (map f behind)) none tried refl ∙ sym (ap (λ xs. built_first limit (map f xs)) split)

pub no_rows : {E : Type 0} (f : E → Message) (limit : ℕ) (rest : List E) → length rest ≡ 0 → None ≡ built_first limit (map f rest)
no_rows f limit [] none = refl
no_rows f limit (x ∷ xs) none = cc

-- the table of an answer's replies
pub rows_are : (request : List ℕ) (a : Reply) (q : Question) (extents : List Extent)
    → extents ≡ extent true true true true ∷ extent true true true false ∷ extent true true false false ∷ extent true false false false ∷ extent false false false false ∷ []
    → map (reply_to_extent request a q) extents ≡ replies_to request a q
rows_are request a q extents is =
    ap (map (reply_to_extent request a q)) is
    ∙ ap (λ rs. whole_reply request a q ∷ reply_with request a false (answers_of q a) (authority_of q a) rs ∷ cut_replies request a q) (append-nil (required_of a))

pub header_or : (limit : ℕ) (request : List ℕ) (rcode : ℕ) (messages : List Message) (b : Building) → Some b ≡ built_first limit messages
    → b ≡ building (message_wire (first_or_header limit request rcode messages)) limit
header_or limit request rcode messages b is = found_in limit request rcode (first_within limit messages) b is
  where
    found_in : (limit : ℕ) (request : List ℕ) (rcode : ℕ) (first : Option Message) (b : Building) → Some b ≡ option_map (λ m. building (message_wire m) limit) first
        → b ≡ building (message_wire (unwrap_or first (answer_with request rcode []))) limit
    found_in limit request rcode (Some m) b is = cc
    found_in limit request rcode None b is = cc

pub header_if_none : (limit : ℕ) (request : List ℕ) (rcode : ℕ) (messages : List Message) → None ≡ built_first limit messages
    → answer_with request rcode [] ≡ first_or_header limit request rcode messages
header_if_none limit request rcode messages is = none_in limit request rcode (first_within limit messages) is
  where
    none_in : (limit : ℕ) (request : List ℕ) (rcode : ℕ) (first : Option Message) → None ≡ option_map (λ m. building (message_wire m) limit) first
        → answer_with request rcode [] ≡ unwrap_or first (answer_with request rcode [])
    none_in limit request rcode (Some m) is = cc
    none_in limit request rcode None is = refl

-- ---- the reply to a request without one question that can be read

pub short_told : (octets : List ℕ) (limit : ℕ) (e : PushError) → e ≡ ShortBuf → Builds octets limit (Err e) → fits limit octets ≡ false
short_told octets limit e is built =
    let P : PushError → Type 0 = λ x. Builds octets limit (Err x) in
    subst P is built

pub refusal_built : (limit bound rcode : ℕ) (request : List ℕ) (section reply : Building) → bound ≡ limit → rcode ≡ refusal request → reply ≡ section
    → Builds (message_wire (error_answer bound request rcode)) bound (Ok section) → reply ≡ building (message_wire (refusal_message limit request)) limit
refusal_built limit bound rcode request section reply limit_is rcode_is same built =
    let P : ℕ → Type 0 = λ l. Builds (message_wire (error_answer l request rcode)) l (Ok section) in
    let Q : ℕ → Type 0 = λ r. Builds (message_wire (error_answer limit request r)) limit (Ok section) in
    let there = subst Q rcode_is (subst P limit_is built) in
    same ∙ there.1 ∙ ap (λ m. building (message_wire m) limit) (sym (chosen limit request (refusal request) (error_answer limit request (refusal request)) [] there.0))

pub refusal_short : (limit bound rcode : ℕ) (request : List ℕ) → bound ≡ limit → rcode ≡ refusal request
    → fits bound (message_wire (error_answer bound request rcode)) ≡ false → answer_with request rcode [] ≡ refusal_message limit request
refusal_short limit bound rcode request limit_is rcode_is short =
    let P : ℕ → Type 0 = λ l. fits l (message_wire (error_answer l request rcode)) ≡ false in
    let Q : ℕ → Type 0 = λ r. fits limit (message_wire (error_answer limit request r)) ≡ false in
    let there = subst Q rcode_is (subst P limit_is short) in
    ap (λ r. answer_with request r []) rcode_is ∙ sym (not_chosen limit request (refusal request) (error_answer limit request (refusal request)) there)
