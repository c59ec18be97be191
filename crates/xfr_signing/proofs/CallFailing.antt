-- Where the service that signs fails, by where the next service does.
use Rattle.std.proofs.Common.{◌≡◌, ◌⊎◌, inl, inr, ℕ, ◌≤◌, true, List, [], ◌∷◌, ◌++◌, length, length-take-le, length-drop, take, drop, Some, None, refl, sym, ap, ◌∙◌, arith, subst}
use Rattle.std.specs.Prelude.{slice_range, ◌-◌, Ok, Err}
use Rattle.std.proofs.lemmas.List.{append_assoc}
use Rattle.dns_name.specs.Octets.{u16_octets}
use Rattle.dns_wire.specs.Wire.{arcount_in}
use Rattle.tsig_port.specs.Tsig.{TsigKey, Signature, signature_of, compose_len}
use Rattle.tsig_port.specs.Tsig.Signature.{Malformed, Unsigned, Signed}
use Rattle.tsig_port.specs.Checked.{taken_message, taken_by}
use Rattle.xfr_services.specs.Items.{Sending, Calls, Gives, Makes}
use Rattle.xfr_services.specs.LongReplies.{fails, longest_tsig, SameButIdAndArcount, HasLongQuestions, FailsOnlyWhereLong}
use Rattle.xfr_services.specs.declared.services.ServiceError.{ServiceError}
use Rattle.xfr_services.specs.declared.services.ServiceError.TheVariants.{InternalError, Memory}
use Rattle.xfr_signing.specs.Signing.{Signer, Signs, signed_items}
use Rattle.xfr_signing.specs.SignedStreams.{SignedLeft}
use Rattle.xfr_signing.specs.declared.signing.PostprocessingState.{PostprocessingState}
use Rattle.xfr_signing.specs.declared.signing.Signing.TheVariants.{First}
use Rattle.xfr_signing.specs.declared.signing.TsigStream.TheVariants.{Signed as SignedStream}
use Rattle.xfr_signing.proofs.Failing.{Long, sends_fail}
use Rattle.xfr_signing.proofs.Received.{behind_header}

-- ---- what is taken of a request

take_front : (xs ys : List ℕ) → take (length xs) (xs ++ ys) ≡ xs
take_front [] ys = refl
take_front (x ∷ xs) ys = ap (λ zs. x ∷ zs) (take_front xs ys)

flags_and_counts : (m : List ℕ) (signature : Signature) → 12 ≤ length m → slice_range (taken_by m signature) 2 10 ≡ slice_range m 2 10
flags_and_counts m Malformed long = refl
flags_and_counts m Unsigned long = refl
flags_and_counts m (Signed start owner t) long =
    let counts = slice_range m 2 10 in
    let more = u16_octets (arcount_in m - 1) in
    let rest = drop 12 m in
    let eight : length counts ≡ 8 = length-take-le 8 (drop 2 m) (omega (arith, long, length-drop 2 m)) in
    ap (λ xs. take 8 xs) (append_assoc counts more rest) ∙ ap (λ k. take k (counts ++ (more ++ rest))) (sym eight) ∙ take_front counts (more ++ rest)

-- its id and ARCOUNT change alone
taken_same : (m : List ℕ) → 12 ≤ length m → SameButIdAndArcount (taken_message m) m
taken_same m long = (flags_and_counts m (signature_of m) long, behind_header m (signature_of m) long)

-- so what the next service can't say can't be said to the request as it came
taken_long : (m : List ℕ) → 12 ≤ length m → HasLongQuestions (taken_message m) → HasLongQuestions m
taken_long m long h =
    let same = taken_same m long in
    record { as_read = h.as_read; same = (h.same.0 ∙ same.0, h.same.1 ∙ same.1); long = h.long }

-- ---- the replies, signed

signed_long : (s : Signer) → compose_len s.key ≤ longest_tsig → Long s → HasLongQuestions s.received
signed_long s short long = record { as_read = s.received; same = (refl, refl); long = omega (arith, short, long) }

module _ {S K : Type 0} (LeftOf : S → List Sending → Type 0) (the_key : K → TsigKey) (received message : List ℕ) (header : 12 ≤ length received) (taken : message ≡ taken_message received) where
  -- what is known where the next service is handed the request
  only_long : HasLongQuestions message → HasLongQuestions received
  only_long h = taken_long received header (subst HasLongQuestions taken h)

  pub signing_fails : (stream : S) (state : PostprocessingState K) (s : Signer) → Signs the_key state s First None → s.received ≡ received → compose_len s.key ≤ longest_tsig
      → Gives (FailsOnlyWhereLong message) LeftOf stream → Calls (FailsOnlyWhereLong received) (SignedLeft LeftOf the_key) (Ok (SignedStream stream state))
  signing_fails stream state s signs is short g =
      record {
        items = signed_items s First None g.items;
        sent = λ e. by (sends_fail s (Some g.items) e);
        left = record { given = g.items; signer = s; signing = First; prior = None; left = g.left; signs = signs; signed = refl };
      }
    where
      by : (fails (Some g.items) ≡ true) ⊎ Long s → HasLongQuestions received
      by (inl failed) = only_long (g.sent failed)
      by (inr long) = subst HasLongQuestions is (signed_long s short long)

  pub handed_fails : {T : Type 0} (Left : T → List Sending → Type 0) (e : ServiceError) → Calls (FailsOnlyWhereLong message) LeftOf (Err e) → Calls (FailsOnlyWhereLong received) Left (Err e)
  handed_fails Left InternalError only = λ e. only_long (only e)
  handed_fails Left Memory only = tt

-- a refusal is given, or can't be made
pub refusing_fails : {S : Type 0} (Left : S → List Sending → Type 0) (request : List ℕ) (e : ServiceError) → (e ≡ InternalError → HasLongQuestions request) → Calls (FailsOnlyWhereLong request) Left (Err e)
refusing_fails Left request InternalError only = λ e. only refl
refusing_fails Left request Memory only = tt

-- what can always be made lacks memory alone
pub some_fails : {A S : Type 0} (x : A) (Left : S → List Sending → Type 0) (request : List ℕ) (e : ServiceError) → Makes (Some x) (Err e) → Calls (FailsOnlyWhereLong request) Left (Err e)
some_fails x Left request InternalError none = absurd (cc none)
some_fails x Left request Memory some = tt
