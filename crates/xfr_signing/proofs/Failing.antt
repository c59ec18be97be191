-- Where no reply can be made.
use Rattle.std.proofs.Common.{◌≡◌, ◌⊎◌, inl, inr, ℕ, ◌+◌, ◌≤◌, ◌<◌, Bool, true, false, ◌&&◌, not, cond, List, [], ◌∷◌, length, Option, Some, None, refl, sym, ap, ◌∙◌, arith}
use Rattle.std.specs.Prelude.{◌==◌, option_map}
use Rattle.dns_wire.specs.Wire.{Building, arcount_in, fits}
use Rattle.tsig_port.specs.Tsig.{TsigKey, compose_len}
use Rattle.tsig_port.specs.ServerCheck.{Keys, Verdict, verdict, reply_to}
use Rattle.tsig_port.specs.ServerCheck.Verdict.{NoTsig, Accepted, Refused, BadTime}
use Rattle.xfr_services.specs.Items.{Sending, sent_by, all_given, one_reply}
use Rattle.xfr_services.specs.Items.Sending.{Given, Failed}
use Rattle.xfr_services.specs.Requests.{with_metadata}
use Rattle.xfr_signing.specs.Signing.{Signer, begun, is_due, step_item, step_reply, signed_step, as_it_is, signed_items, signed_reply, can_be_signed, short_reply, short_to_sign, to_sign}
use Rattle.xfr_signing.specs.SignedServing.{SendsSigned, SendsBy, SendsChecked, signer_for, accepted_request, refusal_sends}
use Rattle.xfr_signing.specs.Failing.{fails, bare_len, FailsWhereLong, IsTooLong}
use Rattle.xfr_services.specs.declared.requests.Request.{Request}
use Rattle.xfr_services.specs.declared.services.ServiceFeedback.{ServiceFeedback}
use Rattle.xfr_signing.specs.declared.signing.Signing.{Signing}
use Rattle.xfr_signing.specs.declared.signing.Signing.TheVariants.{First}
use Rattle.xfr_services.proofs.LongReplies.{too_long}
pub use Rattle.xfr_services.proofs.LongReplies.{errors_fail}
use Rattle.xfr_signing.proofs.Room.{signed_length-le}

-- ---- the truncated reply that stands for one without room

-- the truncated reply of a request with its TSIG passes 65,535 octets
abbrev pub Long : Signer → Type 0
Long s = 65535 < bare_len s.received + compose_len s.key

header_there : (s : Signer) → 12 ≤ length (short_reply s)
header_there s = omega arith

none_additional : (s : Signer) → arcount_in (short_reply s) ≡ 0
none_additional s = refl

short_length : (s : Signer) → length (short_reply s) ≡ bare_len s.received
short_length s = refl

long_bare : (s : Signer) → fits 65535 (short_reply s) ≡ false → Long s
long_bare s e = omega (arith, too_long (short_reply s) e, short_length s)

long_signed : (s : Signer) (prior : Option (List ℕ)) → fits 65535 (signed_reply s prior (short_reply s)) ≡ false → Long s
long_signed s prior e =
    omega (arith, too_long (signed_reply s prior (short_reply s)) e, short_length s, signed_length-le s.key s.request_mac prior (short_reply s) s.at 300 (header_there s))

unsigned_by : (s : Signer) (prior : Option (List ℕ)) (fit : Bool) → fits 65535 (signed_reply s prior (short_reply s)) ≡ fit → (fit && not (arcount_in (short_reply s) == 65535)) ≡ false → Long s
unsigned_by s prior true is e = cc
unsigned_by s prior false is e = long_signed s prior is

short_by : (s : Signer) (prior : Option (List ℕ)) (fit can : Bool) → fits 65535 (short_reply s) ≡ fit → can_be_signed s prior (short_reply s) ≡ can
    → cond (fit && can) (Some (short_reply s)) None ≡ None → Long s
short_by s prior true true is could e = cc
short_by s prior true false is could e = unsigned_by s prior (fits 65535 (signed_reply s prior (short_reply s))) refl could
short_by s prior false can is could e = long_bare s is

sign_by : (s : Signer) (prior : Option (List ℕ)) (message : List ℕ) (can : Bool) → cond can (Some message) (short_to_sign s prior) ≡ None → short_to_sign s prior ≡ None
sign_by s prior message true e = cc
sign_by s prior message false e = e

-- nothing can be signed in place of a reply
none_to_sign : (s : Signer) (prior : Option (List ℕ)) (message : List ℕ) → to_sign s prior message ≡ None → Long s
none_to_sign s prior message e =
    short_by s prior (fits 65535 (short_reply s)) (can_be_signed s prior (short_reply s)) refl refl (sign_by s prior message (can_be_signed s prior message) e)

-- ---- the items

due_by : (s : Signer) (signing : Signing) (prior : Option (List ℕ)) (feedback : Option ServiceFeedback) (reply : Building) (due : Bool) (message : Option (List ℕ))
    → to_sign s prior reply.octets ≡ message
    → (cond due (signed_step s signing prior feedback message) (as_it_is signing prior (record { response = Some reply; feedback = feedback }))).sending ≡ Failed → Long s
due_by s signing prior feedback reply true None is e = none_to_sign s prior reply.octets is
due_by s signing prior feedback reply true (Some message) is e = cc
due_by s signing prior feedback reply false message is e = cc

reply_fails : (s : Signer) (signing : Signing) (prior : Option (List ℕ)) (feedback : Option ServiceFeedback) (response : Option Building)
    → (step_reply s signing prior feedback response).sending ≡ Failed → Long s
reply_fails s signing prior feedback None e = cc
reply_fails s signing prior feedback (Some reply) e = due_by s signing prior feedback reply (is_due signing) (to_sign s prior reply.octets) refl e

signed_fail : (s : Signer) (signing : Signing) (prior : Option (List ℕ)) (given : List Sending) → (sent_by (signed_items s signing prior given)).fails ≡ true
    → ((sent_by given).fails ≡ true) ⊎ Long s
signed_fail s signing prior [] e = cc
signed_fail s signing prior (Failed ∷ more) e = inl refl
signed_fail s signing prior (Given item ∷ more) e =
    let step = step_item s signing prior item in
    by step.sending refl e (signed_fail s step.signing step.prior more)
  where
    by : (x : Sending) → (step_item s signing prior item).sending ≡ x
        → (sent_by (x ∷ signed_items s (step_item s signing prior item).signing (step_item s signing prior item).prior more)).fails ≡ true
        → ((sent_by (signed_items s (step_item s signing prior item).signing (step_item s signing prior item).prior more)).fails ≡ true → ((sent_by more).fails ≡ true) ⊎ Long s)
        → ((sent_by more).fails ≡ true) ⊎ Long s
    by Failed is e later = inr (reply_fails s (begun signing item.feedback) prior item.feedback item.response is)
    by (Given signed) is e later = later e

pub sends_fail : (s : Signer) (given : Option (List Sending)) → fails (option_map (signed_items s First None) given) ≡ true → (fails given ≡ true) ⊎ Long s
sends_fail s None e = inl refl
sends_fail s (Some given) e = signed_fail s First None given e

-- ---- the services

built_fails : (octets : List ℕ) (fit : Bool) → fits 65535 octets ≡ fit
    → fails (option_map (λ reply. all_given (one_reply reply)) (cond fit (Some (record { octets = octets; limit = 65535 })) None)) ≡ true → 65535 < length octets
built_fails octets true is e = cc
built_fails octets false is e = too_long octets is

refusal_fails : {M : Type 0} (r : Request M) (found : Verdict) → fails (refusal_sends r found) ≡ true → 65535 < length (reply_to found r.message r.message r.at)
refusal_fails r found e =
    let reply = reply_to found r.message r.message r.at in
    built_fails reply (fits 65535 reply) refl e

module _ {M K : Type 0} (the_key : K → TsigKey) (keys : Keys) (Next : Request (Option K) → Option (List Sending) → Type 0) (next : FailsWhereLong Next) (r : Request M) (sent : Option (List Sending)) where
  signing_fails : (key : TsigKey) → SendsSigned the_key keys Next r key sent → fails sent ≡ true → IsTooLong r (Accepted key)
  signing_fails key g e = by (sends_fail (signer_for r key) g.given (ap fails (sym g.signed) ∙ e))
    where
      by : (fails g.given ≡ true) ⊎ Long (signer_for r key) → IsTooLong r (Accepted key)
      by (inl failed) = inr (next (accepted_request r key g.known) g.given g.next failed)
      by (inr long) = inl long

  found_fails : (found : Verdict) → SendsBy the_key keys Next r sent found → fails sent ≡ true → IsTooLong r found
  found_fails NoTsig g e = next (with_metadata r None) sent g e
  found_fails (Accepted key) g e = signing_fails key g e
  found_fails (Refused error) g e = refusal_fails r (Refused error) (ap fails (sym g) ∙ e)
  found_fails (BadTime key) g e = refusal_fails r (BadTime key) (ap fails (sym g) ∙ e)

  pub checked_fails : SendsChecked the_key keys Next r sent → fails sent ≡ true → IsTooLong r (verdict keys r.at r.message)
  checked_fails g e = found_fails (verdict keys r.at r.message) g e
