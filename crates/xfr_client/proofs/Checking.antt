-- The signature of a reply.
use Rattle.std.proofs.Common.{◌≡◌, ℕ, ◌≤◌, true, List, [], ◌∷◌, ◌++◌, length, sym, ap, ◌∙◌, subst, le-leb, Option, Some, None, Ok, Err}
use Rattle.tsig_port.specs.Tsig.{TsigKey}
use Rattle.tsig_port.specs.Checked.{answer_fault, taken_message}
use Rattle.tsig_port.specs.States.{ClientStands, Answers}
use Rattle.tsig_port.specs.declared.client.ClientSequence.{ClientSequence}
use Rattle.tsig_port.specs.declared.errors.ValidationError.{ValidationError}
use Rattle.xfr_course.specs.Courses.{has_header}
use Rattle.xfr_client.specs.SoFar.{Asking, asked_mac, fault_so_far}
use Rattle.xfr_client.specs.Replies.{ChecksReply}

-- the tests of the sequence are those of the request
same_fault : (a : Asking) (taken : List (List ℕ)) (m message : List ℕ) (key : TsigKey) (at : ℕ) (f : Option ValidationError) → key ≡ a.key → a.at ≡ at → message ≡ m
    → answer_fault key (asked_mac a) at taken message ≡ f → fault_so_far a taken m ≡ f
unfolding fault_so_far
same_fault a taken m message key at f k t e h =
    ap (λ x. answer_fault a.key (asked_mac a) a.at taken x) (sym e) ∙ ap (λ x. answer_fault x (asked_mac a) a.at taken message) (sym k) ∙ ap (λ x. answer_fault key (asked_mac a) x taken message) t ∙ h

pub headed : (m : List ℕ) → 12 ≤ length m → has_header m ≡ true
headed m h = le-leb 12 (length m) h

pub answer_refused : (a : Asking) (taken : List (List ℕ)) (m message left : List ℕ) (key : TsigKey) (at : ℕ) (e : ValidationError) → key ≡ a.key → a.at ≡ at → message ≡ m → 12 ≤ length m
    → Answers key (asked_mac a) at taken message (Err e) left → (has_header m ≡ true) × (fault_so_far a taken m ≡ Some e)
answer_refused a taken m message left key at e k t is long x = (headed m long, same_fault a taken m message key at (Some e) k t is x.0)

pub answer_checked : (a : Asking) (taken : List (List ℕ)) (m message left : List ℕ) (key : TsigKey) (at : ℕ) (s : ClientSequence TsigKey) → key ≡ a.key → a.at ≡ at → message ≡ m → 12 ≤ length m
    → Answers key (asked_mac a) at taken message (Ok tt) left → s.key ≡ key → ClientStands (λ k. k) s (asked_mac a) (taken ++ message ∷ []) → ChecksReply a taken m left s
answer_checked a taken m message left key at s k t is long x same stands = record {
  headed = headed m long;
  sound = same_fault a taken m message key at None k t is x.0;
  loses = x.1 ∙ ap taken_message is;
  key = same ∙ k;
  stands = subst (λ y. ClientStands (λ k. k) s (asked_mac a) (taken ++ y ∷ [])) is stands;
}
