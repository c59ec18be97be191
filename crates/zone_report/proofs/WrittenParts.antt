-- What a sink took of what there was to write.
use Rattle.std.specs.Prelude.{◌≡◌, ◌≢◌, ℕ, List, [], take, true, false, Option, Some, None, IfSome, IsTrue}
use Rattle.std.proofs.Common.{refl, sym, ap, ◌∙◌, subst, append-nil}
use Rattle.zone_devices.specs.Streams.{with_more}
use Rattle.zone_report.specs.Notices.{is_reported}
use Rattle.zone_report.specs.ReportsWritten.{TookFirst, Wrote}
use Rattle.zone_report.specs.declared.status.Status.{Status}
use Rattle.zone_report.specs.declared.status.Status.TheVariants as ends

-- a report that was written whole
pub not_sink : (s : Status) → IsTrue (is_reported s) → s ≢ ends.SinkFault
not_sink s h e = let clash : false ≡ true = ap is_reported (sym e) ∙ h in absurd cc

pub with_nothing : (had : Option (List ℕ)) → had ≡ with_more [] had
with_nothing None = refl
with_nothing (Some xs) = ap Some (sym (append-nil xs))

-- what is due of a text that a source had
pub along : (left : Option (List ℕ)) (text t : List ℕ) → IfSome left (λ had. text ≡ had) → t ≡ text → IfSome left (λ had. t ≡ had)
along None text t e f = tt
along (Some had) text t e f = f ∙ e

-- a first part of octets that are due
pub first_part : (Holds : List ℕ → Status → Type 0) (octets : List ℕ) (s : Status) (old new : Option (List ℕ)) → Holds octets s → ((n : ℕ) × (new ≡ with_more (take n octets) old)) → TookFirst Holds old new
first_part Holds octets s old new due (n, taken) = record { octets = octets; status = s; count = n; due = due; taken = taken }

-- what was written whole, or a first part of it
pub wrote_last : (Holds : List ℕ → Status → Type 0) (octets : List ℕ) (s r : Status) (old new : Option (List ℕ)) → Holds octets s → (r ≢ ends.SinkFault → r ≡ s) → (r ≢ ends.SinkFault → new ≡ with_more octets old)
    → ((n : ℕ) × (new ≡ with_more (take n octets) old)) → Wrote Holds old new r
wrote_last Holds octets s r old new due done written part = record {
  whole = λ well. record { octets = octets; due = subst (λ (t : Status). Holds octets t) (sym (done well)) due; taken = written well };
  part = λ failed. first_part Holds octets s old new due part;
}

-- nothing was written, as memory ran out
pub wrote_nothing : (Holds : List ℕ → Status → Type 0) (old new : Option (List ℕ)) → Holds [] ends.Memory → new ≡ old → Wrote Holds old new ends.Memory
wrote_nothing Holds old new due same = record {
  whole = λ well. record { octets = []; due = due; taken = same ∙ with_nothing old };
  part = λ failed. cc;
}

-- what was read of a source that tells its octets is what it told
pub is_told : (left : Option (List ℕ)) (text items t : List ℕ) → left ≡ Some text → IfSome left (λ had. items ≡ had) → t ≡ items → t ≡ text
is_told left text items t had all value = value ∙ subst (λ (l : Option (List ℕ)). IfSome l (λ had. items ≡ had)) had all
