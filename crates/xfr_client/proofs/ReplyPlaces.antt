-- Where a transfer stands between messages, and what a reply to it says.
use Rattle.std.proofs.Common.{◌≡◌, ℕ, Bool, true, false, not, ◌&&◌, if◌then◌else◌, List, [], ◌∷◌, map, refl, sym, ap, ◌∙◌, ◌⊎◌, inl, inr, Option, Some, None, is_some}
use Rattle.std.proofs.Math.Bool.{and-false}
use Rattle.dns_rdata.specs.Records.{Record}
use Rattle.dns_rdata.specs.Soa.{serial_of}
use Rattle.dns_wire.specs.Wire.{Question}
use Rattle.zone_model.specs.TransferText.{Mode, Axfr, Ixfr}
use Rattle.xfr_model.specs.Messages.{ReadMessage, type_of}
use Rattle.xfr_model.specs.Read.{record_item, request_fault}
use Rattle.xfr_model.specs.Interpreter.{mode_asked}
use Rattle.xfr_model.specs.Machine.{Place, AtStart, AtSecond, InWhole, InDeletes, InAdds, AtEnd, is_at_end, Run, step, run_items, signal_of}
use Rattle.xfr_model.proofs.FinerSteps.{names_mode}
use Rattle.xfr_model.proofs.Readers.{is_past, second_past, items_past, no_signal}
use Rattle.xfr_client.specs.Places.{is_at_second, first_serial}
use Rattle.xfr_client.specs.Rest.{asks_again}
use Rattle.xfr_client.proofs.Places.{is_begun, any_mode}
use Rattle.xfr_course.specs.Client.{IsBetween}
use Rattle.xfr_course.proofs.Between.{BeginsSoa, first_begins}

-- between messages the end wasn't read, and after a first one the first record was
pub way_open : (begun : Bool) (p : Place) (mode : Mode) → IsBetween begun p mode → is_at_end p ≡ false
way_open true AtStart mode w = refl
way_open true (AtSecond s) mode w = refl
way_open true (InWhole s) mode w = refl
way_open true (InDeletes s) mode w = refl
way_open true (InAdds s) mode w = refl
way_open true AtEnd mode w = absurd w
way_open false AtStart mode w = refl
way_open false (AtSecond s) mode w = refl
way_open false (InWhole s) mode w = refl
way_open false (InDeletes s) mode w = refl
way_open false (InAdds s) mode w = refl
way_open false AtEnd mode w = absurd w

way_begun : (p : Place) (mode : Mode) → IsBetween true p mode → is_begun p ≡ true
way_begun AtStart mode w = absurd w
way_begun (AtSecond s) mode w = refl
way_begun (InWhole s) mode w = refl
way_begun (InDeletes s) mode w = refl
way_begun (InAdds s) mode w = refl
way_begun AtEnd mode w = refl

-- the mode that a reply names is the one that was asked for, and later it decides nothing
pub mode_run : (mode : Mode) (id : ℕ) (q : Question) (begun : Bool) (p : Place) (m : ReadMessage) → q.qtype ≡ type_of mode → IsBetween begun p mode → request_fault id q (not begun) m ≡ None
    → run_items (mode_asked m.questions) p (map record_item m.answers) ≡ run_items mode p (map record_item m.answers)
mode_run mode id q true p m t w h =
    let b = way_begun p mode w in
    any_mode (mode_asked m.questions) (map record_item m.answers) p b ∙ sym (any_mode mode (map record_item m.answers) p b)
mode_run mode id q false p m t w h = ap (λ x. run_items x p (map record_item m.answers)) (names_mode mode id q m [] t h)

-- ---- the retry signal

-- no other way of transfer is asked for, or it is, by an SOA alone in reply to an incremental question
pub record NoSignal (begun : Bool) (r : Run) : Type 0 where
  pub told : asks_again (not begun) r ≡ false
  pub none : signal_of begun r ≡ None

pub record HasSignal (mode : Mode) (begun : Bool) (r : Run) : Type 0 where
  pub told : asks_again (not begun) r ≡ true
  pub serial : ℕ
  pub signal : signal_of begun r ≡ Some serial
  pub found : first_serial r.place ≡ Some serial
  pub asked : mode ≡ Ixfr

abbrev pub Signals : Mode → Bool → Run → Type 0
Signals mode begun r = NoSignal begun r ⊎ HasSignal mode begun r

past_second : (p : Place) → is_past p ≡ true → is_at_second p ≡ false
past_second AtStart h = refl
past_second (AtSecond s) h = absurd (cc h)
past_second (InWhole s) h = refl
past_second (InDeletes s) h = refl
past_second (InAdds s) h = refl
past_second AtEnd h = refl

past_none : (r : Run) → is_past r.place ≡ true → NoSignal false r
past_none r h = record {
  told = ap (λ b. true && not (is_some r.fault) && b) (past_second r.place h) ∙ and-false (true && not (is_some r.fault));
  none = no_signal r h;
}

-- of a first message
first_signals : (mode : Mode) (answers : List (Option Record)) → BeginsSoa answers → Signals mode false (run_items mode AtStart (map record_item answers))
first_signals mode [] h = absurd h
first_signals mode (None ∷ more) h = absurd h
first_signals Axfr (Some s ∷ others) h = inl (past_none (run_items Axfr AtStart (map record_item (Some s ∷ others))) (items_past Axfr (InWhole s) (map record_item others) refl))
first_signals Ixfr (Some s ∷ []) h = inr (record {
  told = refl;
  serial = serial_of s.fields;
  signal = ap (λ b. if b then Some (serial_of s.fields) else None) h;
  found = refl;
  asked = refl;
})
first_signals Ixfr (Some s ∷ None ∷ more) h = inl (record { told = refl; none = refl })
first_signals Ixfr (Some s ∷ Some r ∷ more) h =
    inl (past_none (run_items Ixfr AtStart (map record_item (Some s ∷ Some r ∷ more))) (items_past Ixfr (step Ixfr (AtSecond s) r).place (map record_item more) (second_past Ixfr s r)))

-- of any message that isn't refused by itself
pub signals : (mode : Mode) (id : ℕ) (q : Question) (begun : Bool) (p : Place) (m : ReadMessage) → IsBetween begun p mode → request_fault id q (not begun) m ≡ None → Signals mode begun (run_items mode p (map record_item m.answers))
signals mode id q true p m w h = inl (record { told = refl; none = refl })
signals mode id q false AtStart m w h = first_signals mode m.answers (first_begins id q m h)
signals mode id q false (AtSecond s) m w h = absurd w
signals mode id q false (InWhole s) m w h = absurd w
signals mode id q false (InDeletes s) m w h = absurd w
signals mode id q false (InAdds s) m w h = absurd w
signals mode id q false AtEnd m w h = absurd w
