-- One reply more, of a client that stands for those before it.
use Rattle.std.proofs.Common.{◌≡◌, ℕ, true, not, ◌&&◌, if◌then◌else◌, List, [], ◌∷◌, ◌++◌, map, append_assoc, refl, sym, ap, ◌∙◌, Option, Some, None, is_some}
use Rattle.std.specs.Option.{option_or}
use Rattle.std.proofs.lemmas.List.{map-append}
use Rattle.std.proofs.lemmas.List.Folds.{list_all-append}
use Rattle.tsig_port.specs.Checked.{passing, first_fault, pass_on, taken_message}
use Rattle.tsig_port.specs.declared.errors.ValidationError.{ValidationError}
use Rattle.zone_model.specs.Updates.{UpdateFault}
use Rattle.xfr_model.specs.Read.{Fault, record_item, items_unless, request_fault}
use Rattle.xfr_model.specs.Machine.{is_at_end, Run, run_items, signal_of}
use Rattle.xfr_model.specs.Applying.{Denied, Held, apply_within, DeniedEdit}
use Rattle.xfr_course.specs.Outcome.{Reading, Ended, Course, room}
use Rattle.xfr_course.specs.Courses.{has_header}
use Rattle.xfr_course.specs.Client.{Client, new_client, met_after, client_after, run_message, take_checked, take_course, StandsBetween}
use Rattle.xfr_course.proofs.Between.{between_messages, updates_in_turn}
use Rattle.xfr_course.proofs.Clients.{course_on}
use Rattle.xfr_client.specs.SoFar.{Asking, asked_id, asked_question, asked_course, checked_so_far, message_so_far, client_so_far}
use Rattle.xfr_client.specs.Standing.{Passed}

-- ---- what passed

pub none_passed : (fault : List (List ℕ) → List ℕ → Option ValidationError) → Passed fault []
none_passed fault = record { passing = λ more. refl; faults = λ more. refl; headed = refl }

-- one more that passes
step_passing : (fault : List (List ℕ) → List ℕ → Option ValidationError) (taken : List (List ℕ)) (m : List ℕ) (more : List (List ℕ)) → fault taken m ≡ None
    → passing fault taken (m ∷ more) ≡ m ∷ passing fault (taken ++ m ∷ []) more
unfolding passing
step_passing fault taken m more h = ap (λ o. pass_on o m (passing fault (taken ++ m ∷ []) more)) h

step_faults : (fault : List (List ℕ) → List ℕ → Option ValidationError) (taken : List (List ℕ)) (m : List ℕ) (more : List (List ℕ)) → fault taken m ≡ None
    → first_fault fault taken (m ∷ more) ≡ first_fault fault (taken ++ m ∷ []) more
unfolding first_fault
step_faults fault taken m more h = ap (λ o. option_or o (first_fault fault (taken ++ m ∷ []) more)) h

pub one_passed : (fault : List (List ℕ) → List ℕ → Option ValidationError) (taken : List (List ℕ)) (m : List ℕ) → Passed fault taken → fault taken m ≡ None → has_header m ≡ true → Passed fault (taken ++ m ∷ [])
one_passed fault taken m p h e = record {
  passing = λ more. ap (passing fault []) (append_assoc taken (m ∷ []) more) ∙ p.passing (m ∷ more) ∙ ap (λ l. taken ++ l) (step_passing fault taken m more h) ∙ sym (append_assoc taken (m ∷ []) (passing fault (taken ++ m ∷ []) more));
  faults = λ more. ap (first_fault fault []) (append_assoc taken (m ∷ []) more) ∙ p.faults (m ∷ more) ∙ step_faults fault taken m more h;
  headed = list_all-append has_header taken (m ∷ []) ∙ ap (λ b. b && (has_header m && true)) p.headed ∙ ap (λ b. b && true) e;
}

-- ---- the client's step

abbrev pub course : Asking → Course
course a = asked_course a [] Ended

pub client_next : (a : Asking) (taken : List (List ℕ)) (m : List ℕ) → client_so_far a (taken ++ m ∷ []) ≡ take_checked (course a) (client_so_far a taken) (checked_so_far m)
unfolding client_so_far
client_next a taken m =
    ap (take_course (course a) (new_client (course a))) (map-append checked_so_far taken (m ∷ []))
    ∙ course_on (course a) (new_client (course a)) (map checked_so_far taken) (checked_so_far m ∷ [])

-- a checked message is what is left of it once it was taken
pub checked_message : (m : List ℕ) → (checked_so_far m).message ≡ message_so_far (taken_message m)
unfolding checked_so_far
checked_message m = refl

-- the run of the message, and the client after it
abbrev pub run_next : Asking → List (List ℕ) → List ℕ → Run
run_next a taken m = run_message (course a) (client_so_far a taken) (checked_so_far m)

pub client_taken : (a : Asking) (taken : List (List ℕ)) (m : List ℕ) → (client_so_far a taken).met ≡ None
    → client_so_far a (taken ++ m ∷ []) ≡ client_after (course a) (client_so_far a taken).begun (run_next a taken m) (apply_within (room (course a)) (client_so_far a taken).progress (run_next a taken m).updates)
unfolding checked_so_far
client_taken a taken m unmet =
    let cl : Client = client_so_far a taken in
    let r : Run = run_next a taken m in
    client_next a taken m ∙ ap (λ o. if is_some o then cl else client_after (course a) cl.begun r (apply_within (room (course a)) cl.progress r.updates)) unmet

-- where the client stands, and that none of the message's updates comes out of turn
pub between : (a : Asking) (taken : List (List ℕ)) → (client_so_far a taken).met ≡ None → StandsBetween (course a) (client_so_far a taken)
unfolding client_so_far
between a taken unmet = between_messages (course a) (map checked_so_far taken) unmet

pub in_turn : (a : Asking) (taken : List (List ℕ)) (m : List ℕ) (f : UpdateFault) → (client_so_far a taken).met ≡ None
    → (apply_within (room (course a)) (client_so_far a taken).progress (run_next a taken m).updates).halt ≡ Some (Denied f) → DeniedEdit f
unfolding client_so_far
in_turn a taken m f unmet h = updates_in_turn (course a) (map checked_so_far taken) (checked_so_far m) f unmet h

-- a message that is refused by itself
pub record Refused (a : Asking) (taken : List (List ℕ)) (m : List ℕ) (f : Fault) : Type 0 where
  pub met : (client_so_far a (taken ++ m ∷ [])).met ≡ Some (Reading f)
  pub progress : (client_so_far a (taken ++ m ∷ [])).progress ≡ (client_so_far a taken).progress

pub message_refused : (a : Asking) (taken : List (List ℕ)) (m : List ℕ) (f : Fault) → (client_so_far a taken).met ≡ None
    → request_fault (asked_id a) (asked_question a) (not (client_so_far a taken).begun) (checked_so_far m).message ≡ Some f → Refused a taken m f
message_refused a taken m f unmet h =
    let cl : Client = client_so_far a taken in
    let bad : Run = record { place = cl.place; updates = []; fault = Some f } in
    let r : run_next a taken m ≡ bad = ap (λ o. run_items a.mode cl.place (items_unless (checked_so_far m).message.answers o)) h in
    let next : client_so_far a (taken ++ m ∷ []) ≡ client_after (course a) cl.begun bad (record { progress = cl.progress; halt = None }) =
    client_taken a taken m unmet ∙ ap (λ x. client_after (course a) cl.begun x (apply_within (room (course a)) cl.progress x.updates)) r in
    record { met = ap (λ x. x.met) next; progress = ap (λ x. x.progress) next }

-- a message that is read: its run is what its records make
pub run_read : (a : Asking) (taken : List (List ℕ)) (m : List ℕ)
    → request_fault (asked_id a) (asked_question a) (not (client_so_far a taken).begun) (checked_so_far m).message ≡ None
    → run_next a taken m ≡ run_items a.mode (client_so_far a taken).place (map record_item (checked_so_far m).message.answers)
run_read a taken m h = ap (λ o. run_items a.mode (client_so_far a taken).place (items_unless (checked_so_far m).message.answers o)) h

-- .. and what becomes of the client
pub record Moves (a : Asking) (taken : List (List ℕ)) (m : List ℕ) (r : Run) (h : Held) : Type 0 where
  pub begun : (client_so_far a (taken ++ m ∷ [])).begun ≡ true
  pub place : (client_so_far a (taken ++ m ∷ [])).place ≡ r.place
  pub progress : (client_so_far a (taken ++ m ∷ [])).progress ≡ h.progress
  pub met : (client_so_far a (taken ++ m ∷ [])).met ≡ met_after (course a) h.halt r.fault (signal_of (client_so_far a taken).begun r) (is_at_end r.place)

pub message_moves : (a : Asking) (taken : List (List ℕ)) (m : List ℕ) → (client_so_far a taken).met ≡ None
    → Moves a taken m (run_next a taken m) (apply_within (room (course a)) (client_so_far a taken).progress (run_next a taken m).updates)
message_moves a taken m unmet =
    let next = client_taken a taken m unmet in
    record {
      begun = ap (λ x. x.begun) next;
      place = ap (λ x. x.place) next;
      progress = ap (λ x. x.progress) next;
      met = ap (λ x. x.met) next;
    }
