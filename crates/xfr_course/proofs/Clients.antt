-- A client that takes checked messages in turn commits the versions made and ends with the outcome.
use Rattle.std.proofs.Common.{◌≡◌, ℕ, Bool, true, false, if◌then◌else◌, List, [], ◌∷◌, ◌++◌, map, length, take, refl, sym, ap, ◌∙◌, append_assoc, append-nil, Option, Some, None, is_some, unwrap_or}
use Rattle.std.specs.Prelude.{nat_lt}
use Rattle.std.specs.Option.{option_or, option_map}
use Rattle.zone_model.specs.Edits.{Refusal}
use Rattle.zone_model.specs.TransferText.{Mode, Axfr, Ixfr}
use Rattle.zone_model.specs.Spells.{Spelling, spelling}
use Rattle.zone_model.specs.Updates.{Update, UpdateFault, Edit, begin}
use Rattle.xfr_model.specs.Interpreter.{updates_in}
use Rattle.xfr_model.specs.Applying.{Halt, Denied, NoNumber, Held, apply_within, DeniedEdit}
use Rattle.xfr_course.specs.Client.{MetDecides, UnmetStops, CourseOn, Client, new_client, halt_outcome, met_after, client_after, run_message, take_checked, take_course, client_of, ClientMeets}
use Rattle.xfr_model.specs.Messages.{ReadMessage}
use Rattle.xfr_model.specs.Read.{Fault, Refused, Item, items_of, good_records, first_fault, ReadText, read_items, read_by, request_fault, fault_of_all, retry}
use Rattle.xfr_model.specs.Machine.{AtStart, is_at_end, Run, run_items, signal_of}
use Rattle.xfr_course.specs.Outcome.{Outcome, Updated, Reading, VersionsExhausted, Checked, Course, room, messages_of, after_retry, after_fault, made, made_unless, unless_retry, outcome}
use Rattle.xfr_model.proofs.Readers.{run_reads, run-append, run-stopped, fault_is, ends, later, read_behind, behind_end, behind_more, behind_nothing, signal_is, retry_is}
use Rattle.xfr_model.proofs.InTurn.{items_begin, retry_tells_nothing}
use Rattle.xfr_model.proofs.Limits.{within-append, commits_within}
use Rattle.xfr_model.proofs.FinerSteps.{denies_edits}

-- The client.

abbrev pub ask : Course → Bool → ReadMessage → Option Fault
ask c = request_fault c.id c.question

-- what the updates of some items make
abbrev pub held : Course → List Item → Held
held c xs = apply_within (room c) (begin c.base) (run_items c.mode AtStart xs).updates

-- the client that has taken these items
abbrev pub client_at : Course → Run → Held → Client
client_at c a h = record { begun = true; place = a.place; progress = h.progress; met = met_after c h.halt a.fault None (is_at_end a.place) }

abbrev pub client_with : Course → List Item → Client
client_with c xs = client_at c (run_items c.mode AtStart xs) (held c xs)

-- no update comes out of turn, so each halt has an outcome
pub held_denies : (c : Course) (xs : List Item) (f : UpdateFault) → (held c xs).halt ≡ Some (Denied f) → DeniedEdit f
held_denies c xs f h = denies_edits c.mode (room c) c.base (good_records xs) f (sym (ap (λ us. (apply_within (room c) (begin c.base) us).halt) (run_reads c.mode xs).updates) ∙ h)

pub record HasOutcome (h : Halt) : Type 0 where
  pub what : Outcome
  pub is : halt_outcome h ≡ Some what

pub held_outcome : (c : Course) (xs : List Item) (h : Halt) → (held c xs).halt ≡ Some h → HasOutcome h
held_outcome c xs NoNumber e = record { what = VersionsExhausted; is = refl }
held_outcome c xs (Denied f) e = let d = held_denies c xs f e in record { what = Reading (Refused d.why); is = ap (λ x. halt_outcome (Denied x)) d.is }

-- items after a halt change no more than the run
held_stays : (c : Course) (xs ys : List Item) (e : Halt) → (held c xs).halt ≡ Some e → held c (xs ++ ys) ≡ held c xs
held_stays c xs ys e h = by (first_fault xs) refl
  where
    us : List Update
    us = (run_items c.mode AtStart xs).updates

    by : (o : Option Fault) → first_fault xs ≡ o → held c (xs ++ ys) ≡ held c xs
    by (Some f) g = ap (λ a. apply_within (room c) (begin c.base) a.updates) (run-stopped c.mode AtStart xs ys f g)
    by None g =
        let more : List Update = (run_items c.mode (run_items c.mode AtStart xs).place ys).updates in
        ap (λ a. apply_within (room c) (begin c.base) a.updates) (run-append c.mode AtStart xs ys g)
        ∙ within-append (room c) us more (begin c.base)
        ∙ ap (λ o. if is_some o then held c xs else apply_within (room c) (held c xs).progress more) h

pub held_more : (c : Course) (xs ys : List Item) → first_fault xs ≡ None → (held c xs).halt ≡ None → apply_within (room c) (held c xs).progress (run_items c.mode (run_items c.mode AtStart xs).place ys).updates ≡ held c (xs ++ ys)
held_more c xs ys g h =
    let us : List Update = (run_items c.mode AtStart xs).updates in
    let more : List Update = (run_items c.mode (run_items c.mode AtStart xs).place ys).updates in
    sym (ap (λ a. apply_within (room c) (begin c.base) a.updates) (run-append c.mode AtStart xs ys g)
    ∙ within-append (room c) us more (begin c.base)
    ∙ ap (λ o. if is_some o then held c xs else apply_within (room c) (held c xs).progress more) h)

-- a client that met an outcome takes no message
pub met_stays : (c : Course) (cl : Client) (ks : List Checked) (o : Outcome) → cl.met ≡ Some o → take_course c cl ks ≡ cl
met_stays c cl [] o h = refl
met_stays c cl (k ∷ more) o h =
    ap (λ m. take_course c (if is_some m then cl else client_after c cl.begun (run_message c cl k) (apply_within (room c) cl.progress (run_message c cl k).updates)) more) h ∙ met_stays c cl more o h

-- the next message, where no outcome is met
pub next_client : (c : Course) (xs : List Item) (k : Checked) → (held c xs).halt ≡ None → ends c.mode xs ≡ false → first_fault xs ≡ None
    → take_checked c (client_with c xs) k ≡ client_with c (xs ++ items_of (ask c false) k.message)
next_client c xs k h e f =
    let its : List Item = items_of (ask c false) k.message in
    let a : Run = run_items c.mode AtStart xs in
    let b : Run = run_items c.mode a.place its in
    let cl : Client = client_with c xs in
    let after : Held → Client = λ x. client_after c true b x in
    let met : cl.met ≡ None =
    ap (λ o. met_after c o a.fault None (is_at_end a.place)) h
    ∙ ap (λ o. met_after c None o None (is_at_end a.place)) (fault_is c.mode xs e ∙ f)
    ∙ ap (λ b. met_after c None None None b) ((run_reads c.mode xs).ended ∙ e) in
    ap (λ m. if is_some m then cl else after (apply_within (room c) (held c xs).progress b.updates)) met
    ∙ ap after (held_more c xs its f h)
    ∙ ap (λ o. client_at c (record { place = b.place; updates = a.updates ++ b.updates; fault = option_or o b.fault }) (held c (xs ++ its))) (sym (fault_is c.mode xs e ∙ f))
    ∙ ap (λ r. client_at c r (held c (xs ++ its))) (sym (run-append c.mode AtStart xs its f))

-- what is read of later messages
abbrev messages_in : List Checked → List ReadMessage
messages_in ks = map (λ (m : Checked). m.message) ks

abbrev read_of : Course → List Item → List Checked → List ReadMessage
read_of c xs ks = read_behind c.mode (ask c) xs (messages_in ks)

-- the outcome of a run
abbrev verdict : Course → Run → Outcome
verdict c a = unwrap_or (met_after c (apply_within (room c) (begin c.base) a.updates).halt a.fault None (is_at_end a.place)) c.stop

pub record Final (c : Course) (cl : Client) (xs : List Item) : Type 0 where
  pub committed : cl.progress.committed ≡ (held c xs).progress.committed
  pub met : unwrap_or cl.met c.stop ≡ verdict c (run_items c.mode AtStart xs)

moved : (c : Course) (cl : Client) (xs ys : List Item) → xs ≡ ys → Final c cl xs → Final c cl ys
moved c cl xs ys e f = record {
  committed = f.committed ∙ ap (λ l. (held c l).progress.committed) e;
  met = f.met ∙ ap (λ l. verdict c (run_items c.mode AtStart l)) e;
}

same_client : (c : Course) (cl dl : Client) (xs : List Item) → cl ≡ dl → Final c dl xs → Final c cl xs
same_client c cl dl xs e f = record { committed = ap (λ x. x.progress.committed) e ∙ f.committed; met = ap (λ x. unwrap_or x.met c.stop) e ∙ f.met }

itself : (c : Course) (xs : List Item) → Final c (client_with c xs) xs
itself c xs = record { committed = refl; met = refl }

-- the end of a text is met
pub record Met (cl : Client) : Type 0 where
  pub what : Outcome
  pub is : cl.met ≡ Some what

end_met : (c : Course) (xs : List Item) → (held c xs).halt ≡ None → ends c.mode xs ≡ true → Met (client_with c xs)
end_met c xs h e = by (run_items c.mode AtStart xs).fault refl
  where
    a : Run
    a = run_items c.mode AtStart xs

    by : (f : Option Fault) → a.fault ≡ f → Met (client_with c xs)
    by (Some f) g = record { what = Reading f; is = ap (λ o. met_after c o a.fault None (is_at_end a.place)) h ∙ ap (λ o. met_after c None o None (is_at_end a.place)) g }
    by None g = record {
      what = Updated;
      is = ap (λ o. met_after c o a.fault None (is_at_end a.place)) h ∙ ap (λ o. met_after c None o None (is_at_end a.place)) g ∙ ap (λ b. met_after c None None None b) ((run_reads c.mode xs).ended ∙ e);
    }

-- a halt decides, whatever comes after it
halt_final : (c : Course) (xs ys : List Item) (e : Halt) → (held c xs).halt ≡ Some e → Final c (client_with c xs) (xs ++ ys)
halt_final c xs ys e h =
    let r : Run = run_items c.mode AtStart xs in
    let q : Run = run_items c.mode AtStart (xs ++ ys) in
    let same = held_stays c xs ys e h in
    record {
      committed = ap (λ x. x.progress.committed) (sym same);
      met = ap (λ o. unwrap_or (met_after c o r.fault None (is_at_end r.place)) c.stop) h ∙ sym (ap (λ o. unwrap_or (met_after c o q.fault None (is_at_end q.place)) c.stop) (ap (λ x. x.halt) same ∙ h));
    }

-- .. and so does a fault
fault_final : (c : Course) (xs ys : List Item) (f : Fault) → (held c xs).halt ≡ None → ends c.mode xs ≡ false → first_fault xs ≡ Some f → Final c (client_with c xs) (xs ++ ys)
fault_final c xs ys f h e g =
    let r : Run = run_items c.mode AtStart xs in
    let same = run-stopped c.mode AtStart xs ys f g in
    let by : verdict c r ≡ Reading f = ap (λ o. unwrap_or (met_after c o r.fault None (is_at_end r.place)) c.stop) h ∙ ap (λ o. unwrap_or (met_after c None o None (is_at_end r.place)) c.stop) (fault_is c.mode xs e ∙ g) in
    record {
      committed = ap (λ x. (apply_within (room c) (begin c.base) x.updates).progress.committed) (sym same);
      met = by ∙ sym (ap (λ x. verdict c x) same ∙ by);
    }

takes_behind : (c : Course) (ks : List Checked) (xs : List Item) → Final c (take_course c (client_with c xs) ks) (xs ++ later (ask c) (read_of c xs ks))
takes_behind c [] xs =
    let none = behind_nothing c.mode (ask c) xs in
    moved c (client_with c xs) xs (xs ++ later (ask c) (read_of c xs [])) (sym (append-nil xs) ∙ ap (λ p. xs ++ later (ask c) p) (sym none)) (itself c xs)
takes_behind c (k ∷ more) xs = by (held c xs).halt (ends c.mode xs) (first_fault xs) refl refl refl (takes_behind c more (xs ++ items_of (ask c false) k.message))
  where
    its : List Item
    its = items_of (ask c false) k.message

    cl : Client
    cl = client_with c xs

    ys : List Item
    ys = later (ask c) (read_of c xs (k ∷ more))

    by : (o : Option Halt) (e : Bool) (f : Option Fault) → (held c xs).halt ≡ o → ends c.mode xs ≡ e → first_fault xs ≡ f
        → Final c (take_course c (client_with c (xs ++ its)) more) ((xs ++ its) ++ later (ask c) (read_of c (xs ++ its) more))
        → Final c (take_course c cl (k ∷ more)) (xs ++ ys)
    by (Some x) e f h i g ih =
        let t = held_outcome c xs x h in
        same_client c (take_course c cl (k ∷ more)) cl (xs ++ ys)
        (met_stays c cl (k ∷ more) t.what (ap (λ o. met_after c o (run_items c.mode AtStart xs).fault None (is_at_end (run_items c.mode AtStart xs).place)) h ∙ t.is))
        (halt_final c xs ys x h)
    by None true f h i g ih =
        let m = end_met c xs h i in
        let none = behind_end c.mode (ask c) xs k.message (messages_in more) i in
        same_client c (take_course c cl (k ∷ more)) cl (xs ++ ys) (met_stays c cl (k ∷ more) m.what m.is)
        (moved c cl xs (xs ++ ys) (sym (append-nil xs) ∙ ap (λ p. xs ++ later (ask c) p) (sym none)) (itself c xs))
    by None false (Some f) h i g ih =
        let r : Run = run_items c.mode AtStart xs in
        same_client c (take_course c cl (k ∷ more)) cl (xs ++ ys)
        (met_stays c cl (k ∷ more) (Reading f) (ap (λ o. met_after c o r.fault None (is_at_end r.place)) h ∙ ap (λ o. met_after c None o None (is_at_end r.place)) (fault_is c.mode xs i ∙ g)))
        (fault_final c xs ys f h i g)
    by None false None h i g ih =
        let p : List ReadMessage = read_of c (xs ++ its) more in
        let more_is = behind_more c.mode (ask c) xs k.message (messages_in more) i in
        same_client c (take_course c cl (k ∷ more)) (take_course c (client_with c (xs ++ its)) more) (xs ++ ys) (ap (λ x. take_course c x more) (next_client c xs k h i g))
        (moved c (take_course c (client_with c (xs ++ its)) more) ((xs ++ its) ++ later (ask c) p) (xs ++ ys)
        (append_assoc xs its (later (ask c) p) ∙ ap (λ l. xs ++ later (ask c) l) (sym more_is)) ih)

-- The outcome.

abbrev ended_by : Course → Bool → Option Fault → Outcome
ended_by c ended (Some f) = Reading f
ended_by c ended None = if ended then Updated else c.stop

abbrev judged : Course → Spelling → ReadText → Outcome
judged c s t = if nat_lt (room c) (length s.versions) then VersionsExhausted else ended_by c t.ended (fault_of_all s.fault t.fault)

after_is : (c : Course) (o : Option Fault) → after_fault c o ≡ ended_by c (read_by c.mode (ask c) (messages_of c)).ended o
after_is c (Some f) = refl
after_is c None = refl

-- an outcome as met is the outcome as defined
met_is : (c : Course) (l : Bool) (sf : Option Refusal) (tf : Option Fault) (ended : Bool)
    → unwrap_or (met_after c (if l then Some NoNumber else option_map (λ e. Denied (Edit e)) sf) tf None ended) c.stop ≡ (if l then VersionsExhausted else ended_by c ended (fault_of_all sf tf))
met_is c true sf tf ended = refl
met_is c false (Some e) tf ended = refl
met_is c false None (Some f) ended = refl
met_is c false None None true = refl
met_is c false None None false = refl

-- what has been committed and met, as defined
pub record Agrees (c : Course) (cl : Client) : Type 0 where
  pub made : cl.progress.committed ≡ made c
  pub outcome : unwrap_or cl.met c.stop ≡ outcome c

agrees : (c : Course) (cl : Client) (xs : List Item) → retry c.mode (ask c) (messages_of c) ≡ None → read_by c.mode (ask c) (messages_of c) ≡ read_items c.mode xs
    → Final c cl xs → Agrees c cl
agrees c cl xs h e f =
    let a : Run = run_items c.mode AtStart xs in
    let t : ReadText = read_items c.mode xs in
    let s : Spelling = spelling c.mode (good_records xs) c.base in
    let r = run_reads c.mode xs in
    let w = commits_within c.mode (room c) c.base (good_records xs) in
    let same : held c xs ≡ apply_within (room c) (begin c.base) (updates_in c.mode (good_records xs)) = ap (apply_within (room c) (begin c.base)) r.updates in
    let halt : (held c xs).halt ≡ (if nat_lt (room c) (length s.versions) then Some NoNumber else option_map (λ e. Denied (Edit e)) s.fault) = ap (λ x. x.halt) same ∙ w.halt in
    record {
      made = f.committed ∙ ap (λ x. x.progress.committed) same ∙ w.versions ∙ sym (ap (made_unless c) h ∙ ap (λ (x : ReadText). take (room c) (spelling c.mode x.records c.base).versions) e);
      outcome =
          f.met
          ∙ ap (λ o. unwrap_or (met_after c o a.fault None (is_at_end a.place)) c.stop) halt
          ∙ ap (λ o. unwrap_or (met_after c (if nat_lt (room c) (length s.versions) then Some NoNumber else option_map (λ e. Denied (Edit e)) s.fault) o None (is_at_end a.place)) c.stop) r.fault
          ∙ ap (λ b. unwrap_or (met_after c (if nat_lt (room c) (length s.versions) then Some NoNumber else option_map (λ e. Denied (Edit e)) s.fault) t.fault None b) c.stop) r.ended
          ∙ met_is c (nat_lt (room c) (length s.versions)) s.fault t.fault t.ended
          ∙ sym (ap (unless_retry c) h
          ∙ ap (λ o. if nat_lt (room c) (length (spelling c.mode (read_by c.mode (ask c) (messages_of c)).records c.base).versions) then VersionsExhausted else o) (after_is c (fault_of_all (spelling c.mode (read_by c.mode (ask c) (messages_of c)).records c.base).fault (read_by c.mode (ask c) (messages_of c)).fault))
          ∙ ap (λ (x : ReadText). judged c (spelling c.mode x.records c.base) x) e);
    }

no_retry : (mode : Mode) (fault_of : Bool → ReadMessage → Option Fault) → retry mode fault_of [] ≡ None
no_retry Axfr fault_of = refl
no_retry Ixfr fault_of = refl

-- a retry signal ends a course with nothing committed
signal_agrees : (c : Course) (k : Checked) (more : List Checked) (n : ℕ) → retry c.mode (ask c) (k.message ∷ messages_in more) ≡ Some n
    → Agrees (record c { checked = k ∷ more }) (client_of (record c { checked = k ∷ more }))
signal_agrees c k more n h =
    let d : Course = record c { checked = k ∷ more } in
    let its : List Item = items_of (ask c true) k.message in
    let a : Run = run_items c.mode AtStart its in
    let t = retry_tells_nothing c.mode (ask c) (k.message ∷ []) n (retry_is c.mode (ask c) k.message [] ∙ sym (retry_is c.mode (ask c) k.message (messages_in more)) ∙ h) in
    let cl : Client = take_checked d (new_client d) k in
    let idle : held d its ≡ record { progress = begin c.base; halt = None } = ap (apply_within (room c) (begin c.base)) t.told in
    let met : cl.met ≡ Some (after_retry d n) =
    ap (λ x. met_after d x.halt a.fault (signal_of false a) (is_at_end a.place)) idle
    ∙ ap (λ o. met_after d None o (signal_of false a) (is_at_end a.place)) t.fault
    ∙ ap (λ o. met_after d None None o (is_at_end a.place)) (signal_is c.mode (ask c) k.message (messages_in more) ∙ h) in
    let done : client_of d ≡ cl = met_stays d cl more (after_retry d n) met in
    record {
      made = ap (λ x. x.progress.committed) done ∙ ap (λ x. x.progress.committed) idle ∙ sym (ap (made_unless d) h);
      outcome = ap (λ x. unwrap_or x.met c.stop) done ∙ ap (λ o. unwrap_or o c.stop) met ∙ sym (ap (unless_retry d) h);
    }

-- .. and without one the rest is taken
first_agrees : (c : Course) (k : Checked) (more : List Checked) → retry c.mode (ask c) (k.message ∷ messages_in more) ≡ None → Agrees (record c { checked = k ∷ more }) (client_of (record c { checked = k ∷ more }))
first_agrees c k more h =
    let d : Course = record c { checked = k ∷ more } in
    let its : List Item = items_of (ask c true) k.message in
    let a : Run = run_items c.mode AtStart its in
    let p : List ReadMessage = read_of d its more in
    let took : take_checked d (new_client d) k ≡ client_with d its =
    ap (λ o. record { begun = true; place = a.place; progress = (held d its).progress; met = met_after d (held d its).halt a.fault o (is_at_end a.place) }) (signal_is c.mode (ask c) k.message (messages_in more) ∙ h) in
    agrees d (client_of d) (its ++ later (ask c) p) h (ap (read_items c.mode) (items_begin c.mode (ask c) k.message (messages_in more)))
    (same_client d (client_of d) (take_course d (client_with d its) more) (its ++ later (ask c) p) (ap (λ x. take_course d x more) took) (takes_behind d more its))

meets : (c : Course) (ks : List Checked) → Agrees (record c { checked = ks }) (client_of (record c { checked = ks }))
meets c [] = agrees (record c { checked = [] }) (new_client c) [] (no_retry c.mode (ask c)) refl (record { committed = refl; met = refl })
meets c (k ∷ more) = by (retry c.mode (ask c) (k.message ∷ messages_in more)) refl
  where
    by : (o : Option ℕ) → retry c.mode (ask c) (k.message ∷ messages_in more) ≡ o → Agrees (record c { checked = k ∷ more }) (client_of (record c { checked = k ∷ more }))
    by None h = first_agrees c k more h
    by (Some n) h = signal_agrees c k more n h

pub client_meets : ClientMeets
client_meets c = let a = meets c c.checked in record { made = a.made; outcome = a.outcome }

-- Outcomes met and not met.

pub course_on : CourseOn
course_on c cl [] more = refl
course_on c cl (k ∷ ks) more = course_on c (take_checked c cl k) ks more

pub met_decides : MetDecides
met_decides c ks more o h =
    let d : Course = record c { checked = ks ++ more } in
    let part : Client = take_course c (new_client c) ks in
    let all : client_of d ≡ part = course_on c (new_client c) ks more ∙ met_stays c part more o h in
    let long = client_meets d in
    let short = client_meets (record c { checked = ks }) in
    record {
      outcome = sym long.outcome ∙ ap (λ x. unwrap_or x.met c.stop) all ∙ ap (λ m. unwrap_or m c.stop) h;
      made = sym long.made ∙ ap (λ x. x.progress.committed) all ∙ short.made;
    }

pub unmet_stops : UnmetStops
unmet_stops c ks h = sym (client_meets (record c { checked = ks })).outcome ∙ ap (λ m. unwrap_or m c.stop) h
