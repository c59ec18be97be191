-- Where a client that has met nothing stands between messages; no update of a next one comes out of turn.
use Rattle.std.proofs.Common.{◌≡◌, ℕ, Bool, true, false, not, ◌&&◌, ◌==◌, if◌then◌else◌, List, [], ◌∷◌, ◌++◌, map, length, refl, sym, ap, ◌∙◌, subst, Option, Some, None}
use Rattle.std.proofs.lemmas.Bool.{and_left}
use Rattle.std.proofs.Math.Bool.{and-false}
use Rattle.dns_rdata.specs.Records.{Record}
use Rattle.dns_rdata.specs.Soa.{serial_of}
use Rattle.dns_wire.specs.Wire.{Question}
use Rattle.zone_model.specs.TransferText.{Mode, Axfr, Ixfr, is_soa, is_same_soa}
use Rattle.zone_model.specs.Updates.{DeleteAllRecords, DeleteRecord, AddRecord, BeginBatchDelete, BeginBatchAdd, Finished}
use Rattle.xfr_model.specs.Messages.{ReadMessage}
use Rattle.xfr_model.specs.Read.{Fault, NotValid, Malformed, OtherAnswer, Item, Good, Bad, record_item, items_unless, items_of, first_fault, is_other, is_transfer_head, asks_transfer, first_record_fault, message_fault, request_fault}
use Rattle.xfr_model.specs.Machine.{Place, AtStart, AtSecond, InWhole, InDeletes, InAdds, AtEnd, is_at_end, Run, went, step, end_or_batch, run_items, signal_of}
use Rattle.xfr_model.specs.Applying.{Halt, Held, apply_within}
use Rattle.xfr_model.proofs.Readers.{run_reads, run-append, fault_is, ends}
use Rattle.xfr_course.specs.Outcome.{Outcome, Checked, Course, room}
use Rattle.xfr_course.specs.Client.{Client, new_client, met_after, run_message, take_checked, take_course, IsBetween, StandsBetween, BetweenMessages, UpdatesInTurn}
use Rattle.xfr_course.proofs.Clients.{ask, held, client_with, held_denies, held_outcome, held_more, met_stays, next_client}

-- ---- places

-- after a text's first records, in a form that the mode has; the end is such a place
abbrev pub IsBehind : Place → Mode → Type 0
IsBehind AtStart m = ⊥
IsBehind (AtSecond s) m = ⊥
IsBehind (InWhole s) m = Unit {0}
IsBehind (InDeletes s) Axfr = ⊥
IsBehind (InDeletes s) Ixfr = Unit {0}
IsBehind (InAdds s) Axfr = ⊥
IsBehind (InAdds s) Ixfr = Unit {0}
IsBehind AtEnd m = Unit {0}

either_behind : (s r : Record) → IsBehind (end_or_batch s r).place Ixfr
either_behind s r = elim (is_same_soa s r) as (λ b. IsBehind (if b then went AtEnd (Finished r ∷ []) else went (InDeletes s) (BeginBatchDelete r ∷ [])).place Ixfr) [ true ↦ tt | false ↦ tt ]

second_behind : (s r : Record) → IsBehind (step Ixfr (AtSecond s) r).place Ixfr
second_behind s r = elim (is_soa r) as (λ b. IsBehind (if b then end_or_batch s r else went (InWhole s) (DeleteAllRecords ∷ AddRecord r ∷ [])).place Ixfr) [ true ↦ either_behind s r | false ↦ tt ]

step_behind : (m : Mode) (p : Place) (r : Record) → IsBehind p m → IsBehind (step m p r).place m
step_behind m AtStart r b = absurd b
step_behind m (AtSecond s) r b = absurd b
step_behind m (InWhole s) r b = elim (is_same_soa s r) as (λ b. IsBehind (if b then went AtEnd (Finished r ∷ []) else went (InWhole s) (AddRecord r ∷ [])).place m) [ true ↦ tt | false ↦ tt ]
step_behind Axfr (InDeletes s) r b = absurd b
step_behind Ixfr (InDeletes s) r b = elim (is_soa r) as (λ b. IsBehind (if b then went (InAdds s) (BeginBatchAdd r ∷ []) else went (InDeletes s) (DeleteRecord r ∷ [])).place Ixfr) [ true ↦ tt | false ↦ tt ]
step_behind Axfr (InAdds s) r b = absurd b
step_behind Ixfr (InAdds s) r b = elim (is_soa r) as (λ b. IsBehind (if b then end_or_batch s r else went (InAdds s) (AddRecord r ∷ [])).place Ixfr) [ true ↦ either_behind s r | false ↦ tt ]
step_behind m AtEnd r b = tt

pub run_behind : (m : Mode) (p : Place) (xs : List Item) → IsBehind p m → IsBehind (run_items m p xs).place m
run_behind m p [] b = b
run_behind m p (Good r ∷ more) b = run_behind m (step m p r).place more (step_behind m p r b)
run_behind m p (Bad f ∷ more) b = b

pub way_behind : (p : Place) (m : Mode) → IsBehind p m → is_at_end p ≡ false → IsBetween true p m
way_behind AtStart m b e = absurd b
way_behind (AtSecond s) m b e = absurd b
way_behind (InWhole s) m b e = tt
way_behind (InDeletes s) Axfr b e = absurd b
way_behind (InDeletes s) Ixfr b e = tt
way_behind (InAdds s) Axfr b e = absurd b
way_behind (InAdds s) Ixfr b e = tt
way_behind AtEnd m b e = absurd (cc e)

-- ---- the first message

-- it begins with an SOA, where nothing refuses it
abbrev pub BeginsSoa : List (Option Record) → Type 0
BeginsSoa [] = ⊥
BeginsSoa (None ∷ more) = ⊥
BeginsSoa (Some s ∷ more) = is_soa s ≡ true

judged : (b : Bool) (f : Option Fault) (e : Fault) → (if b then Some e else f) ≡ None → (b ≡ false) × (f ≡ None)
judged true f e h = absurd (cc h)
judged false f e h = (refl, h)

soa_first : (s : Record) (b : Bool) → is_soa s ≡ b → (if b then None else Some NotValid) ≡ None → is_soa s ≡ true
soa_first s true e h = e
soa_first s false e h = absurd (cc h)

begins : (m : ReadMessage) (answers : List (Option Record)) → m.answers ≡ answers → message_fault true m ≡ None → BeginsSoa answers
begins m answers e h = by answers e
  where
    head : (not (is_transfer_head true m) ≡ false) × ((if not (asks_transfer m.questions) then Some Malformed else first_record_fault m.answers) ≡ None)
    head = judged (not (is_transfer_head true m)) (if not true then None else if not (asks_transfer m.questions) then Some Malformed else first_record_fault m.answers) NotValid h

    first : first_record_fault m.answers ≡ None
    first = (judged (not (asks_transfer m.questions)) (first_record_fault m.answers) Malformed head.1).1

    by : (l : List (Option Record)) → m.answers ≡ l → BeginsSoa l
    by [] e =
        let none : is_transfer_head true m ≡ false =
        ap (λ l. m.header.qr && (m.header.opcode == 0) && not m.header.tc && (m.header.rcode == 0) && not (length l == 0) && (m.authority == 0) && (length m.questions == 1)) e
        ∙ and_left _ (length m.questions == 1) (and_left _ (m.authority == 0) (and-false (m.header.qr && (m.header.opcode == 0) && not m.header.tc && (m.header.rcode == 0)))) in
        absurd (cc (sym head.0 ∙ ap not none))
    by (None ∷ more) e = absurd (cc (sym (ap first_record_fault e) ∙ first))
    by (Some s ∷ more) e = soa_first s (is_soa s) refl (sym (ap first_record_fault e) ∙ first)

pub first_begins : (id : ℕ) (q : Question) (m : ReadMessage) → request_fault id q true m ≡ None → BeginsSoa m.answers
first_begins id q m h = begins m m.answers refl (judged (is_other id q m) (message_fault true m) OtherAnswer h).1

pub answers_behind : (m : Mode) (answers : List (Option Record)) → BeginsSoa answers → (run_items m AtStart (map record_item answers)).fault ≡ None → signal_of false (run_items m AtStart (map record_item answers)) ≡ None
    → IsBehind (run_items m AtStart (map record_item answers)).place m
answers_behind m [] b f n = absurd b
answers_behind m (None ∷ more) b f n = absurd b
answers_behind Axfr (Some s ∷ more) b f n = run_behind Axfr (InWhole s) (map record_item more) tt
answers_behind Ixfr (Some s ∷ []) b f n = absurd (cc (sym (ap (λ x. if x then Some (serial_of s.fields) else None) b) ∙ n))
answers_behind Ixfr (Some s ∷ None ∷ more) b f n = absurd (cc f)
answers_behind Ixfr (Some s ∷ Some r ∷ more) b f n = run_behind Ixfr (step Ixfr (AtSecond s) r).place (map record_item more) (second_behind s r)

items_behind : (m : Mode) (o : Option Fault) (answers : List (Option Record)) → (o ≡ None → BeginsSoa answers) → (run_items m AtStart (items_unless answers o)).fault ≡ None → signal_of false (run_items m AtStart (items_unless answers o)) ≡ None
    → IsBehind (run_items m AtStart (items_unless answers o)).place m
items_behind m (Some f) answers b h n = absurd (cc h)
items_behind m None answers b h n = answers_behind m answers (b refl) h n

-- ---- a client that stands for some items

pub record Unmet (c : Course) (xs : List Item) : Type 0 where
  pub halt : (held c xs).halt ≡ None
  pub unended : ends c.mode xs ≡ false
  pub sound : first_fault xs ≡ None

unmet : (c : Course) (xs : List Item) → (client_with c xs).met ≡ None → Unmet c xs
unmet c xs none = by (held c xs).halt (run_items c.mode AtStart xs).fault (is_at_end (run_items c.mode AtStart xs).place) refl refl refl
  where
    a : Run
    a = run_items c.mode AtStart xs

    by : (o : Option Halt) (f : Option Fault) (e : Bool) → (held c xs).halt ≡ o → a.fault ≡ f → is_at_end a.place ≡ e → Unmet c xs
    by (Some h) f e i j k = let t = held_outcome c xs h i in absurd (cc (sym none ∙ ap (λ o. met_after c o a.fault None (is_at_end a.place)) i ∙ t.is))
    by None (Some f) e i j k = absurd (cc (sym none ∙ ap (λ o. met_after c o a.fault None (is_at_end a.place)) i ∙ ap (λ o. met_after c None o None (is_at_end a.place)) j))
    by None None true i j k = absurd (cc (sym none ∙ ap (λ o. met_after c o a.fault None (is_at_end a.place)) i ∙ ap (λ o. met_after c None o None (is_at_end a.place)) j ∙ ap (λ b. met_after c None None None b) k))
    by None None false i j k = let u : ends c.mode xs ≡ false = sym (run_reads c.mode xs).ended ∙ k in record { halt = i; unended = u; sound = sym (fault_is c.mode xs u) ∙ j }

pub record Standing (c : Course) (cl : Client) : Type 0 where
  pub items : List Item
  pub is : cl ≡ client_with c items
  pub unmet : Unmet c items
  pub behind : IsBehind (run_items c.mode AtStart items).place c.mode

stands_on : (c : Course) (ks : List Checked) (xs : List Item) → IsBehind (run_items c.mode AtStart xs).place c.mode → (take_course c (client_with c xs) ks).met ≡ None → Standing c (take_course c (client_with c xs) ks)
stands_on c [] xs b none = record { items = xs; is = refl; unmet = unmet c xs none; behind = b }
stands_on c (k ∷ more) xs b none = by (client_with c xs).met refl (stands_on c more (xs ++ items_of (ask c false) k.message))
  where
    its : List Item
    its = items_of (ask c false) k.message

    by : (o : Option Outcome) → (client_with c xs).met ≡ o
        → (IsBehind (run_items c.mode AtStart (xs ++ its)).place c.mode → (take_course c (client_with c (xs ++ its)) more).met ≡ None → Standing c (take_course c (client_with c (xs ++ its)) more))
        → Standing c (take_course c (client_with c xs) (k ∷ more))
    by (Some o) h on = absurd (cc (sym none ∙ ap (λ x. x.met) (met_stays c (client_with c xs) (k ∷ more) o h) ∙ h))
    by None h on =
        let u = unmet c xs h in
        let next : take_checked c (client_with c xs) k ≡ client_with c (xs ++ its) = next_client c xs k u.halt u.unended u.sound in
        let place : (run_items c.mode AtStart (xs ++ its)).place ≡ (run_items c.mode (run_items c.mode AtStart xs).place its).place = ap (λ x. x.place) (run-append c.mode AtStart xs its u.sound) in
        let behind = subst (λ p. IsBehind p c.mode) (sym place) (run_behind c.mode (run_items c.mode AtStart xs).place its b) in
        subst (λ x. Standing c (take_course c x more)) (sym next) (on behind (sym (ap (λ x. (take_course c x more).met) next) ∙ none))

-- the client that has taken a first message
record First (c : Course) (k : Checked) : Type 0 where
  is : take_checked c (new_client c) k ≡ client_with c (items_of (ask c true) k.message)
  behind : IsBehind (run_items c.mode AtStart (items_of (ask c true) k.message)).place c.mode

first_taken : (c : Course) (k : Checked) → (take_checked c (new_client c) k).met ≡ None → First c k
first_taken c k none = by (held c its).halt a.fault (signal_of false a) refl refl refl
  where
    its : List Item
    its = items_of (ask c true) k.message

    a : Run
    a = run_items c.mode AtStart its

    by : (o : Option Halt) (f : Option Fault) (n : Option ℕ) → (held c its).halt ≡ o → a.fault ≡ f → signal_of false a ≡ n → First c k
    by (Some h) f n i j s = let t = held_outcome c its h i in absurd (cc (sym none ∙ ap (λ o. met_after c o a.fault (signal_of false a) (is_at_end a.place)) i ∙ t.is))
    by None (Some f) n i j s = absurd (cc (sym none ∙ ap (λ o. met_after c o a.fault (signal_of false a) (is_at_end a.place)) i ∙ ap (λ o. met_after c None o (signal_of false a) (is_at_end a.place)) j))
    by None None (Some n) i j s =
        absurd (cc (sym none ∙ ap (λ o. met_after c o a.fault (signal_of false a) (is_at_end a.place)) i ∙ ap (λ o. met_after c None o (signal_of false a) (is_at_end a.place)) j ∙ ap (λ o. met_after c None None o (is_at_end a.place)) s))
    by None None None i j s = record {
      is = ap (λ o. record { begun = true; place = a.place; progress = (held c its).progress; met = met_after c (held c its).halt a.fault o (is_at_end a.place) }) s;
      behind = items_behind c.mode (ask c true k.message) k.message.answers (first_begins c.id c.question k.message) j s;
    }

pub standing : (c : Course) (k : Checked) (more : List Checked) → (take_course c (new_client c) (k ∷ more)).met ≡ None → Standing c (take_course c (new_client c) (k ∷ more))
standing c k more none = by (take_checked c (new_client c) k).met refl
  where
    cl : Client
    cl = take_checked c (new_client c) k

    by : (o : Option Outcome) → cl.met ≡ o → Standing c (take_course c cl more)
    by (Some o) h = absurd (cc (sym none ∙ ap (λ x. x.met) (met_stays c cl more o h) ∙ h))
    by None h =
        let f = first_taken c k h in
        subst (λ x. Standing c (take_course c x more)) (sym f.is) (stands_on c more (items_of (ask c true) k.message) f.behind (sym (ap (λ x. (take_course c x more).met) f.is) ∙ none))

-- ---- the laws

pub between_messages : BetweenMessages
between_messages c [] none = record { place = tt; before_end = refl }
between_messages c (k ∷ more) none =
    let s = standing c k more none in
    let a : Run = run_items c.mode AtStart s.items in
    let end : is_at_end a.place ≡ false = (run_reads c.mode s.items).ended ∙ s.unmet.unended in
    subst (λ x. StandsBetween c x) (sym s.is) (record { place = way_behind a.place c.mode s.behind end; before_end = end })

pub updates_in_turn : UpdatesInTurn
updates_in_turn c [] k f none h = held_denies c (items_of (ask c true) k.message) f h
updates_in_turn c (n ∷ more) k f none h =
    let s = standing c n more none in
    let its : List Item = items_of (ask c false) k.message in
    let held_so : Client → Option Halt = λ x. (apply_within (room c) x.progress (run_message c x k).updates).halt in
    held_denies c (s.items ++ its) f (sym (ap (λ (x : Held). x.halt) (held_more c s.items its s.unmet.sound s.unmet.halt)) ∙ sym (ap held_so s.is) ∙ h)
