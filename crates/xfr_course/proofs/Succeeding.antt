-- What a granting primary sends, carried by signed messages, brings a secondary that fits it up to date.
use Rattle.std.proofs.Common.{◌≡◌, ℕ, ◌≤◌, Bool, true, false, cond, if◌then◌else◌, ◌&&◌, ◌||◌, ◌==◌, nat_lt, nat_le, not, inl, inr, List, [], ◌∷◌, ◌++◌, length, map, take, refl, sym, ap, ◌∙◌, subst, true≢false, Option, Some, None, is_some, IsTrue, eq-eqb, le-ltb, arith}
use Rattle.std.specs.Option.{option_map_or}
use Rattle.std.specs.List.{AllByRecursion, last_or}
use Rattle.std.specs.Cmp.{first_so, second_so}
use Rattle.std.proofs.lemmas.Bool.{lt-leb}
use Rattle.std.proofs.lemmas.List.{take_all}
use Rattle.dns_numbers.specs.Serial.{serial_lt, serial_upto}
use Rattle.dns_rdata.specs.Records.{Field, Record}
use Rattle.dns_numbers.specs.Codes.{type_soa}
use Rattle.dns_rdata.specs.Soa.{serial_of}
use Rattle.zone_model.specs.Version.{RecordSet, first_or_none, Version, Same, data_at, has_one_apex_soa}
use Rattle.zone_model.specs.Answer.{apex_soa_record}
use Rattle.zone_model.specs.Difference.{zone_serial}
use Rattle.zone_model.specs.TransferText.{Mode, Axfr, Ixfr, OnIxfr, ending}
use Rattle.zone_model.specs.Offer.{IsHistory, text_of, whole_text, changes_or_whole, successive}
use Rattle.zone_model.specs.Spells.{Spelling, spelling}
use Rattle.xfr_model.specs.Messages.{ReadMessage}
use Rattle.xfr_model.specs.Read.{Fault, lone_soa, retry, request_fault, read_by, read, ReadText, fault_of_all}
use Rattle.zone_model.specs.TransferLaws.{IsPublished, IsWhole, IsChanges, EndsIn}
use Rattle.xfr_model.specs.Carried.{Carrier, Carries, carried_messages, carried_text, EndsWhole}
use Rattle.zone_model.proofs.Valid.{one_soa}
use Rattle.zone_model.proofs.WholeText.{apex_soa_record-is, whole_is_text, soa_of}
use Rattle.zone_model.proofs.ChangesText.{last_published, changes_is_text}
use Rattle.xfr_model.proofs.PageReading.{pages_are_read}
use Rattle.xfr_course.specs.Outcome.{Outcome, Updated, UpToDate, RetrySignal, VersionsExhausted, Checked, Course, outcome, made, made_unless, unless_retry, after_fault, base_serial, room, messages_of}
use Rattle.xfr_course.specs.Granting.{Ends, IsGranting, asked_serial, sent_text, begins_together, has_more}
use Rattle.xfr_course.specs.Success.{signed_checked, sent_course, CarrySent, Succeeds, GrantedSucceeds}
use Rattle.xfr_course.proofs.GrantingLaw.{not_ahead, granting_spells}

-- ---- texts that end with their last record

whole_ends : (mode : Mode) (l : List Record) → IsWhole mode l → EndsWhole mode l
whole_ends mode l w = subst (EndsWhole mode) (sym w.joined) (record { last = w.soa; is = ap ending w.reads })

changes_ends : (l : List Record) → IsChanges l → EndsWhole Ixfr l
changes_ends l w = subst (EndsWhole Ixfr) (sym w.joined) (record { last = w.soa; is = ap ending w.reads })

two_records : (l : List Record) → EndsWhole Ixfr l → nat_le (length l) 1 ≡ false
two_records [] w = absurd (true≢false (sym (ap is_some w.is)))
two_records (s ∷ []) w = absurd (true≢false (sym (ap is_some w.is)))
two_records (s ∷ r ∷ l) w = lt-leb (length (s ∷ r ∷ l)) 1 (omega arith)

messages_are : (ks : List Carrier) → map (λ (m : Checked). m.message) (map signed_checked ks) ≡ carried_messages ks
messages_are [] = refl
messages_are (k ∷ ks) = ap (λ l. k.message ∷ l) (messages_are ks)

-- ---- a retry signal

no_lone_page : (page : List Record) → nat_le 2 (length page) ≡ true → lone_soa (map Some page) ≡ None
no_lone_page [] h = absurd (true≢false (sym h))
no_lone_page (r ∷ []) h = absurd (true≢false (sym h))
no_lone_page (r ∷ s ∷ page) h = refl

abbrev is_long : List Record → Bool
is_long [] = false
is_long (r ∷ []) = false
is_long (r ∷ s ∷ l) = true

first_retry : (fault_of : Bool → ReadMessage → Option Fault) (k : Carrier) (ms : List ReadMessage) → Carries fault_of true k → retry Ixfr fault_of (k.message ∷ ms) ≡ lone_soa (map Some k.page)
first_retry fault_of k ms c = ap (λ o. if is_some o then None else lone_soa k.message.answers) c.sound ∙ ap lone_soa c.answers

lone_page : (page more : List Record) (s : Record) → not (length page == 0) ≡ true → page ++ more ≡ s ∷ [] → page ≡ s ∷ []
lone_page [] more s full h = absurd (true≢false (sym full))
lone_page (r ∷ []) [] s full h = h
lone_page (r ∷ []) (x ∷ more) s full h = absurd (true≢false (ap is_long h))
lone_page (r ∷ x ∷ page) more s full h = absurd (true≢false (ap is_long h))

-- the one SOA's serial
own_serial : (items : List (List Field)) → (length items == 1) ≡ true → option_map_or (λ d. Some (serial_of d)) (first_or_none items) None ≡ Some (option_map_or serial_of (first_or_none items) 0)
own_serial [] h = absurd (true≢false (sym h))
own_serial (d ∷ items) h = refl

module _ (e : Ends) (id : ℕ) (k : Carrier) (more : List Carrier) (stop : Outcome) (g : IsGranting e) (p : AllByRecursion (IsPublished e.base.apex) e.history) (sent : CarrySent e id k more) where
  abbrev u : Version
  u = e.offer.version

  abbrev c : Course
  c = sent_course e id (k ∷ more) stop

  abbrev F : Bool → ReadMessage → Option Fault
  F = request_fault id e.question

  abbrev S : Spelling
  S = spelling e.mode (sent_text e) e.base

  spells : EndsIn S e.base u
  spells = granting_spells e g p

  -- where the whole text is carried and no retry is signalled
  by_text : EndsWhole e.mode (sent_text e) → retry e.mode F (messages_of c) ≡ None → Succeeds c u
  by_text whole none =
      let w : EndsWhole e.mode (carried_text (k ∷ more)) = subst (EndsWhole e.mode) (sym sent.text) whole in
      let says : read e.mode id e.question (messages_of c) ≡ record { records = sent_text e; ended = true; fault = None } =
      ap (read_by e.mode F) (messages_are (k ∷ more)) ∙ pages_are_read e.mode F k more sent.first sent.later w ∙ ap (λ l. record { records = l; ended = true; fault = None }) sent.text in
      let numbers = g.numbers_left in
      let few : length S.versions ≤ room c = omega (arith, numbers) in
      let fits : nat_lt (room c) (length S.versions) ≡ false = le-ltb (room c) (length S.versions) few in
      let done : outcome c ≡ Updated =
      ap (unless_retry c) none
      ∙ ap (λ (t : ReadText). if nat_lt (room c) (length (spelling e.mode t.records e.base).versions) then VersionsExhausted else after_fault c (fault_of_all (spelling e.mode t.records e.base).fault t.fault)) says
      ∙ ap (λ b. if b then VersionsExhausted else after_fault c (fault_of_all S.fault None)) fits
      ∙ ap (λ f. after_fault c (fault_of_all f None)) spells.whole
      ∙ ap (λ (t : ReadText). if t.ended then Updated else stop) says in
      let makes : made c ≡ S.versions = ap (made_unless c) none ∙ ap (λ (t : ReadText). take (room c) (spelling e.mode t.records e.base).versions) says ∙ take_all (room c) S.versions few in
      record { how = inl done; last = spells.last; stands = ap (last_or (Some e.base)) makes ∙ spells.stands; same = spells.same }

  published : (h : List Version) → last_or None h ≡ Some u → AllByRecursion (IsPublished e.base.apex) h → IsPublished e.base.apex u
  published [] q a = absurd (true≢false (sym (ap is_some q)))
  published (v ∷ vs) q a = last_published (IsPublished e.base.apex) v vs u q a

  pu : IsPublished e.base.apex u
  pu = published e.history g.offered.ends p

  module _ (ixfr : e.mode ≡ Ixfr) where
    on : (P : Type 0) → OnIxfr e.mode P → P
    on P h = subst (λ m. OnIxfr m P) ixfr h

    -- the answer to a secondary that has caught up
    up_to_date : serial_upto (zone_serial u) (asked_serial e) ≡ true → Succeeds c u
    up_to_date b =
        let asks = on (IsTrue (has_one_apex_soa e.base && not (serial_lt (zone_serial u) (asked_serial e)))) g.asks in
        let equal : asked_serial e ≡ zone_serial u = not_ahead (asked_serial e) (zone_serial u) (second_so (has_one_apex_soa e.base) _ asks) b in
        let s = one_soa u pu.valid pu.one_soa in
        let text : sent_text e ≡ soa_of u s ∷ [] =
        ap (λ m. text_of e.offer m (asked_serial e)) ixfr ∙ ap (λ x. cond x (apex_soa_record u) (changes_or_whole u e.offer.differences)) b ∙ apex_soa_record-is u s in
        let page : k.page ≡ soa_of u s ∷ [] = lone_page k.page (carried_text more) (soa_of u s) sent.first.full (sent.text ∙ text) in
        let retried : retry e.mode F (messages_of c) ≡ Some (serial_of s.fields) =
        ap (λ m. retry m F (messages_of c)) ixfr ∙ first_retry F k (map (λ (m : Checked). m.message) (map signed_checked more)) sent.first ∙ ap (λ l. lone_soa (map Some l)) page in
        let told : zone_serial u ≡ serial_of s.fields = ap (λ o. option_map_or serial_of (first_or_none (option_map_or (λ (x : RecordSet). x.items) o [])) 0) s.stands in
        let own : base_serial c ≡ Some (asked_serial e) = own_serial (data_at e.base e.base.apex type_soa) (first_so (has_one_apex_soa e.base) _ asks) in
        let same_number : (asked_serial e == serial_of s.fields) ≡ true = eq-eqb (asked_serial e) (serial_of s.fields) (equal ∙ told) in
        let done : outcome c ≡ UpToDate =
        ap (unless_retry c) retried ∙ ap (λ o. if option_map_or (λ n. n == serial_of s.fields) o false then UpToDate else RetrySignal) own ∙ ap (λ x. if x then UpToDate else RetrySignal) same_number in
        let makes : made c ≡ [] = ap (made_unless c) retried in
        record { how = inr done; last = e.base; stands = ap (last_or (Some e.base)) makes; same = on (asked_serial e ≡ zone_serial u → Same e.base u) g.caught_up equal }

    has_middle : (text : List Record) → sent_text e ≡ text → IsTrue (not (length text == 2))
    has_middle text q = subst (λ l. IsTrue (not (length l == 2))) q (second_so (begins_together e) (has_more e) (on (IsTrue (begins_together e && has_more e)) g.together))

    newer : (h : List Version) → e.history ≡ h → sent_text e ≡ changes_or_whole u e.offer.differences → EndsWhole Ixfr (changes_or_whole u e.offer.differences)
    newer [] q s = absurd (true≢false (sym (ap is_some (sym (ap (last_or None) q) ∙ g.offered.ends))))
    newer (v ∷ []) q s =
        let none : changes_or_whole u e.offer.differences ≡ whole_text u = ap (changes_or_whole u) (g.offered.tells ∙ ap successive q) in
        subst (EndsWhole Ixfr) (sym none) (whole_ends Ixfr (whole_text u) (whole_is_text Ixfr u pu.valid pu.one_soa (has_middle (whole_text u) (s ∙ none))))
    newer (v ∷ w ∷ vs) q s =
        let h : IsHistory e.offer (v ∷ w ∷ vs) = subst (IsHistory e.offer) q g.offered in
        let all : AllByRecursion (IsPublished e.base.apex) (v ∷ w ∷ vs) = subst (AllByRecursion (IsPublished e.base.apex)) q p in
        let t = changes_is_text e.offer e.base.apex v w vs h all in
        subst (EndsWhole Ixfr) (sym t.1) (changes_ends _ t.0)

    incremental : (b : Bool) → serial_upto (zone_serial u) (asked_serial e) ≡ b → Succeeds c u
    incremental true b = up_to_date b
    incremental false b =
        let text : sent_text e ≡ changes_or_whole u e.offer.differences = ap (λ m. text_of e.offer m (asked_serial e)) ixfr ∙ ap (λ x. cond x (apex_soa_record u) (changes_or_whole u e.offer.differences)) b in
        let whole : EndsWhole Ixfr (sent_text e) = subst (EndsWhole Ixfr) (sym text) (newer e.history refl text) in
        let both = on (IsTrue (nat_le (length (sent_text e)) 1 || nat_le 2 (length k.page))) sent.together in
        let two : nat_le 2 (length k.page) ≡ true = sym (ap (λ x. x || nat_le 2 (length k.page)) (two_records (sent_text e) whole)) ∙ both in
        by_text (subst (λ m. EndsWhole m (sent_text e)) (sym ixfr) whole) (ap (λ m. retry m F (messages_of c)) ixfr ∙ first_retry F k (map (λ (m : Checked). m.message) (map signed_checked more)) sent.first ∙ no_lone_page k.page two)

  by_mode : (m : Mode) → e.mode ≡ m → Succeeds c u
  by_mode Axfr q =
      let text : sent_text e ≡ whole_text u = ap (λ m. text_of e.offer m (asked_serial e)) q in
      let whole : EndsWhole Axfr (sent_text e) = subst (EndsWhole Axfr) (sym text) (whole_ends Axfr (whole_text u) (whole_is_text Axfr u pu.valid pu.one_soa tt)) in
      by_text (subst (λ m. EndsWhole m (sent_text e)) (sym q) whole) (ap (λ m. retry m F (messages_of c)) q)
  by_mode Ixfr q = incremental q (serial_upto (zone_serial u) (asked_serial e)) refl

pub granted_succeeds : GrantedSucceeds
granted_succeeds e id k more stop g p sent = by_mode e id k more stop g p sent e.mode refl
