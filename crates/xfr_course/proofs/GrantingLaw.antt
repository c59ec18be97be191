-- Under the premises of success what is sent leads to the version that is offered.
use Rattle.std.proofs.Common.{◌≡◌, ℕ, Bool, true, false, cond, ◌&&◌, ◌==◌, not, ⊎_elim, List, [], ◌∷◌, length, refl, sym, ap, ◌∙◌, subst, true≢false, Some, None, is_some, unwrap_or, IsTrue, eqb-true}
use Rattle.std.specs.List.{AllByRecursion, last_or}
use Rattle.std.specs.Cmp.{first_so, second_so}
use Rattle.std.specs.Cmp.Lexicographic.{pointwise}
use Rattle.dns_rdata.specs.Records.{Record}
use Rattle.dns_numbers.specs.Serial.{serial_lt, serial_upto}
use Rattle.zone_model.specs.Version.{Version, Same, same_version, has_one_apex_soa}
use Rattle.zone_model.specs.Answer.{apex_soa_record}
use Rattle.zone_model.specs.Edits.{with_sets}
use Rattle.zone_model.specs.Difference.{zone_serial}
use Rattle.zone_model.specs.TransferText.{Mode, Axfr, Ixfr, OnIxfr}
use Rattle.zone_model.specs.Offer.{IsHistory, text_of, whole_text, changes_or_whole, changes_text, successive, first_is}
use Rattle.zone_model.specs.Spells.{Spelling, spelling}
use Rattle.xfr_course.specs.Granting.{Ends, IsGranting, asked_serial, sent_text, begins_together, has_more, GrantingSpells}
use Rattle.zone_model.specs.TransferLaws.{HasMiddle, IsPublished, SpellsAll, EndsIn}
use Rattle.zone_model.proofs.Valid.{one_soa}
use Rattle.zone_model.proofs.WholeText.{apex_soa_record-is, whole_spells}
use Rattle.zone_model.proofs.ChangesText.{last_published, changes_is_text, changes_spell}
use Rattle.std.proofs.lemmas.Bool.{or_cases}

-- ---- serials

-- a serial that is equal or greater, and not greater, is equal
pub not_ahead : (m n : ℕ) → not (serial_lt n m) ≡ true → serial_upto n m ≡ true → m ≡ n
not_ahead m n h k = ⊎_elim (λ a. sym (eqb-true n m a)) (λ a. absurd (true≢false (sym h ∙ ap not a))) (or_cases (n == m) _ k)

-- ---- the last of what is spelt

record LastSame (first : Version) (rest : List Version) (w : Version) : Type 0 where
  last : Version
  stands : last_or (Some first) rest ≡ Some last
  same : Same last w

last_same : (x v : Version) (xs vs : List Version) (u : Version) → Same x v → pointwise same_version xs vs ≡ true → last_or (Some v) vs ≡ Some u → LastSame x xs u
last_same x v [] [] u s h e = record { last = x; stands = refl; same = subst (Same x) (ap (λ o. unwrap_or o v) e) s }
last_same x v [] (w ∷ vs) u s h e = absurd (true≢false (sym h))
last_same x v (y ∷ xs) [] u s h e = absurd (true≢false (sym h))
last_same x v (y ∷ xs) (w ∷ vs) u s h e = let r = last_same y w xs vs u (first_so (same_version y w) _ h) (second_so (same_version y w) _ h) e in record { last = r.last; stands = r.stands; same = r.same }

ends_history : (s : Spelling) (base v : Version) (more : List Version) (u : Version) → SpellsAll s (v ∷ more) → last_or (Some v) more ≡ Some u → EndsIn s base u
ends_history s base v more u a e = by s.versions refl a.same
  where
    by : (xs : List Version) → s.versions ≡ xs → pointwise same_version xs (v ∷ more) ≡ true → EndsIn s base u
    by [] q h = absurd (true≢false (sym h))
    by (x ∷ xs) q h =
        let r = last_same x v xs more u (first_so (same_version x v) _ h) (second_so (same_version x v) _ h) e in
        record { last = r.last; stands = ap (last_or (Some base)) q ∙ r.stands; same = r.same; whole = a.whole }

-- ---- by the mode, and by what is sent

module _ (e : Ends) (g : IsGranting e) (p : AllByRecursion (IsPublished e.base.apex) e.history) where
  abbrev u : Version
  u = e.offer.version

  published : (h : List Version) → last_or None h ≡ Some u → AllByRecursion (IsPublished e.base.apex) h → IsPublished e.base.apex u
  published [] q a = absurd (true≢false (sym (ap is_some q)))
  published (v ∷ more) q a = last_published (IsPublished e.base.apex) v more u q a

  pu : IsPublished e.base.apex u
  pu = published e.history g.offered.ends p

  whole_sent : (mode : Mode) → OnIxfr mode (HasMiddle u) → EndsIn (spelling mode (whole_text u) e.base) e.base u
  whole_sent mode m =
      let w = whole_spells mode u e.base pu.valid pu.one_soa g.same_apex m in
      subst (λ s. EndsIn s e.base u) (sym w.0) (record { last = with_sets e.base u.sets; stands = refl; same = w.1; whole = refl })

  module _ (ixfr : e.mode ≡ Ixfr) where
    on : (P : Type 0) → OnIxfr e.mode P → P
    on P h = subst (λ m. OnIxfr m P) ixfr h

    up_to_date : serial_upto (zone_serial u) (asked_serial e) ≡ true → EndsIn (spelling Ixfr (apex_soa_record u) e.base) e.base u
    up_to_date b =
        let asks = on (IsTrue (has_one_apex_soa e.base && not (serial_lt (zone_serial u) (asked_serial e)))) g.asks in
        let equal : asked_serial e ≡ zone_serial u = not_ahead (asked_serial e) (zone_serial u) (second_so (has_one_apex_soa e.base) _ asks) b in
        let s = one_soa u pu.valid pu.one_soa in
        subst (λ l. EndsIn (spelling Ixfr l e.base) e.base u) (sym (apex_soa_record-is u s)) (record { last = e.base; stands = refl; same = on (asked_serial e ≡ zone_serial u → Same e.base u) g.caught_up equal; whole = refl })

    has_middle : (text : List Record) → sent_text e ≡ text → IsTrue (not (length text == 2))
    has_middle text q = subst (λ l. IsTrue (not (length l == 2))) q (second_so (begins_together e) (has_more e) (on (IsTrue (begins_together e && has_more e)) g.together))

    newer : (h : List Version) → e.history ≡ h → sent_text e ≡ changes_or_whole u e.offer.differences → EndsIn (spelling Ixfr (changes_or_whole u e.offer.differences) e.base) e.base u
    newer [] q s = absurd (true≢false (sym (ap is_some (sym (ap (last_or None) q) ∙ g.offered.ends))))
    newer (v ∷ []) q s =
        let none : changes_or_whole u e.offer.differences ≡ whole_text u = ap (changes_or_whole u) (g.offered.tells ∙ ap successive q) in
        subst (λ l. EndsIn (spelling Ixfr l e.base) e.base u) (sym none) (whole_sent Ixfr (has_middle (whole_text u) (s ∙ none)))
    newer (v ∷ w ∷ more) q s =
        let h : IsHistory e.offer (v ∷ w ∷ more) = subst (IsHistory e.offer) q g.offered in
        let all : AllByRecursion (IsPublished e.base.apex) (v ∷ w ∷ more) = subst (AllByRecursion (IsPublished e.base.apex)) q p in
        let first : Same e.base v = subst (λ l. IsTrue (first_is e.base l)) q (on (IsTrue (first_is e.base e.history)) g.starts) in
        subst (λ l. EndsIn (spelling Ixfr l e.base) e.base u) (sym (changes_is_text e.offer e.base.apex v w more h all).1)
        (ends_history (spelling Ixfr (changes_text u e.offer.differences) e.base) e.base v (w ∷ more) u (changes_spell e.offer v (w ∷ more) e.base h all first) h.ends)

    incremental : (b : Bool) → serial_upto (zone_serial u) (asked_serial e) ≡ b → EndsIn (spelling Ixfr (cond b (apex_soa_record u) (changes_or_whole u e.offer.differences)) e.base) e.base u
    incremental true b = up_to_date b
    incremental false b =
        newer e.history refl (ap (λ m. text_of e.offer m (asked_serial e)) ixfr ∙ ap (λ c. cond c (apex_soa_record u) (changes_or_whole u e.offer.differences)) b)

  by_mode : (m : Mode) → e.mode ≡ m → EndsIn (spelling m (text_of e.offer m (asked_serial e)) e.base) e.base u
  by_mode Axfr q = whole_sent Axfr tt
  by_mode Ixfr q = incremental q (serial_upto (zone_serial u) (asked_serial e)) refl

pub granting_spells : GrantingSpells
granting_spells e g p = by_mode e g p e.mode refl
