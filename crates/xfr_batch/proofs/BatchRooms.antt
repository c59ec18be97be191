-- A record that was pushed has room in an empty batch.
use Rattle.std.proofs.Common.{◌≡◌, ℕ, ◌≤◌, Bool, true, false, true≢false, List, [], ◌∷◌, ◌++◌, length, refl, sym, ap, ◌∙◌, subst, arith}
use Rattle.std.specs.Prelude.{All, Option, Some, None, Result, Ok, Err, flat_map}
use Rattle.std.proofs.lemmas.List.{append_assoc, append-nil, append_cancel_left, length-append}
use Rattle.std.proofs.lemmas.List.Concat.{flat_map-append}
use Rattle.std.proofs.lemmas.List.Elements.{All-head, All-tail}
use Rattle.dns_rdata.specs.Records.{Record, record_wire}
use Rattle.dns_wire.specs.Wire.{Building}
use Rattle.dns_wire.proofs.Questions.{not_fitting}
use Rattle.xfr_batch.specs.Batches.{Beginning, message_with, has_room, is_last, Batch, joined, IsBatch, Batching, IsBegun, Stands}
use Rattle.xfr_batch.specs.BatchCalls.{HandsOn, BeginsAlike, ByPush, Moves, last_state, entered, Gains, NotPushed, Pushes}
use Rattle.xfr_batch.specs.declared.batcher.PushResult.{PushResult}
use Rattle.xfr_batch.specs.declared.batcher.PushResult.TheVariants.{PushedAndReadyForMore, PushedAndLimitReached, NotPushedMessageFull, Retry}
use Rattle.dns_wire.specs.declared.builder.PushError.{PushError}
use Rattle.xfr_batch.proofs.BatchAdding.{wire_length}

-- ---- lists

pub not_nil : {X : Type 0} (xs : List X) (x : X) → xs ++ x ∷ [] ≡ [] → ⊥
not_nil [] x e = cc
not_nil (y ∷ ys) x e = cc

pub right_nil : {X : Type 0} (xs ys : List X) → xs ++ ys ≡ [] → ys ≡ []
right_nil [] ys e = e
right_nil (x ∷ xs) ys e = cc

left_nil : {X : Type 0} (xs ys : List X) → xs ++ ys ≡ [] → xs ≡ []
left_nil [] ys e = refl
left_nil (x ∷ xs) ys e = cc

pub joined_more : {T : Type 0} (batches handed : List (Batch T)) → joined (batches ++ handed) ≡ joined batches ++ joined handed
joined_more batches handed = flat_map-append (λ b. b.records) batches handed

-- where a list ends with x, so does its last part
last_part : {X : Type 0} (xs ys front : List X) (x : X) → (ys ≡ [] → ⊥) → front ++ x ∷ [] ≡ xs ++ ys → (before : List X) × (ys ≡ before ++ x ∷ [])
last_part [] ys front x some e = (front, sym e)
last_part (a ∷ xs) ys [] x some e =
    let none : xs ++ ys ≡ [] = cc in
    absurd (some (right_nil xs ys none))
last_part (a ∷ xs) ys (b ∷ front) x some e =
    let rest : front ++ x ∷ [] ≡ xs ++ ys = cc in
    last_part xs ys front x some rest

each_of_last : {X : Type 0} (P : X → Type 0) (xs ys : List X) → All P (xs ++ ys) → All P ys
each_of_last P [] ys each = each
each_of_last P (x ∷ xs) ys each = each_of_last P xs ys (All-tail P x (xs ++ ys) each)

-- ---- one message

records_shorter : (answers xs ys : List Record)
    → length (flat_map record_wire (answers ++ ys)) ≤ length (flat_map record_wire (answers ++ (xs ++ ys)))
records_shorter answers xs ys =
    omega (
      arith,
      ap length (flat_map-append record_wire answers ys),
      length-append (flat_map record_wire answers) (flat_map record_wire ys),
      ap length (flat_map-append record_wire answers (xs ++ ys)),
      length-append (flat_map record_wire answers) (flat_map record_wire (xs ++ ys)),
      ap length (flat_map-append record_wire xs ys),
      length-append (flat_map record_wire xs) (flat_map record_wire ys),
    )

shorter : (b : Beginning) (xs ys : List Record) → length (message_with b ys).octets ≤ length (message_with b (xs ++ ys)).octets
shorter b xs ys =
    omega (
      arith,
      wire_length b.header b.questions (b.answers ++ ys),
      wire_length b.header b.questions (b.answers ++ (xs ++ ys)),
      records_shorter b.answers xs ys,
    )

fits_at : (b : Beginning) (xs ys : List Record) (t : Bool) → has_room b ys ≡ t → has_room b (xs ++ ys) ≡ true → has_room b ys ≡ true
fits_at b xs ys true is room = is
fits_at b xs ys false is room =
    let none = not_fitting b.limit (message_with b ys).octets (message_with b (xs ++ ys)).octets (shorter b xs ys) is in
    absurd (true≢false (sym room ∙ none))

-- a record that ends a message with room for all has room without the others
room_at_end : (b : Beginning) (rs front : List Record) (r : Record) → rs ≡ front ++ r ∷ [] → has_room b rs ≡ true → has_room b (r ∷ []) ≡ true
room_at_end b rs front r is room = fits_at b front (r ∷ []) (has_room b (r ∷ [])) refl (ap (has_room b) (sym is) ∙ room)

pub begun_none : (b : Beginning) (f : Building → Bool) (rs : List Record) (kept : Option Building) → kept ≡ None → IsBegun b f rs kept → rs ≡ []
begun_none b f rs kept is begun =
    let P : Option Building → Type 0 = λ k. IsBegun b f rs k in
    subst P is begun

-- ---- batches

-- the record that ends some batches has room in an empty one that begins as the last of them did
room_in_last : {T : Type 0} (begins : T → Beginning) (is_full : T → Building → Bool) (s : T) (batches : List (Batch T)) (front : List Record) (r : Record)
    → All (IsBatch begins is_full) batches → front ++ r ∷ [] ≡ joined batches → has_room (begins (last_state s batches)) (r ∷ []) ≡ true
room_in_last begins is_full s [] front r each e = absurd (not_nil front r e)
room_in_last begins is_full s (b ∷ []) front r each e =
    let is = All-head (IsBatch begins is_full) b [] each in
    room_at_end (begins b.state) b.records front r (sym (append-nil b.records) ∙ sym e) is.within
room_in_last begins is_full s (b ∷ (c ∷ batches)) front r each e =
    let rest = All-tail (IsBatch begins is_full) b (c ∷ batches) each in
    let some : joined (c ∷ batches) ≡ [] → ⊥ = λ none. (All-head (IsBatch begins is_full) c batches rest).some (left_nil c.records (joined batches) none) in
    let part = last_part b.records (joined (c ∷ batches)) front r some e in
    room_in_last begins is_full b.state (c ∷ batches) part.0 r rest (sym part.1)

-- so has one that ends them and what is begun, as its own batch began
room_entered : {T : Type 0} (begins : T → Beginning) (is_full : T → Building → Bool) (s : T) (answer : Option Building) (handed : List (Batch T)) (begun front : List Record) (r : Record)
    → All (IsBatch begins is_full) handed → IsBegun (begins s) (is_full s) begun answer → front ++ r ∷ [] ≡ joined handed ++ begun
    → has_room (begins (entered answer handed s)) (r ∷ []) ≡ true
room_entered begins is_full s None handed begun front r each is e =
    room_in_last begins is_full s handed front r each (e ∙ ap (λ xs. joined handed ++ xs) is ∙ append-nil (joined handed))
room_entered begins is_full s (Some m) handed begun front r each is e =
    let part = last_part (joined handed) begun front r is.0 e in
    room_at_end (begins s) begun part.0 r part.1 is.2

module _ {T E : Type 0} (begins : T → List ℕ → Beginning) (is_full : T → Building → Bool) (Readies : T → Building → Bool → Result (Unit {0}) E → T → Type 0) where
  -- what a push handed on and began, behind what was handed on before
  pushed_since : (r : Record) (old new : Batching T) (pushed : List Record) (batches : List (Batch T)) (st : Stands begins is_full old pushed batches)
      (mv : Moves begins is_full Readies (ByPush r) old (pushed ++ r ∷ []) batches new) → st.begun ++ r ∷ [] ≡ joined mv.handed ++ mv.stands.begun
  pushed_since r old new pushed batches st mv =
      let before = sym (append_assoc (joined batches) st.begun (r ∷ [])) ∙ ap (λ xs. xs ++ r ∷ []) (sym st.all) in
      let after = ap (λ xs. xs ++ mv.stands.begun) (joined_more batches mv.handed) ∙ append_assoc (joined batches) (joined mv.handed) mv.stands.begun in
      append_cancel_left (joined batches) (st.begun ++ r ∷ []) (joined mv.handed ++ mv.stands.begun) (before ∙ mv.stands.all ∙ after)

  pub gains : (r : Record) (old new : Batching T) (pushed : List Record) (batches : List (Batch T)) → Stands begins is_full old pushed batches
      → Moves begins is_full Readies (ByPush r) old (pushed ++ r ∷ []) batches new → Gains begins is_full Readies r old pushed batches new
  gains r old new pushed batches st mv =
      let each = each_of_last (IsBatch (λ s. begins s new.request) is_full) batches mv.handed mv.stands.each in
      record {
        moves = mv;
        fits = room_entered (λ s. begins s new.request) is_full new.state new.answer mv.handed mv.stands.begun st.begun r each mv.stands.message
            (pushed_since r old new pushed batches st mv);
      }

-- ---- batches that begin alike

module _ {T E : Type 0} (begins : T → Beginning) (Readies : T → Building → Bool → Result (Unit {0}) E → T → Type 0) (alike : BeginsAlike begins Readies) where
  pub begins_after : (s : T) (batches : List (Batch T)) (t : T) → HandsOn begins Readies s batches t → begins t ≡ begins s
  begins_after s [] t h = ap begins (sym h)
  begins_after s (b ∷ batches) t h =
      begins_after h.1.0 batches t h.1.1.1 ∙ alike s h.1.0 (message_with (begins s) b.records) (is_last b.ending) h.1.1.0

  begins_last : (s x : T) (batches : List (Batch T)) (t : T) → begins x ≡ begins s → HandsOn begins Readies s batches t → begins (last_state x batches) ≡ begins s
  begins_last s x [] t same h = same
  begins_last s x (b ∷ batches) t same h =
      let kept = alike s h.1.0 (message_with (begins s) b.records) (is_last b.ending) h.1.1.0 in
      begins_last h.1.0 b.state batches t (ap begins h.0 ∙ sym kept) h.1.1.1 ∙ kept

  pub begins_entered : (s : T) (answer : Option Building) (batches : List (Batch T)) (t : T) → HandsOn begins Readies s batches t
      → begins (entered answer batches t) ≡ begins s
  begins_entered s None batches t h = begins_last s t batches t (begins_after s batches t h) h
  begins_entered s (Some m) batches t h = begins_after s batches t h

module _ {T E : Type 0} (begins : T → List ℕ → Beginning) (is_full : T → Building → Bool) (Readies : T → Building → Bool → Result (Unit {0}) E → T → Type 0) (From : PushError → E → Type 0) where
  -- what was pushed had room before
  pub room_before : (r : Record) (old new : Batching T) (pushed : List Record) (batches : List (Batch T)) → BeginsAlike (λ s. begins s old.request) Readies
      → Gains begins is_full Readies r old pushed batches new → has_room (begins old.state old.request) (r ∷ []) ≡ true
  room_before r old new pushed batches alike g =
      let mv = g.moves in
      let same = begins_entered (λ s. begins s old.request) Readies alike old.state new.answer mv.handed new.state mv.hands_on in
      ap (λ b. has_room b (r ∷ [])) (sym same) ∙ ap (λ q. has_room (begins (entered new.answer mv.handed new.state) q) (r ∷ [])) (sym mv.same_request) ∙ g.fits

  pub no_room_refused : (old new : Batching T) (pushed : List Record) (batches : List (Batch T)) (r : Record) (result : Result PushResult E) → BeginsAlike (λ s. begins s old.request) Readies
      → has_room (begins old.state old.request) (r ∷ []) ≡ false → Pushes begins is_full Readies From r old pushed batches result new
      → (e : E) × ((result ≡ Err e) × NotPushed begins is_full Readies From r old pushed batches e new)
  no_room_refused old new pushed batches r (Ok PushedAndReadyForMore) alike none p =
      absurd (true≢false (sym (room_before r old new pushed batches alike p) ∙ none))
  no_room_refused old new pushed batches r (Ok (PushedAndLimitReached m)) alike none p = absurd p
  no_room_refused old new pushed batches r (Ok (NotPushedMessageFull m)) alike none p = absurd p
  no_room_refused old new pushed batches r (Ok Retry) alike none p = absurd p
  no_room_refused old new pushed batches r (Err e) alike none p = (e, (refl, p))
