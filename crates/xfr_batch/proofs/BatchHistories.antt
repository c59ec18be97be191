-- What a batcher stands for after each call.
use Rattle.std.proofs.Common.{◌≡◌, ℕ, Bool, true, false, true≢false, List, [], ◌∷◌, ◌++◌, refl, sym, ap, ◌∙◌, subst}
use Rattle.std.specs.Prelude.{◌≢◌, All, Option, Some, None, Result, Ok, Err, flat_map}
use Rattle.std.proofs.lemmas.List.{append_assoc, append-nil}
use Rattle.std.proofs.lemmas.List.Elements.{All-nil, All-cons, All-append, All-push, All-weaker}
use Rattle.dns_rdata.specs.Records.{Record}
use Rattle.dns_wire.specs.Wire.{Building}
use Rattle.dns_wire.specs.declared.builder.PushError.{PushError}
use Rattle.dns_wire.specs.declared.builder.PushError.TheVariants.{ShortBuf, CountOverflow, Memory}
use Rattle.xfr_batch.specs.Batches.{Beginning, message_with, has_room, Ending, is_last, Batch, joined, MustEnd, IsBatch, Batching, batching, IsBegun, Stands, records_in}
use Rattle.xfr_batch.specs.Batches.Ending.{Full, NoRoomFor, Finished}
use Rattle.xfr_batch.specs.BatchCalls.{HandsOn, ByPush, ByFinish, Moves, Loses, taken_by, NotPushed, Pushes, Finishes}
use Rattle.xfr_batch.specs.BatchCalls.NotPushed.{NoRoom, NoMemory, Refused}
use Rattle.xfr_batch.specs.BatchSteps.{Joins, Opens, Tries, HandedOn, TriesOnce, TriesAgain}
use Rattle.xfr_batch.specs.declared.batcher.PushResult.{PushResult}
use Rattle.xfr_batch.specs.declared.batcher.PushResult.TheVariants.{PushedAndReadyForMore, PushedAndLimitReached, NotPushedMessageFull, Retry}
use Rattle.xfr_batch.proofs.BatchAdding.{room_for_fewer}
use Rattle.xfr_batch.proofs.BatchRooms.{not_nil, right_nil, joined_more, begun_none, gains}

-- ---- lists

joined_one : {T : Type 0} (batches : List (Batch T)) (b : Batch T) → joined (batches ++ b ∷ []) ≡ joined batches ++ b.records
joined_one batches b = joined_more batches (b ∷ []) ∙ ap (λ xs. joined batches ++ xs) (append-nil b.records)

snoc_front : {X : Type 0} (xs ys : List X) (x y : X) → xs ++ x ∷ [] ≡ ys ++ y ∷ [] → xs ≡ ys
snoc_front [] [] x y e = refl
snoc_front [] (b ∷ ys) x y e = let none : ys ++ y ∷ [] ≡ [] = cc in absurd (not_nil ys y none)
snoc_front (a ∷ xs) [] x y e = let none : xs ++ x ∷ [] ≡ [] = cc in absurd (not_nil xs x none)
snoc_front (a ∷ xs) (b ∷ ys) x y e =
    let tail : xs ++ x ∷ [] ≡ ys ++ y ∷ [] = cc in
    let head : a ≡ b = cc in
    let same = snoc_front xs ys x y tail in
    cc

-- ---- a record pushed to what is kept

begun_some : (b : Beginning) (f : Building → Bool) (rs : List Record) (m : Building) (kept : Option Building) → kept ≡ Some m → IsBegun b f rs kept
    → (rs ≢ []) × (m ≡ message_with b rs) × (has_room b rs ≡ true) × (f m ≡ false)
begun_some b f rs m kept is begun =
    let P : Option Building → Type 0 = λ k. IsBegun b f rs k in
    subst P is begun

-- what is begun isn't full
not_full : (b : Beginning) (f : Building → Bool) (rs : List Record) (kept : Option Building) → IsBegun b f rs kept → (rs ≡ [] → ⊥) → f (message_with b rs) ≡ false
not_full b f rs None begun some = absurd (some begun)
not_full b f rs (Some m) begun some = sym (ap f begun.1) ∙ begun.3

full_ends : (b : Beginning) (f : Building → Bool) (begun : List Record) (r : Record) (kept : Option Building) → IsBegun b f begun kept → f (message_with b (begun ++ r ∷ [])) ≡ true
    → MustEnd b f (begun ++ r ∷ []) Full
full_ends b f begun r kept had full =
    let before : (front : List Record) (last : Record) → begun ++ r ∷ [] ≡ front ++ last ∷ [] → (front ≡ [] → ⊥) → f (message_with b front) ≡ false =
    λ front last e some.
    let same : begun ≡ front = snoc_front begun front r last e in
    ap (λ rs. f (message_with b rs)) (sym same) ∙ not_full b f begun kept had (λ x. some (sym same ∙ x)) in
    (full, before)

pub begun_message : (b : Beginning) (f : Building → Bool) (rs : List Record) (m : Building) (kept : Option Building) → kept ≡ Some m → IsBegun b f rs kept → m ≡ message_with b rs
begun_message b f rs m kept is begun = (begun_some b f rs m kept is begun).1

pub begun_room : (b : Beginning) (f : Building → Bool) (rs : List Record) (m : Building) (kept : Option Building) → kept ≡ Some m → IsBegun b f rs kept → has_room b rs ≡ true
begun_room b f rs m kept is begun = (begun_some b f rs m kept is begun).2

pub tries_next : (b : Beginning) (f : Building → Bool) (r : Record) (begun : List Record) (m : Building) (old kept new : Option Building) (result : Result PushResult PushError)
    → old ≡ Some m → kept ≡ None → IsBegun b f begun old → Joins b f r begun kept result new → Tries b f r begun old result new
tries_next b f r begun m old kept new (Ok PushedAndReadyForMore) is none had j = j
tries_next b f r begun m old kept new (Ok (PushedAndLimitReached l)) is none had j = (j.0, j.1, j.2, j.3 ∙ none)
tries_next b f r begun m old kept new (Ok (NotPushedMessageFull l)) is none had j =
    let h = begun_some b f begun m old is had in
    (h.0, h.2, j.0, j.1, j.2 ∙ none)
tries_next b f r begun m old kept new (Ok Retry) is none had j = j
tries_next b f r begun m old kept new (Err ShortBuf) is none had j = absurd j
tries_next b f r begun m old kept new (Err CountOverflow) is none had j = j
tries_next b f r begun m old kept new (Err Memory) is none had j =
    let h = begun_some b f begun m old is had in
    (j.1 ∙ ap (λ x. Some x) (sym h.1) ∙ sym is, (room_for_fewer b [] (begun ++ r ∷ []) j.0, λ some. j.0))

tries_first_at : (b : Beginning) (f : Building → Bool) (r : Record) (old kept new : Option Building) (result : Result PushResult PushError)
    → old ≡ None → kept ≡ None → Opens b f r kept result new → Tries b f r [] old result new
tries_first_at b f r old kept new (Ok PushedAndReadyForMore) is none o = o
tries_first_at b f r old kept new (Ok (PushedAndLimitReached l)) is none o = (o.0, o.1, o.2, o.3 ∙ none)
tries_first_at b f r old kept new (Ok (NotPushedMessageFull l)) is none o = absurd o
tries_first_at b f r old kept new (Ok Retry) is none o = o
tries_first_at b f r old kept new (Err ShortBuf) is none o = (refl, o.0, o.1)
tries_first_at b f r old kept new (Err CountOverflow) is none o = o
tries_first_at b f r old kept new (Err Memory) is none o = (o.1 ∙ sym is, (o.0, λ some. absurd (some refl)))

pub tries_first : (b : Beginning) (f : Building → Bool) (r : Record) (begun : List Record) (old kept new : Option Building) (result : Result PushResult PushError)
    → old ≡ None → kept ≡ None → IsBegun b f begun old → Opens b f r kept result new → Tries b f r begun old result new
tries_first b f r begun old kept new result is none had o =
    let P : List Record → Type 0 = λ rs. Tries b f r rs old result new in
    subst P (sym (begun_none b f begun old is had)) (tries_first_at b f r old kept new result is none o)

-- ---- histories

abbrev full_batch : {T : Type 0} → T → List Record → Record → Batch T
full_batch s begun r = record { state = s; records = begun ++ r ∷ []; ending = Full }

abbrev short_batch : {T : Type 0} → T → List Record → Record → Batch T
short_batch s begun r = record { state = s; records = begun; ending = NoRoomFor r }

abbrev last_batch : {T : Type 0} → T → List Record → Batch T
last_batch s begun = record { state = s; records = begun; ending = Finished }

module _ {T E : Type 0} (begins : T → List ℕ → Beginning) (is_full : T → Building → Bool) (Readies : T → Building → Bool → Result (Unit {0}) E → T → Type 0) (From : PushError → E → Type 0) (q : List ℕ) where
  -- no batch is handed on
  still : (By : Ending → Type 0) (kept new : Option Building) (s : T) (pushed : List Record) (batches : List (Batch T))
      → Stands begins is_full (batching q new s) pushed batches → Moves begins is_full Readies By (batching q kept s) pushed batches (batching q new s)
  still By kept new s pushed batches stands =
      let P : List (Batch T) → Type 0 = λ bs. Stands begins is_full (batching q new s) pushed bs in
      record {
        handed = [];
        by = All-nil (λ (b : Batch T). By b.ending);
        hands_on = refl;
        same_request = refl;
        stands = subst P (sym (append-nil batches)) stands;
      }

  -- the batcher with other records begun
  with_begun : (old new : Option Building) (s : T) (pushed more : List Record) (batches : List (Batch T)) → (st : Stands begins is_full (batching q old s) pushed batches)
      → IsBegun (begins s q) (is_full s) (st.begun ++ more) new → Stands begins is_full (batching q new s) (pushed ++ more) batches
  with_begun old new s pushed more batches st begun = record {
    begun = st.begun ++ more;
    all = ap (λ xs. xs ++ more) st.all ∙ append_assoc (joined batches) st.begun more;
    message = begun;
    each = st.each;
  }

  -- the batcher with nothing begun, and one more batch
  with_batch : (t : T) (new : Option Building) (batches : List (Batch T)) (b : Batch T) → new ≡ None → All (IsBatch (λ x. begins x q) is_full) batches
      → IsBatch (λ x. begins x q) is_full b → Stands begins is_full (batching q new t) (joined batches ++ b.records) (batches ++ b ∷ [])
  with_batch t new batches b none each is =
      let P : Option Building → Type 0 = λ k. IsBegun (begins t q) (is_full t) [] k in
      record {
        begun = [];
        all = sym (joined_one batches b) ∙ sym (append-nil (joined (batches ++ b ∷ [])));
        message = subst P (sym none) refl;
        each = All-push (IsBatch (λ x. begins x q) is_full) batches b each is;
      }

  -- a batch is handed on and taken
  taken : (By : Ending → Type 0) (kept new : Option Building) (s t : T) (pushed : List Record) (batches : List (Batch T)) (b : Batch T) (m : Building)
      → All (IsBatch (λ x. begins x q) is_full) batches → IsBatch (λ x. begins x q) is_full b → b.state ≡ s → By b.ending → pushed ≡ joined batches ++ b.records → new ≡ None
      → m ≡ message_with (begins s q) b.records → Readies s m (is_last b.ending) (Ok tt) t
      → Moves begins is_full Readies By (batching q kept s) pushed batches (batching q new t)
  taken By kept new s t pushed batches b m each is at by all none message readies =
      let P : List Record → Type 0 = λ rs. Stands begins is_full (batching q new t) rs (batches ++ b ∷ []) in
      let Q : Building → Type 0 = λ x. Readies s x (is_last b.ending) (Ok tt) t in
      record {
        handed = b ∷ [];
        by = All-cons (λ (x : Batch T). By x.ending) b [] by (All-nil (λ (x : Batch T). By x.ending));
        hands_on = (at, (t, (subst Q message readies, refl)));
        same_request = refl;
        stands = subst P (sym all) (with_batch t new batches b none each is);
      }

  -- a batch is handed on and refused
  lost : (By : Ending → Type 0) (kept new : Option Building) (t : T) (upto : Ending → List Record) (batches : List (Batch T)) (b : Batch T) (m : Building) (e : E)
      → All (IsBatch (λ x. begins x q) is_full) batches → IsBatch (λ x. begins x q) is_full b → By b.ending → upto b.ending ≡ joined batches ++ b.records → new ≡ None
      → m ≡ message_with (begins b.state q) b.records → Readies b.state m (is_last b.ending) (Err e) t
      → Loses begins is_full Readies By (batching q kept b.state) upto batches e (batching q new t)
  lost By kept new t upto batches b m e each is by all none message readies =
      let P : Option Building → Type 0 = λ k. IsBegun (begins t q) (is_full t) [] k in
      let Q : Building → Type 0 = λ x. Readies b.state x (is_last b.ending) (Err e) t in
      let R : List (Batch T) → Type 0 = λ bs. Stands begins is_full (batching q new t) (joined bs) bs in
      let same : batches ≡ batches ++ [] = sym (append-nil batches) in
      record {
        handed = [];
        by = All-nil (λ (x : Batch T). By x.ending);
        lost = b;
        lost_by = by;
        is_batch = is;
        hands_on = refl;
        refused = subst Q message readies;
        all = all ∙ ap (λ bs. joined bs ++ b.records) same;
        same_request = refl;
        closed = none;
        stands = subst R same (record { begun = []; all = sym (append-nil (joined batches)); message = subst P (sym none) refl; each = each });
      }

  -- ---- one try

  -- a record is in the message that is kept, and no message is full
  pub once_kept : (r : Record) (kept new : Option Building) (s : T) (pushed : List Record) (batches : List (Batch T)) (st : Stands begins is_full (batching q kept s) pushed batches)
      → Tries (begins s q) (is_full s) r st.begun kept (Ok PushedAndReadyForMore) new
      → TriesOnce begins is_full Readies From r (batching q kept s) pushed batches (Ok true) (batching q new s)
  once_kept r kept new s pushed batches st t =
      let P : Option Building → Type 0 = λ k. IsBegun (begins s q) (is_full s) (st.begun ++ r ∷ []) k in
      still (ByPush r) kept new s (pushed ++ r ∷ []) batches (with_begun kept new s pushed (r ∷ []) batches st (subst P (sym t.2) (not_nil st.begun r, refl, t.0, t.1)))

  full_all : (r : Record) (pushed begun : List Record) (batches : List (Batch T)) → pushed ≡ joined batches ++ begun → pushed ++ r ∷ [] ≡ joined batches ++ (begun ++ r ∷ [])
  full_all r pushed begun batches all = ap (λ xs. xs ++ r ∷ []) all ∙ append_assoc (joined batches) begun (r ∷ [])

  -- the message is full with the record, and handed on
  once_full_taken : (r : Record) (kept new : Option Building) (s t : T) (m : Building) (pushed : List Record) (batches : List (Batch T))
      (st : Stands begins is_full (batching q kept s) pushed batches) → Tries (begins s q) (is_full s) r st.begun kept (Ok (PushedAndLimitReached m)) new → Readies s m false (Ok tt) t
      → TriesOnce begins is_full Readies From r (batching q kept s) pushed batches (Ok true) (batching q new t)
  once_full_taken r kept new s t m pushed batches st tried readies =
      taken (ByPush r) kept new s t (pushed ++ r ∷ []) batches (full_batch s st.begun r) m st.each (record { some = not_nil st.begun r; within = tried.0; ended = full_ends (begins s q) (is_full s) st.begun r kept st.message tried.1 }) refl tt
      (full_all r pushed st.begun batches st.all) tried.3 tried.2 readies

  once_full_refused : (r : Record) (kept new : Option Building) (s t : T) (m : Building) (e : E) (pushed : List Record) (batches : List (Batch T))
      (st : Stands begins is_full (batching q kept s) pushed batches) → Tries (begins s q) (is_full s) r st.begun kept (Ok (PushedAndLimitReached m)) new → Readies s m false (Err e) t
      → TriesOnce begins is_full Readies From r (batching q kept s) pushed batches (Err e) (batching q new t)
  once_full_refused r kept new s t m e pushed batches st tried readies =
      Refused (lost (ByPush r) kept new t (taken_by r pushed) batches (full_batch s st.begun r) m e st.each (record { some = not_nil st.begun r; within = tried.0; ended = full_ends (begins s q) (is_full s) st.begun r kept st.message tried.1 }) tt
      (full_all r pushed st.begun batches st.all) tried.3 tried.2 readies)

  pub once_full : (r : Record) (kept new : Option Building) (s t : T) (m : Building) (result : Result Bool E) (pushed : List Record) (batches : List (Batch T))
      (st : Stands begins is_full (batching q kept s) pushed batches) → Tries (begins s q) (is_full s) r st.begun kept (Ok (PushedAndLimitReached m)) new → HandedOn Readies s m true result t
      → TriesOnce begins is_full Readies From r (batching q kept s) pushed batches result (batching q new t)
  once_full r kept new s t m (Ok true) pushed batches st tried h = once_full_taken r kept new s t m pushed batches st tried h.1
  once_full r kept new s t m (Ok false) pushed batches st tried h = absurd (true≢false (sym h.0))
  once_full r kept new s t m (Err e) pushed batches st tried h = once_full_refused r kept new s t m e pushed batches st tried h

  -- the message has no room for the record, and is handed on
  once_short_taken : (r : Record) (kept new : Option Building) (s t : T) (m : Building) (pushed : List Record) (batches : List (Batch T))
      (st : Stands begins is_full (batching q kept s) pushed batches) → Tries (begins s q) (is_full s) r st.begun kept (Ok (NotPushedMessageFull m)) new → Readies s m false (Ok tt) t
      → TriesOnce begins is_full Readies From r (batching q kept s) pushed batches (Ok false) (batching q new t)
  once_short_taken r kept new s t m pushed batches st tried readies =
      let some : kept ≡ None → ⊥ = λ e. tried.0 (begun_none (begins s q) (is_full s) st.begun kept e st.message) in
      (some, tried.4, taken (ByPush r) kept new s t pushed batches (short_batch s st.begun r) m st.each (record { some = tried.0; within = tried.1; ended = (not_full (begins s q) (is_full s) st.begun kept st.message tried.0, tried.2) }) refl refl st.all tried.4 tried.3 readies)

  once_short_refused : (r : Record) (kept new : Option Building) (s t : T) (m : Building) (e : E) (pushed : List Record) (batches : List (Batch T))
      (st : Stands begins is_full (batching q kept s) pushed batches) → Tries (begins s q) (is_full s) r st.begun kept (Ok (NotPushedMessageFull m)) new → Readies s m false (Err e) t
      → TriesOnce begins is_full Readies From r (batching q kept s) pushed batches (Err e) (batching q new t)
  once_short_refused r kept new s t m e pushed batches st tried readies =
      Refused (lost (ByPush r) kept new t (taken_by r pushed) batches (short_batch s st.begun r) m e st.each (record { some = tried.0; within = tried.1; ended = (not_full (begins s q) (is_full s) st.begun kept st.message tried.0, tried.2) }) refl
      st.all tried.4 tried.3 readies)

  pub once_short : (r : Record) (kept new : Option Building) (s t : T) (m : Building) (result : Result Bool E) (pushed : List Record) (batches : List (Batch T))
      (st : Stands begins is_full (batching q kept s) pushed batches) → Tries (begins s q) (is_full s) r st.begun kept (Ok (NotPushedMessageFull m)) new → HandedOn Readies s m false result t
      → TriesOnce begins is_full Readies From r (batching q kept s) pushed batches result (batching q new t)
  once_short r kept new s t m (Ok true) pushed batches st tried h = absurd (true≢false h.0)
  once_short r kept new s t m (Ok false) pushed batches st tried h = once_short_taken r kept new s t m pushed batches st tried h.1
  once_short r kept new s t m (Err e) pushed batches st tried h = once_short_refused r kept new s t m e pushed batches st tried h

  -- the record isn't pushed
  unpushed : (kept new : Option Building) (s : T) (pushed : List Record) (batches : List (Batch T)) (st : Stands begins is_full (batching q kept s) pushed batches)
      → st.begun ≡ [] → new ≡ None → Stands begins is_full (batching q new s) pushed batches
  unpushed kept new s pushed batches st empty none =
      let P : Option Building → Type 0 = λ k. IsBegun (begins s q) (is_full s) [] k in
      record { begun = []; all = st.all ∙ ap (λ xs. joined batches ++ xs) empty; message = subst P (sym none) refl; each = st.each }

  pub once_failed : (r : Record) (kept new : Option Building) (s : T) (e : PushError) (error : E) (pushed : List Record) (batches : List (Batch T))
      (st : Stands begins is_full (batching q kept s) pushed batches) → Tries (begins s q) (is_full s) r st.begun kept (Err e) new → From e error
      → TriesOnce begins is_full Readies From r (batching q kept s) pushed batches (Err error) (batching q new s)
  once_failed r kept new s ShortBuf error pushed batches st tried from =
      NoRoom from tried.1 tried.2 (still (ByPush r) kept new s pushed batches (unpushed kept new s pushed batches st tried.0 tried.2))
  once_failed r kept new s CountOverflow error pushed batches st tried from = absurd tried
  once_failed r kept new s Memory error pushed batches st tried from =
      let P : Option Building → Type 0 = λ k. Stands begins is_full (batching q k s) pushed batches in
      NoMemory from (still (ByPush r) kept new s pushed batches (subst P (sym tried.0) st))

  pub once_never : (r : Record) (begun : List Record) (kept k : Option Building) (s : T) (old new : Batching T) (pushed : List Record) (batches : List (Batch T))
      → Tries (begins s q) (is_full s) r begun kept (Ok Retry) k → TriesOnce begins is_full Readies From r old pushed batches (Ok false) new
  once_never r begun kept k s old new pushed batches tried = absurd tried

  -- ---- a second try

  hands_on_more : (s mid t : T) (xs ys : List (Batch T)) → HandsOn (λ x. begins x q) Readies s xs mid → HandsOn (λ x. begins x q) Readies mid ys t
      → HandsOn (λ x. begins x q) Readies s (xs ++ ys) t
  hands_on_more s mid t [] ys h k =
      let P : T → Type 0 = λ x. HandsOn (λ y. begins y q) Readies x ys t in
      subst P (sym h) k
  hands_on_more s mid t (x ∷ xs) ys h k = (h.0, (h.1.0, (h.1.1.0, hands_on_more h.1.0 mid t xs ys h.1.1.1 k)))

  moves_on : (By : Ending → Type 0) (k1 k2 k3 : Option Building) (s1 s2 s3 : T) (first second : List Record) (batches : List (Batch T))
      (mv : Moves begins is_full Readies By (batching q k1 s1) first batches (batching q k2 s2)) → Moves begins is_full Readies By (batching q k2 s2) second (batches ++ mv.handed) (batching q k3 s3)
      → Moves begins is_full Readies By (batching q k1 s1) second batches (batching q k3 s3)
  moves_on By k1 k2 k3 s1 s2 s3 first second batches mv next =
      let P : List (Batch T) → Type 0 = λ bs. Stands begins is_full (batching q k3 s3) second bs in
      record {
        handed = mv.handed ++ next.handed;
        by = All-append (λ (b : Batch T). By b.ending) mv.handed next.handed mv.by next.by;
        hands_on = hands_on_more s1 s2 s3 mv.handed next.handed mv.hands_on next.hands_on;
        same_request = refl;
        stands = subst P (append_assoc batches mv.handed next.handed) next.stands;
      }

  loses_on : (By : Ending → Type 0) (k1 k2 k3 : Option Building) (s1 s2 s3 : T) (first : List Record) (upto : Ending → List Record) (e : E) (batches : List (Batch T))
      (mv : Moves begins is_full Readies By (batching q k1 s1) first batches (batching q k2 s2)) → Loses begins is_full Readies By (batching q k2 s2) upto (batches ++ mv.handed) e (batching q k3 s3)
      → Loses begins is_full Readies By (batching q k1 s1) upto batches e (batching q k3 s3)
  loses_on By k1 k2 k3 s1 s2 s3 first upto e batches mv l =
      let P : List (Batch T) → Type 0 = λ bs. Stands begins is_full (batching q k3 s3) (joined bs) bs in
      let Q : List (Batch T) → Type 0 = λ bs. upto l.lost.ending ≡ joined bs ++ l.lost.records in
      let same = append_assoc batches mv.handed l.handed in
      record {
        handed = mv.handed ++ l.handed;
        by = All-append (λ (b : Batch T). By b.ending) mv.handed l.handed mv.by l.by;
        lost = l.lost;
        lost_by = l.lost_by;
        is_batch = l.is_batch;
        hands_on = hands_on_more s1 s2 l.lost.state mv.handed l.handed mv.hands_on l.hands_on;
        refused = l.refused;
        all = subst Q same l.all;
        same_request = refl;
        closed = l.closed;
        stands = subst P same l.stands;
      }

  not_pushed_on : (r : Record) (k1 k2 k3 : Option Building) (s1 s2 s3 : T) (pushed : List Record) (e : E) (batches : List (Batch T))
      (mv : Moves begins is_full Readies (ByPush r) (batching q k1 s1) pushed batches (batching q k2 s2))
      → NotPushed begins is_full Readies From r (batching q k2 s2) pushed (batches ++ mv.handed) e (batching q k3 s3)
      → NotPushed begins is_full Readies From r (batching q k1 s1) pushed batches e (batching q k3 s3)
  not_pushed_on r k1 k2 k3 s1 s2 s3 pushed e batches mv (NoRoom from room closed next) =
      NoRoom from room closed (moves_on (ByPush r) k1 k2 k3 s1 s2 s3 pushed pushed batches mv next)
  not_pushed_on r k1 k2 k3 s1 s2 s3 pushed e batches mv (NoMemory from next) = NoMemory from (moves_on (ByPush r) k1 k2 k3 s1 s2 s3 pushed pushed batches mv next)
  not_pushed_on r k1 k2 k3 s1 s2 s3 pushed e batches mv (Refused l) = Refused (loses_on (ByPush r) k1 k2 k3 s1 s2 s3 pushed (taken_by r pushed) e batches mv l)

  -- what the second answers
  pub twice : (r : Record) (k1 k2 k3 : Option Building) (s1 s2 s3 : T) (result : Result PushResult E) (pushed : List Record) (batches : List (Batch T))
      → Stands begins is_full (batching q k1 s1) pushed batches
      → TriesOnce begins is_full Readies From r (batching q k1 s1) pushed batches (Ok false) (batching q k2 s2)
      → ((ps : List Record) (bs : List (Batch T)) → Stands begins is_full (batching q k2 s2) ps bs → TriesAgain begins is_full Readies From r (batching q k2 s2) ps bs result (batching q k3 s3))
      → Pushes begins is_full Readies From r (batching q k1 s1) pushed batches result (batching q k3 s3)
  twice r k1 k2 k3 s1 s2 s3 (Ok PushedAndReadyForMore) pushed batches st first second =
      gains begins is_full Readies r (batching q k1 s1) (batching q k3 s3) pushed batches st
      (moves_on (ByPush r) k1 k2 k3 s1 s2 s3 pushed (pushed ++ r ∷ []) batches first.2 (second pushed (batches ++ first.2.handed) first.2.stands))
  twice r k1 k2 k3 s1 s2 s3 (Ok (PushedAndLimitReached m)) pushed batches st first second = second pushed (batches ++ first.2.handed) first.2.stands
  twice r k1 k2 k3 s1 s2 s3 (Ok (NotPushedMessageFull m)) pushed batches st first second = second pushed (batches ++ first.2.handed) first.2.stands
  twice r k1 k2 k3 s1 s2 s3 (Ok Retry) pushed batches st first second = (second pushed (batches ++ first.2.handed) first.2.stands).0 first.1
  twice r k1 k2 k3 s1 s2 s3 (Err e) pushed batches st first second =
      not_pushed_on r k1 k2 k3 s1 s2 s3 pushed e batches first.2 (second pushed (batches ++ first.2.handed) first.2.stands)

  -- ---- the end

  pub finishes : (kept new : Option Building) (s t : T) (m : Building) (result : Result (Unit {0}) E) (pushed : List Record) (batches : List (Batch T))
      → kept ≡ Some m → new ≡ None → Readies s m true result t → Stands begins is_full (batching q kept s) pushed batches
      → Finishes begins is_full Readies (batching q kept s) pushed batches result (batching q new t)
  finishes kept new s t m (Ok u) pushed batches is none readies st =
      let h = begun_some (begins s q) (is_full s) st.begun m kept is st.message in
      (none, taken ByFinish kept new s t pushed batches (last_batch s st.begun) m st.each (record { some = h.0; within = h.2; ended = sym (ap (is_full s) h.1) ∙ h.3 }) refl tt st.all none h.1 readies)
  finishes kept new s t m (Err e) pushed batches is none readies st =
      let h = begun_some (begins s q) (is_full s) st.begun m kept is st.message in
      lost ByFinish kept new t (λ ending. pushed) batches (last_batch s st.begun) m e st.each (record { some = h.0; within = h.2; ended = sym (ap (is_full s) h.1) ∙ h.3 }) tt st.all none h.1 readies

  pub finishes_idle : (kept new : Option Building) (s : T) (u : Unit {0}) (pushed : List Record) (batches : List (Batch T))
      → kept ≡ None → new ≡ None → Stands begins is_full (batching q kept s) pushed batches
      → Finishes begins is_full Readies (batching q kept s) pushed batches (Ok u) (batching q new s)
  finishes_idle kept new s u pushed batches is none st =
      let P : Option Building → Type 0 = λ k. Stands begins is_full (batching q k s) pushed batches in
      (none, still ByFinish kept new s pushed batches (subst P (is ∙ sym none) st))

-- ---- laws

plain : {T : Type 0} (begins : T → List ℕ → Beginning) (q : List ℕ) (batches : List (Batch T)) → ((s : T) → (begins s q).answers ≡ [])
    → flat_map (records_in begins q) batches ≡ joined batches
plain begins q [] none = refl
plain begins q (b ∷ batches) none =
    ap (λ xs. (xs ++ b.records) ++ flat_map (records_in begins q) batches) (none b.state) ∙ ap (λ ys. b.records ++ ys) (plain begins q batches none)

-- where nothing is begun, the batches have all that was pushed
pub closed_all : {T : Type 0} (begins : T → List ℕ → Beginning) (is_full : T → Building → Bool) (b : Batching T) (pushed : List Record) (batches : List (Batch T))
    → b.answer ≡ None → Stands begins is_full b pushed batches → pushed ≡ joined batches
closed_all begins is_full b pushed batches closed st =
    let empty = begun_none (begins b.state b.request) (is_full b.state) st.begun b.answer closed st.message in
    st.all ∙ ap (λ xs. joined batches ++ xs) empty ∙ append-nil (joined batches)

pub batches_join : {T : Type 0} (begins : T → List ℕ → Beginning) (is_full : T → Building → Bool) (b : Batching T) (pushed : List Record) (batches : List (Batch T))
    → ((s : T) → (begins s b.request).answers ≡ []) → b.answer ≡ None → Stands begins is_full b pushed batches → flat_map (records_in begins b.request) batches ≡ pushed
batches_join begins is_full b pushed batches none closed st =
    plain begins b.request batches none ∙ sym (closed_all begins is_full b pushed batches closed st)

pub none_is_empty : {T : Type 0} (begins : T → List ℕ → Beginning) (is_full : T → Building → Bool) (b : Batching T) (pushed : List Record) (batches : List (Batch T))
    → Stands begins is_full b pushed batches → All (λ x. records_in begins b.request x ≢ []) batches
none_is_empty {T} begins is_full b pushed batches st =
    All-weaker (IsBatch (λ s. begins s b.request) is_full) (λ (x : Batch T). records_in begins b.request x ≢ [])
    (λ x h. λ e. h.some (right_nil (begins x.state b.request).answers x.records e)) batches st.each

ended_as : {T : Type 0} (begins : T → Beginning) (is_full : T → Building → Bool) (x : Batch T) (k : Ending) → x.ending ≡ k → IsBatch begins is_full x → MustEnd (begins x.state) (is_full x.state) x.records k
ended_as begins is_full x k e h =
    let P : Ending → Type 0 = λ how. MustEnd (begins x.state) (is_full x.state) x.records how in
    subst P e h.ended

pub each_full : {T : Type 0} (begins : T → List ℕ → Beginning) (is_full : T → Building → Bool) (b : Batching T) (pushed : List Record) (batches : List (Batch T))
    → Stands begins is_full b pushed batches → All (λ x. x.ending ≡ Full → is_full x.state (message_with (begins x.state b.request) x.records) ≡ true) batches
each_full {T} begins is_full b pushed batches st =
    All-weaker (IsBatch (λ s. begins s b.request) is_full) (λ (x : Batch T). x.ending ≡ Full → is_full x.state (message_with (begins x.state b.request) x.records) ≡ true)
    (λ x h. λ e. (ended_as (λ s. begins s b.request) is_full x Full e h).0) batches st.each

pub each_short : {T : Type 0} (begins : T → List ℕ → Beginning) (is_full : T → Building → Bool) (b : Batching T) (pushed : List Record) (batches : List (Batch T)) (r : Record)
    → Stands begins is_full b pushed batches → All (λ x. x.ending ≡ NoRoomFor r → has_room (begins x.state b.request) (x.records ++ r ∷ []) ≡ false) batches
each_short {T} begins is_full b pushed batches r st =
    All-weaker (IsBatch (λ s. begins s b.request) is_full) (λ (x : Batch T). x.ending ≡ NoRoomFor r → has_room (begins x.state b.request) (x.records ++ r ∷ []) ≡ false)
    (λ x h. λ e. (ended_as (λ s. begins s b.request) is_full x (NoRoomFor r) e h).1) batches st.each

pub each_within : {T : Type 0} (begins : T → List ℕ → Beginning) (is_full : T → Building → Bool) (b : Batching T) (pushed : List Record) (batches : List (Batch T))
    → Stands begins is_full b pushed batches → All (λ x. has_room (begins x.state b.request) x.records ≡ true) batches
each_within {T} begins is_full b pushed batches st =
    All-weaker (IsBatch (λ s. begins s b.request) is_full) (λ (x : Batch T). has_room (begins x.state b.request) x.records ≡ true) (λ x h. h.within) batches st.each
