-- A record added to a message: how long messages are, and what is in the message then.
use Rattle.std.proofs.Common.{◌≡◌, ℕ, ◌+◌, ◌*◌, ◌<◌, ◌≤◌, Bool, true, false, true≢false, List, [], ◌∷◌, ◌++◌, length, refl, sym, ap, ◌∙◌, subst, arith}
use Rattle.std.specs.Prelude.{Option, Some, None, Ok, Err, flat_map}
use Rattle.std.proofs.lemmas.Bool.Decides.{nat_tests}
use Rattle.std.proofs.lemmas.List.{length-append, append_assoc}
use Rattle.std.proofs.lemmas.List.Concat.{flat_map-append}
use Rattle.dns_name.specs.Names.{name_wire}
use Rattle.dns_name.specs.Octets.{u16_octets, u32_octets}
use Rattle.dns_rdata.specs.Records.{Record, record_wire, data_wire}
use Rattle.dns_wire.specs.Wire.{Building, Header, Question, question_wire, header_wire, counts_wire, counts_of, message_wire, in_answer, with_item, fits}
use Rattle.dns_wire.specs.Builds.{Adds, Builds, building}
use Rattle.dns_wire.specs.declared.builder.PushError.{PushError}
use Rattle.dns_wire.specs.declared.builder.PushError.TheVariants.{ShortBuf, CountOverflow, Memory}
use Rattle.dns_wire.proofs.Pushing.{message_wire-more_answers, answers-counted}
use Rattle.dns_wire.proofs.Questions.{not_fitting}
use Rattle.xfr_batch.specs.Batches.{Beginning, message_with, has_room}
use Rattle.xfr_batch.specs.BatchSteps.{Settles, Joins, Opens}
use Rattle.xfr_batch.specs.declared.batcher.PushResult.{PushResult}
use Rattle.xfr_batch.specs.declared.batcher.PushResult.TheVariants.{PushedAndReadyForMore, PushedAndLimitReached, NotPushedMessageFull, Retry}

-- ---- lengths

pub wire_length : (h : Header) (qs : List Question) (rs : List Record)
    → length (message_wire (in_answer h qs rs)) ≡ 12 + (length (flat_map question_wire qs) + length (flat_map record_wire rs))
wire_length h qs rs =
    let front = header_wire h ++ counts_wire (counts_of (in_answer h qs rs)) in
    let asked = front ++ flat_map question_wire qs in
    let answered = asked ++ flat_map record_wire rs in
    omega (arith, length-append front (flat_map question_wire qs), length-append asked (flat_map record_wire rs), length-append answered [], length-append (answered ++ []) [])

longer : (h : Header) (qs : List Question) (xs ys : List Record) → length (message_wire (in_answer h qs xs)) ≤ length (message_wire (in_answer h qs (xs ++ ys)))
longer h qs xs ys =
    omega (
      arith,
      wire_length h qs xs,
      wire_length h qs (xs ++ ys),
      ap length (flat_map-append record_wire xs ys),
      length-append (flat_map record_wire xs) (flat_map record_wire ys),
    )

pub record_long : (r : Record) → 10 ≤ length (record_wire r)
record_long r =
    let d = data_wire r.fields in
    let a = name_wire r.owner ++ u16_octets r.rtype in
    let b = a ++ u16_octets r.class in
    let c = b ++ u32_octets r.ttl in
    let e = c ++ u16_octets (length d) in
    omega (
      arith,
      length-append (name_wire r.owner) (u16_octets r.rtype),
      length-append a (u16_octets r.class),
      length-append b (u32_octets r.ttl),
      length-append c (u16_octets (length d)),
      length-append e d,
    )

records_long : (rs : List Record) → 10 * length rs ≤ length (flat_map record_wire rs)
records_long [] = omega arith
records_long (r ∷ rs) = omega (arith, record_long r, records_long rs, length-append (record_wire r) (flat_map record_wire rs))

within_most : (limit : ℕ) (octets : List ℕ) → fits limit octets ≡ true → length octets ≤ 65535
within_most limit octets fit = grind (arith, nat_tests)

-- a message has room for fewer records than can be counted
pub few : (limit : ℕ) (h : Header) (qs : List Question) (rs : List Record) → fits limit (message_wire (in_answer h qs rs)) ≡ true → length rs < 65535
few limit h qs rs fit = omega (arith, within_most limit (message_wire (in_answer h qs rs)) fit, wire_length h qs rs, records_long rs)

-- where some records have no room, more of them have none
pub no_room_for_more : (b : Beginning) (xs ys : List Record) → has_room b xs ≡ false → has_room b (xs ++ ys) ≡ false
no_room_for_more b xs ys none =
    let P : List Record → Type 0 = λ zs. length (message_with b xs).octets ≤ length (message_wire (in_answer b.header b.questions zs)) in
    not_fitting b.limit (message_with b xs).octets (message_with b (xs ++ ys)).octets (subst P (append_assoc b.answers xs ys) (longer b.header b.questions (b.answers ++ xs) ys)) none

-- so where more of them have room, some have
pub room_for_fewer : (b : Beginning) (xs ys : List Record) → has_room b (xs ++ ys) ≡ true → has_room b xs ≡ true
room_for_fewer b xs ys room = by (has_room b xs) refl
  where
    by : (fit : Bool) → has_room b xs ≡ fit → has_room b xs ≡ true
    by true is = is
    by false none = absurd (true≢false (sym room ∙ no_room_for_more b xs ys none))

-- ---- one more record

more_octets : (b : Beginning) (rs : List Record) (r : Record) → has_room b rs ≡ true → (message_with b (rs ++ r ∷ [])).octets ≡ with_item 6 (message_with b rs).octets (record_wire r)
more_octets b rs r room =
    ap (λ xs. message_wire (in_answer b.header b.questions xs)) (sym (append_assoc b.answers rs (r ∷ [])))
    ∙ message_wire-more_answers b.header b.questions (b.answers ++ rs) r (omega (arith, few b.limit b.header b.questions (b.answers ++ rs) room))

added_at : (b : Beginning) (rs : List Record) (r : Record) (new : Building) (u : Unit {0}) → has_room b rs ≡ true → Adds 6 (record_wire r) (message_with b rs) (Ok u) new
    → (has_room b (rs ++ r ∷ []) ≡ true) × (new ≡ message_with b (rs ++ r ∷ []))
added_at b rs r new u room added =
    let is = more_octets b rs r room in
    (ap (fits b.limit) is ∙ added.0, added.2 ∙ ap (λ octets. building octets b.limit) (sym is))

added : (b : Beginning) (rs : List Record) (r : Record) (old new : Building) (u : Unit {0}) → old ≡ message_with b rs → has_room b rs ≡ true → Adds 6 (record_wire r) old (Ok u) new
    → (has_room b (rs ++ r ∷ []) ≡ true) × (new ≡ message_with b (rs ++ r ∷ []))
added b rs r old new u is room adds =
    let P : Building → Type 0 = λ m. Adds 6 (record_wire r) m (Ok u) new in
    added_at b rs r new u room (subst P is adds)

short_at : (b : Beginning) (rs : List Record) (r : Record) (new : Building) → has_room b rs ≡ true → Adds {A = Unit {0}} 6 (record_wire r) (message_with b rs) (Err ShortBuf) new
    → has_room b (rs ++ r ∷ []) ≡ false
short_at b rs r new room adds = ap (fits b.limit) (more_octets b rs r room) ∙ adds.0

short : (b : Beginning) (rs : List Record) (r : Record) (old new : Building) → old ≡ message_with b rs → has_room b rs ≡ true → Adds {A = Unit {0}} 6 (record_wire r) old (Err ShortBuf) new
    → has_room b (rs ++ r ∷ []) ≡ false
short b rs r old new is room adds =
    let P : Building → Type 0 = λ m. Adds {A = Unit {0}} 6 (record_wire r) m (Err ShortBuf) new in
    short_at b rs r new room (subst P is adds)

overflow_at : (b : Beginning) (rs : List Record) (r : Record) (new : Building) → has_room b rs ≡ true → Adds {A = Unit {0}} 6 (record_wire r) (message_with b rs) (Err CountOverflow) new → ⊥
overflow_at b rs r new room adds =
    let small = few b.limit b.header b.questions (b.answers ++ rs) room in
    omega (arith, adds.1, answers-counted b.header b.questions (b.answers ++ rs) (omega (arith, small)), small)

overflow : (b : Beginning) (rs : List Record) (r : Record) (old new : Building) → old ≡ message_with b rs → has_room b rs ≡ true → Adds {A = Unit {0}} 6 (record_wire r) old (Err CountOverflow) new → ⊥
overflow b rs r old new is room adds =
    let P : Building → Type 0 = λ m. Adds {A = Unit {0}} 6 (record_wire r) m (Err CountOverflow) new in
    overflow_at b rs r new room (subst P is adds)

-- ---- a record added to a message that was begun

pub joins_added : (b : Beginning) (f : Building → Bool) (r : Record) (begun : List Record) (m : Building) (kept new : Option Building) (result : PushResult)
    → has_room b (begun ++ r ∷ []) ≡ true → m ≡ message_with b (begun ++ r ∷ []) → Settles f m kept result new → Joins b f r begun kept (Ok result) new
joins_added b f r begun m kept new PushedAndReadyForMore room is s = (room, sym (ap f is) ∙ s.0, s.1 ∙ ap (λ x. Some x) is)
joins_added b f r begun m kept new (PushedAndLimitReached limited) room is s = (room, sym (ap f is) ∙ s.0, s.1 ∙ is, s.2)
joins_added b f r begun m kept new (NotPushedMessageFull full) room is s = absurd s
joins_added b f r begun m kept new Retry room is s = s

pub joins_settled : (b : Beginning) (f : Building → Bool) (r : Record) (begun : List Record) (old m : Building) (kept new : Option Building) (u : Unit {0}) (result : PushResult)
    → old ≡ message_with b begun → has_room b begun ≡ true → Adds 6 (record_wire r) old (Ok u) m → Settles f m kept result new → Joins b f r begun kept (Ok result) new
joins_settled b f r begun old m kept new u result is room adds s =
    let a = added b begun r old m u is room adds in
    joins_added b f r begun m kept new result a.0 a.1 s

pub joins_short : (b : Beginning) (f : Building → Bool) (r : Record) (begun : List Record) (old m : Building) (kept : Option Building)
    → old ≡ message_with b begun → has_room b begun ≡ true → Adds {A = Unit {0}} 6 (record_wire r) old (Err ShortBuf) m
    → Joins b f r begun kept (Ok (NotPushedMessageFull m)) kept
joins_short b f r begun old m kept is room adds = (short b begun r old m is room adds, adds.1 ∙ is, refl)

pub joins_overflow : (b : Beginning) (f : Building → Bool) (r : Record) (begun : List Record) (old m : Building) (kept : Option Building)
    → old ≡ message_with b begun → has_room b begun ≡ true → Adds {A = Unit {0}} 6 (record_wire r) old (Err CountOverflow) m
    → Joins b f r begun kept (Ok (NotPushedMessageFull m)) kept
joins_overflow b f r begun old m kept is room adds = absurd (overflow b begun r old m is room adds)

memory_at : (b : Beginning) (rs : List Record) (r : Record) (new : Building) → has_room b rs ≡ true → Adds {A = Unit {0}} 6 (record_wire r) (message_with b rs) (Err Memory) new
    → has_room b (rs ++ r ∷ []) ≡ true
memory_at b rs r new room adds = ap (fits b.limit) (more_octets b rs r room) ∙ adds.0

pub joins_memory : (b : Beginning) (f : Building → Bool) (r : Record) (begun : List Record) (old m : Building) (kept new : Option Building)
    → old ≡ message_with b begun → has_room b begun ≡ true → Adds {A = Unit {0}} 6 (record_wire r) old (Err Memory) m → new ≡ Some m
    → Joins b f r begun kept (Err Memory) new
joins_memory b f r begun old m kept new is room adds put =
    let P : Building → Type 0 = λ x. Adds {A = Unit {0}} 6 (record_wire r) x (Err Memory) m in
    (memory_at b begun r m room (subst P is adds), put ∙ ap (λ x. Some x) (adds.2 ∙ is))

-- ---- a message that begins with a record

pub opens_unbegun : (b : Beginning) (f : Building → Bool) (r : Record) (kept new : Option Building) (e : PushError) → Builds (message_with b []).octets b.limit (Err e) → new ≡ None
    → Opens b f r kept (Err e) new
opens_unbegun b f r kept new ShortBuf built none = (no_room_for_more b [] (r ∷ []) built, none)
opens_unbegun b f r kept new CountOverflow built none = built
opens_unbegun b f r kept new Memory built none = (built, none)

pub opens_refused : (b : Beginning) (f : Building → Bool) (r : Record) (old m : Building) (kept new : Option Building) (e : PushError) → Builds (message_with b []).octets b.limit (Ok old)
    → Adds {A = Unit {0}} 6 (record_wire r) old (Err e) m → new ≡ None → Opens b f r kept (Err e) new
opens_refused b f r old m kept new ShortBuf built adds none = (short b [] r old m built.1 built.0 adds, none)
opens_refused b f r old m kept new CountOverflow built adds none = overflow b [] r old m built.1 built.0 adds
opens_refused b f r old m kept new Memory built adds none = (built.0, none)

opens_added : (b : Beginning) (f : Building → Bool) (r : Record) (m : Building) (kept new : Option Building) (result : PushResult)
    → has_room b (r ∷ []) ≡ true → m ≡ message_with b (r ∷ []) → Settles f m kept result new → Opens b f r kept (Ok result) new
opens_added b f r m kept new PushedAndReadyForMore room is s = (room, sym (ap f is) ∙ s.0, s.1 ∙ ap (λ x. Some x) is)
opens_added b f r m kept new (PushedAndLimitReached limited) room is s = (room, sym (ap f is) ∙ s.0, s.1 ∙ is, s.2)
opens_added b f r m kept new (NotPushedMessageFull full) room is s = s
opens_added b f r m kept new Retry room is s = s

pub opens_settled : (b : Beginning) (f : Building → Bool) (r : Record) (old m : Building) (kept new : Option Building) (u : Unit {0}) (result : PushResult)
    → Builds (message_with b []).octets b.limit (Ok old) → Adds 6 (record_wire r) old (Ok u) m → Settles f m kept result new → Opens b f r kept (Ok result) new
opens_settled b f r old m kept new u result built adds s =
    let a = added b [] r old m u built.1 built.0 adds in
    opens_added b f r m kept new result a.0 a.1 s
