-- Records added to a section of a message that is being built.
use Rattle.std.proofs.Common.{◌≡◌, ℕ, ◌+◌, ◌*◌, ◌<◌, ◌≤◌, ◌^◌, Bool, true, false, List, [], ◌∷◌, ◌++◌, All, length, map, refl, sym, ap, ◌∙◌, subst, arith, length-append}
use Rattle.std.specs.Prelude.{flat_map, Option, Some, None, Result, Ok, Err, if◌then◌else◌}
use Rattle.std.specs.Option.{option_map_or}
use Rattle.std.proofs.lemmas.Bool.Decides.{nat_tests}
use Rattle.std.proofs.lemmas.List.{append_assoc, append-nil}
use Rattle.std.proofs.lemmas.List.Elements.{All-head, All-tail}
use Rattle.std.proofs.lemmas.List.Concat.{flat_map-append}
use Rattle.std.proofs.lemmas.Nat.{from_be_bytes-to_be_bytes_2}
use Rattle.dns_name.specs.Octets.{u16_octets, u32_octets}
use Rattle.dns_name.specs.Names.{Name, name_wire}
use Rattle.dns_rdata.specs.Records.{Field, Record, record_wire, data_wire}
use Rattle.dns_wire.specs.Wire.{Building, Header, Question, Message, question_wire, header_wire, counts_wire, counts_of, message_wire, in_answer, in_authority, with_item, header_number, fits}
use Rattle.dns_wire.specs.Builds.{Adds, Builds, BuildsBehind, building}
use Rattle.dns_wire.specs.declared.builder.PushError.{PushError}
use Rattle.dns_wire.specs.declared.builder.PushError.TheVariants.{ShortBuf, CountOverflow, Memory}
use Rattle.dns_wire.proofs.Pushing.{message_wire-more_answers, message_wire-more_authority, message_wire-more_additional}
use Rattle.dns_wire.proofs.Questions.{not_fitting}
use Rattle.zone_model.specs.Answer.{records_of}
use Rattle.zone_values.specs.TypedSets.{TypedSet}
use Rattle.zone_lookup.specs.declared.answer_content.AnswerContent.{AnswerContent}
use Rattle.zone_lookup.specs.Replies.{Reply}
use Rattle.zone_lookup.specs.Sending.{set_at_name, content_records, answers_of, Stands, Reaches}

-- ---- lengths

record_long : (r : Record) → 10 ≤ length (record_wire r)
record_long r =
    let d = data_wire r.fields in
    let a = name_wire r.owner ++ u16_octets r.rtype in
    let b = a ++ u16_octets r.class in
    let c = b ++ u32_octets r.ttl in
    let e = c ++ u16_octets (length d) in
    omega (
      arith,
      length-append (name_wire r.owner) (u16_octets r.rtype),
      length-append a (u16_octets r.class),
      length-append b (u32_octets r.ttl),
      length-append c (u16_octets (length d)),
      length-append e d,
    )

records_long : (rs : List Record) → 10 * length rs ≤ length (flat_map record_wire rs)
records_long [] = omega arith
records_long (r ∷ rs) = omega (arith, record_long r, records_long rs, length-append (record_wire r) (flat_map record_wire rs))

within_most : (limit : ℕ) (octets : List ℕ) → fits limit octets ≡ true → length octets ≤ 65535
within_most limit octets fit = grind (arith, nat_tests)

wire_length : (m : Message) → length (message_wire m)
    ≡ 12 + length (flat_map question_wire m.questions) + length (flat_map record_wire m.answers) + length (flat_map record_wire m.authority) + length (flat_map record_wire m.additional)
wire_length m =
    let front = header_wire m.header ++ counts_wire (counts_of m) in
    let asked = front ++ flat_map question_wire m.questions in
    let answered = asked ++ flat_map record_wire m.answers in
    let referred = answered ++ flat_map record_wire m.authority in
    omega (
      arith,
      length-append front (flat_map question_wire m.questions),
      length-append asked (flat_map record_wire m.answers),
      length-append answered (flat_map record_wire m.authority),
      length-append referred (flat_map record_wire m.additional),
    )

-- ---- a section: its place in the header, and the message by the section's records

pub record Section (k base : ℕ) (M : List Record → Message) : Type 0 where
  pub more : (rs : List Record) (r : Record) → length rs < 2 ^ 16 → message_wire (M (rs ++ r ∷ [])) ≡ with_item k (message_wire (M rs)) (record_wire r)
  pub counted : (rs : List Record) → length rs < 2 ^ 16 → header_number k (message_wire (M rs)) ≡ length rs
  pub size : (rs : List Record) → length (message_wire (M rs)) ≡ base + length (flat_map record_wire rs)

pub answers : (h : Header) (qs : List Question) → Section 6 (12 + length (flat_map question_wire qs)) (λ rs. in_answer h qs rs)
answers h qs = record {
  more = λ rs r few. message_wire-more_answers h qs rs r few;
  counted = λ rs few. from_be_bytes-to_be_bytes_2 (length rs) few;
  size = λ rs. omega (arith, wire_length (in_answer h qs rs));
}

pub authority : (h : Header) (qs : List Question) (xs : List Record)
    → Section 8 (12 + length (flat_map question_wire qs) + length (flat_map record_wire xs)) (λ rs. in_authority h qs xs rs)
authority h qs xs = record {
  more = λ rs r few. message_wire-more_authority h qs xs rs r few;
  counted = λ rs few. from_be_bytes-to_be_bytes_2 (length rs) few;
  size = λ rs. omega (arith, wire_length (in_authority h qs xs rs));
}

abbrev pub with_additional : Message → List Record → Message
with_additional m rs = record m { additional = rs }

pub additional : (m : Message)
    → Section 10 (12 + length (flat_map question_wire m.questions) + length (flat_map record_wire m.answers) + length (flat_map record_wire m.authority)) (with_additional m)
additional m = record {
  more = λ rs r few. message_wire-more_additional (with_additional m rs) r few;
  counted = λ rs few. from_be_bytes-to_be_bytes_2 (length rs) few;
  size = λ rs. omega (arith, wire_length (with_additional m rs));
}

-- ---- one record

few : (k base : ℕ) (M : List Record → Message) (rs : List Record) (b : Building) → Section k base M → Stands (M rs) b → length rs < 65535
few k base M rs b s stands =
    omega (arith, within_most b.limit (message_wire (M rs)) stands.0, s.size rs, records_long rs)

pushed_is : (k base : ℕ) (M : List Record → Message) (rs : List Record) (r : Record) (b : Building) → Section k base M → Stands (M rs) b
    → with_item k b.octets (record_wire r) ≡ message_wire (M (rs ++ r ∷ []))
pushed_is k base M rs r b s stands =
    ap (λ octets. with_item k octets (record_wire r)) stands.1 ∙ sym (s.more rs r (omega (arith, few k base M rs b s stands)))

pub longer : (k base : ℕ) (M : List Record → Message) (xs ys : List Record) → Section k base M → length (message_wire (M xs)) ≤ length (message_wire (M (xs ++ ys)))
longer k base M xs ys s =
    omega (
      arith,
      s.size xs,
      s.size (xs ++ ys),
      ap length (flat_map-append record_wire xs ys),
      length-append (flat_map record_wire xs) (flat_map record_wire ys),
    )

-- what a loop over records keeps: those added so far, and that they are, with what is left, all
pub record Kept (M : List Record → Message) (now old : Building) (rest all : List Record) : Type 0 where
  pub done : List Record
  pub stands : Stands (M done) now
  pub limit : now.limit ≡ old.limit
  pub whole : done ++ rest ≡ all

pub kept_more : (k base : ℕ) (M : List Record → Message) (r : Record) (rest all : List Record) (now old new : Building) (u : Unit {0})
    → Section k base M → Kept M now old (r ∷ rest) all → Adds k (record_wire r) now (Ok u) new → Kept M new old rest all
kept_more k base M r rest all now old new u s kept added =
    let is = pushed_is k base M kept.done r now s kept.stands in
    let limit : new.limit ≡ now.limit = ap (λ (b : Building). b.limit) added.2 in
    let octets : new.octets ≡ with_item k now.octets (record_wire r) = ap (λ (b : Building). b.octets) added.2 in
    record {
      done = kept.done ++ r ∷ [];
      stands = (ap (λ l. fits l (message_wire (M (kept.done ++ r ∷ [])))) limit ∙ ap (fits now.limit) (sym is) ∙ added.0, octets ∙ is);
      limit = limit ∙ kept.limit;
      whole = append_assoc kept.done (r ∷ []) rest ∙ kept.whole;
    }

pub kept_refused : (k base : ℕ) (M : List Record → Message) (r : Record) (rest all : List Record) (now old new after : Building) (e : PushError)
    → Section k base M → Kept M now old (r ∷ rest) all → Adds {A = Unit {0}} k (record_wire r) now (Err e) new → Reaches {A = Unit {0}} (M all) old (Err e) after
kept_refused k base M r rest all now old new after ShortBuf s kept refused =
    let is = pushed_is k base M kept.done r now s kept.stands in
    let short : fits now.limit (message_wire (M (kept.done ++ r ∷ []))) ≡ false = ap (fits now.limit) (sym is) ∙ refused.0 in
    let out = not_fitting now.limit (message_wire (M (kept.done ++ r ∷ []))) (message_wire (M ((kept.done ++ r ∷ []) ++ rest))) (longer k base M (kept.done ++ r ∷ []) rest s) short in
    ap (λ l. fits l (message_wire (M all))) (sym kept.limit)
    ∙ ap (λ xs. fits now.limit (message_wire (M xs))) (sym (append_assoc kept.done (r ∷ []) rest ∙ kept.whole)) ∙ out
kept_refused k base M r rest all now old new after CountOverflow s kept refused =
    let small = few k base M kept.done now s kept.stands in
    omega (arith, ap (header_number k) (sym kept.stands.1) ∙ refused.1, s.counted kept.done (omega (arith, small)), small)
kept_refused k base M r rest all now old new after Memory s kept refused = tt

pub kept_done : (M : List Record → Message) (all : List Record) (now old : Building) (u : Unit {0}) → Kept M now old [] all → Reaches (M all) old (Ok u) now
kept_done M all now old u kept =
    let P : List Record → Type 0 = λ rs. Stands (M rs) now in
    (subst P (sym (append-nil kept.done) ∙ kept.whole) kept.stands, kept.limit)

-- .. over a list of records
pub records_more : (k base : ℕ) (M : List Record → Message) (rest behind : List Record) (r : Record) (all : List Record) (now old new : Building) (u : Unit {0})
    → Section k base M → rest ≡ r ∷ behind → Kept M now old rest all → Adds k (record_wire r) now (Ok u) new → Kept M new old behind all
records_more k base M rest behind r all now old new u s split kept added =
    let P : List Record → Type 0 = λ xs. Kept M now old xs all in
    kept_more k base M r behind all now old new u s (subst P split kept) added

pub records_refused : (k base : ℕ) (M : List Record → Message) (rest behind : List Record) (r : Record) (all : List Record) (now old new after : Building) (e : PushError)
    → Section k base M → rest ≡ r ∷ behind → Kept M now old rest all → Adds {A = Unit {0}} k (record_wire r) now (Err e) new → Reaches {A = Unit {0}} (M all) old (Err e) after
records_refused k base M rest behind r all now old new after e s split kept added =
    let P : List Record → Type 0 = λ xs. Kept M now old xs all in
    kept_refused k base M r behind all now old new after e s (subst P split kept) added

pub records_done : (M : List Record → Message) (rest all : List Record) (now old : Building) (u : Unit {0}) → length rest ≡ 0 → Kept M now old rest all → Reaches (M all) old (Ok u) now
records_done M [] all now old u none kept = kept_done M all now old u kept
records_done M (x ∷ xs) all now old u none kept = cc

-- ---- one record alone, and none

pub one_added : (k base : ℕ) (M : List Record → Message) (before : List Record) (r : Record) (old new : Building) (result : Result (Unit {0}) PushError)
    → Section k base M → Stands (M before) old → Adds k (record_wire r) old result new → Reaches (M (before ++ r ∷ [])) old result new
one_added k base M before r old new (Ok u) s stands added =
    kept_done M (before ++ r ∷ []) new old u (kept_more k base M r [] (before ++ r ∷ []) old old new u s (record { done = before; stands = stands; limit = refl; whole = refl }) added)
one_added k base M before r old new (Err e) s stands added =
    kept_refused k base M r [] (before ++ r ∷ []) old old new new e s (record { done = before; stands = stands; limit = refl; whole = refl }) added

pub none_added : (M : List Record → Message) (before : List Record) (old : Building) (u : Unit {0}) → Stands (M before) old → Reaches (M (before ++ [])) old (Ok u) old
none_added M before old u stands =
    let P : List Record → Type 0 = λ rs. Stands (M rs) old in
    (subst P (sym (append-nil before)) stands, refl)

pub record_added : (k base : ℕ) (M : List Record → Message) (before : List Record) (made r : Record) (old new : Building) (result : Result (Unit {0}) PushError)
    → Section k base M → made ≡ r → Stands (M before) old → Adds k (record_wire made) old result new → Reaches (M (before ++ r ∷ [])) old result new
record_added k base M before made r old new result s is stands added =
    let P : Record → Type 0 = λ x. Adds k (record_wire x) old result new in
    one_added k base M before r old new result s stands (subst P is added)

-- .. of what is there, if it is
pub some_added : {X : Type 0} (f : X → List Record) (x : X) (o : Option X) (M : List Record → Message) (before : List Record) (old new : Building) (result : Result (Unit {0}) PushError)
    → Some x ≡ o → Reaches (M (before ++ f x)) old result new → Reaches (M (before ++ option_map_or f o [])) old result new
some_added {X} f x o M before old new result is reached =
    let P : Option X → Type 0 = λ y. Reaches (M (before ++ option_map_or f y [])) old result new in
    subst P is reached

pub nothing_added : {X : Type 0} (f : X → List Record) (o : Option X) (M : List Record → Message) (before : List Record) (old : Building) (u : Unit {0})
    → None ≡ o → Stands (M before) old → Reaches (M (before ++ option_map_or f o [])) old (Ok u) old
nothing_added {X} f o M before old u is stands =
    let P : Option X → Type 0 = λ y. Reaches (M (before ++ option_map_or f y [])) old (Ok u) old in
    subst P is (none_added M before old u stands)

-- ---- the records of a set

abbrev pub record_with : Name → ℕ → ℕ → ℕ → List Field → Record
record_with owner rtype class ttl fields = record { owner = owner; rtype = rtype; class = class; ttl = ttl; fields = fields }

abbrev pub set_of : {X : Type 0} → (X → List Field) → Name → ℕ → ℕ → ℕ → List X → List Record
set_of f owner rtype class ttl xs = records_of owner rtype class (record { ttl = ttl; items = map f xs })

-- the first of the data is of the set's type, and so are the others
pub typed_rest : {X : Type 0} (t : X → ℕ) (rtype : ℕ) (xs behind : List X) (x : X) → xs ≡ x ∷ behind → All (λ d. t d ≡ rtype) xs
    → (t x ≡ rtype) × All (λ d. t d ≡ rtype) behind
typed_rest t rtype xs behind x split types =
    let all = subst (All (λ d. t d ≡ rtype)) split types in
    (All-head (λ d. t d ≡ rtype) x behind all, All-tail (λ d. t d ≡ rtype) x behind all)

pub set_more : {X : Type 0} (f : X → List Field) (owner : Name) (rtype class ttl : ℕ) (rest behind : List X) (x : X) (made : Record) (k base : ℕ) (M : List Record → Message)
    (all : List Record) (now old new : Building) (u : Unit {0}) → Section k base M → rest ≡ x ∷ behind → made ≡ record_with owner rtype class ttl (f x)
    → Kept M now old (set_of f owner rtype class ttl rest) all → Adds k (record_wire made) now (Ok u) new → Kept M new old (set_of f owner rtype class ttl behind) all
set_more {X} f owner rtype class ttl rest behind x made k base M all now old new u s split is kept added =
    let P : List X → Type 0 = λ xs. Kept M now old (set_of f owner rtype class ttl xs) all in
    let Q : Record → Type 0 = λ r. Adds k (record_wire r) now (Ok u) new in
    kept_more k base M (record_with owner rtype class ttl (f x)) (set_of f owner rtype class ttl behind) all now old new u s (subst P split kept) (subst Q is added)

pub set_refused : {X : Type 0} (f : X → List Field) (owner : Name) (rtype class ttl : ℕ) (rest behind : List X) (x : X) (made : Record) (k base : ℕ) (M : List Record → Message)
    (all : List Record) (now old new after : Building) (e : PushError) → Section k base M → rest ≡ x ∷ behind → made ≡ record_with owner rtype class ttl (f x)
    → Kept M now old (set_of f owner rtype class ttl rest) all → Adds {A = Unit {0}} k (record_wire made) now (Err e) new → Reaches {A = Unit {0}} (M all) old (Err e) after
set_refused {X} f owner rtype class ttl rest behind x made k base M all now old new after e s split is kept added =
    let P : List X → Type 0 = λ xs. Kept M now old (set_of f owner rtype class ttl xs) all in
    let Q : Record → Type 0 = λ r. Adds {A = Unit {0}} k (record_wire r) now (Err e) new in
    kept_refused k base M (record_with owner rtype class ttl (f x)) (set_of f owner rtype class ttl behind) all now old new after e s (subst P split kept) (subst Q is added)

pub set_done : {X : Type 0} (f : X → List Field) (owner : Name) (rtype class ttl : ℕ) (rest : List X) (M : List Record → Message)
    (all : List Record) (now old : Building) (u : Unit {0}) → length rest ≡ 0 → Kept M now old (set_of f owner rtype class ttl rest) all → Reaches (M all) old (Ok u) now
set_done f owner rtype class ttl [] M all now old u none kept = kept_done M all now old u kept
set_done f owner rtype class ttl (x ∷ xs) M all now old u none kept = cc

pub set_is : {X : Type 0} (f : X → List Field) (owner : Name) (class ttl : ℕ) (xs : List X) (s : TypedSet) → ttl ≡ s.contents.ttl → map f xs ≡ s.contents.items
    → set_of f owner s.rtype class ttl xs ≡ set_at_name owner class s
set_is f owner class ttl xs s ttl_is items =
    ap (λ t. records_of owner s.rtype class (record { ttl = t; items = map f xs })) ttl_is
    ∙ ap (λ ds. records_of owner s.rtype class (record { ttl = s.contents.ttl; items = ds })) items

-- ---- one after another

-- what refuses a front refuses all
pub front_refused : (k base : ℕ) (M : List Record → Message) (xs ys : List Record) (old mid after : Building) (e : PushError) → Section k base M
    → Reaches {A = Unit {0}} (M xs) old (Err e) mid → Reaches {A = Unit {0}} (M (xs ++ ys)) old (Err e) after
front_refused k base M xs ys old mid after ShortBuf s refused = not_fitting old.limit (message_wire (M xs)) (message_wire (M (xs ++ ys))) (longer k base M xs ys s) refused
front_refused k base M xs ys old mid after CountOverflow s refused = refused
front_refused k base M xs ys old mid after Memory s refused = tt

-- records after a front that was added
pub added_behind : (m n : Message) (old mid new : Building) (u : Unit {0}) (result : Result (Unit {0}) PushError) → Reaches m old (Ok u) mid
    → (Stands m mid → Reaches n mid result new) → Reaches n old result new
added_behind m n old mid new u (Ok v) front back = let added = back front.0 in (added.0, added.1 ∙ front.1)
added_behind m n old mid new u (Err ShortBuf) front back = ap (λ l. fits l (message_wire n)) (sym front.1) ∙ back front.0
added_behind m n old mid new u (Err CountOverflow) front back = back front.0
added_behind m n old mid new u (Err Memory) front back = tt

pub regrouped : (M : List Record → Message) (xs ys zs : List Record) (old new : Building) (result : Result (Unit {0}) PushError)
    → Reaches (M ((xs ++ ys) ++ zs)) old result new → Reaches (M (xs ++ (ys ++ zs))) old result new
regrouped M xs ys zs old new result reached =
    let P : List Record → Type 0 = λ rs. Reaches (M rs) old result new in
    subst P (append_assoc xs ys zs) reached

-- the same set, and the same records
pub set_given : (owner : Name) (class : ℕ) (s t : TypedSet) (M : List Record → Message) (before : List Record) (old new : Building) (result : Result (Unit {0}) PushError)
    → s ≡ t → Reaches (M (before ++ set_at_name owner class s)) old result new → Reaches (M (before ++ set_at_name owner class t)) old result new
set_given owner class s t M before old new result is reached =
    let P : TypedSet → Type 0 = λ x. Reaches (M (before ++ set_at_name owner class x)) old result new in
    subst P is reached

pub list_given : (xs ys : List Record) (M : List Record → Message) (before : List Record) (old new : Building) (result : Result (Unit {0}) PushError)
    → xs ≡ ys → Reaches (M (before ++ xs)) old result new → Reaches (M (before ++ ys)) old result new
list_given xs ys M before old new result is reached =
    let P : List Record → Type 0 = λ rs. Reaches (M (before ++ rs)) old result new in
    subst P is reached

-- the content, by its cases
pub content_is : (owner : Name) (class : ℕ) (content x : AnswerContent) (h : Header) (qs : List Question) (old new : Building) (result : Result (Unit {0}) PushError)
    → content ≡ x → Reaches (in_answer h qs (content_records owner class x)) old result new → Reaches (in_answer h qs (content_records owner class content)) old result new
content_is owner class content x h qs old new result is reached =
    let P : AnswerContent → Type 0 = λ y. Reaches (in_answer h qs (content_records owner class y)) old result new in
    subst P (sym is) reached

-- ---- what a reply is to have, and what it isn't

pub is_said : (said : Bool) (xs : List Record) (M : List Record → Message) (old new : Building) (result : Result (Unit {0}) PushError) → said ≡ true
    → Reaches (M xs) old result new → Reaches (M (if said then xs else [])) old result new
is_said true xs M old new result is reached = reached
is_said false xs M old new result is reached = cc

pub is_unsaid : (said : Bool) (xs : List Record) (M : List Record → Message) (old : Building) (u : Unit {0}) → said ≡ false
    → Stands (M []) old → Reaches (M (if said then xs else [])) old (Ok u) old
is_unsaid true xs M old u is stands = cc
is_unsaid false xs M old u is stands = (stands, refl)

-- ---- whole messages

abbrev pub message_of : Header → List Question → List Record → List Record → List Record → Message
message_of h qs xs ys zs = record { header = h; questions = qs; answers = xs; authority = ys; additional = zs }

-- a message without its last sections is no longer than the whole
pub begun : (h : Header) (qs : List Question) (xs ys zs : List Record) → length (message_wire (in_answer h qs [])) ≤ length (message_wire (message_of h qs xs ys zs))
begun h qs xs ys zs = omega (arith, wire_length (in_answer h qs []), wire_length (message_of h qs xs ys zs))

pub answered : (h : Header) (qs : List Question) (xs ys zs : List Record) → length (message_wire (in_answer h qs xs)) ≤ length (message_wire (message_of h qs xs ys zs))
answered h qs xs ys zs = omega (arith, wire_length (in_answer h qs xs), wire_length (message_of h qs xs ys zs))

pub referred : (h : Header) (qs : List Question) (xs ys zs : List Record) → length (message_wire (in_authority h qs xs ys)) ≤ length (message_wire (message_of h qs xs ys zs))
referred h qs xs ys zs = omega (arith, wire_length (in_authority h qs xs ys), wire_length (message_of h qs xs ys zs))

-- what refuses a message refuses a longer one
pub refused_longer : (front m n : Message) (limit : ℕ) (e : PushError) → length (message_wire m) ≤ length (message_wire n)
    → BuildsBehind (message_wire front) (message_wire m) limit (Err e) → BuildsBehind (message_wire front) (message_wire n) limit (Err e)
refused_longer front m n limit ShortBuf more refused = not_fitting limit (message_wire m) (message_wire n) more refused
refused_longer front m n limit CountOverflow more refused = refused
refused_longer front m n limit Memory more refused = refused

-- a front that isn't built
pub front_unbuilt : (m : Message) (limit : ℕ) (e : PushError) → Builds (message_wire m) limit (Err e) → BuildsBehind (message_wire m) (message_wire m) limit (Err e)
front_unbuilt m limit ShortBuf refused = refused
front_unbuilt m limit CountOverflow refused = refused
front_unbuilt m limit Memory refused = refused

pub stood : (m : Message) (limit : ℕ) (b : Building) → Builds (message_wire m) limit (Ok b) → Stands m b
stood m limit b built =
    (ap (λ (c : Building). fits c.limit (message_wire m)) built.1 ∙ built.0, ap (λ (c : Building). c.octets) built.1)

pub built_more : (m n : Message) (limit : ℕ) (b new : Building) (u : Unit {0}) → Builds (message_wire m) limit (Ok b) → Reaches n b (Ok u) new → Builds (message_wire n) limit (Ok new)
built_more m n limit b new u built reached =
    let bound : new.limit ≡ limit = reached.1 ∙ ap (λ (c : Building). c.limit) built.1 in
    let is : building new.octets new.limit ≡ building (message_wire n) limit = ap (λ octets. building octets new.limit) reached.0.1 ∙ ap (λ l. building (message_wire n) l) bound in
    (ap (λ l. fits l (message_wire n)) (sym bound) ∙ reached.0.0, is)

pub refused_more : (front m n : Message) (limit : ℕ) (b new : Building) (e : PushError) → fits limit (message_wire front) ≡ true → Builds (message_wire m) limit (Ok b)
    → Reaches {A = Unit {0}} n b (Err e) new → BuildsBehind (message_wire front) (message_wire n) limit (Err e)
refused_more front m n limit b new ShortBuf room built refused = ap (λ (c : Building). fits c.limit (message_wire n)) (sym built.1) ∙ refused
refused_more front m n limit b new CountOverflow room built refused = refused
refused_more front m n limit b new Memory room built refused = room

pub moved : (octets : List ℕ) (limit : ℕ) (b new : Building) → new ≡ b → Builds octets limit (Ok b) → Builds octets limit (Ok new)
moved octets limit b new is built = (built.0, is ∙ built.1)

-- the content at a name and in a class that are those asked for
pub content_given : (owner : Name) (class : ℕ) (content : AnswerContent) (q : Question) (a : Reply) (h : Header) (qs : List Question) (old new : Building) (result : Result (Unit {0}) PushError)
    → owner ≡ q.qname → class ≡ q.qclass → content ≡ a.content → Reaches (in_answer h qs (content_records owner class content)) old result new
    → Reaches (in_answer h qs (answers_of q a)) old result new
content_given owner class content q a h qs old new result owner_is class_is content_is reached =
    let P : Name → Type 0 = λ n. Reaches (in_answer h qs (content_records n class content)) old result new in
    let Q : ℕ → Type 0 = λ k. Reaches (in_answer h qs (content_records q.qname k content)) old result new in
    let R : AnswerContent → Type 0 = λ x. Reaches (in_answer h qs (content_records q.qname q.qclass x)) old result new in
    subst R content_is (subst Q class_is (subst P owner_is reached))
