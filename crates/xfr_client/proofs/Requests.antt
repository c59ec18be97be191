-- The request of a secondary.
use Rattle.std.proofs.Common.{◌≡◌, ℕ, lit<, ltb-true, nat_lt, ◌+◌, ◌^◌, ◌<◌, ◌≤◌, false, List, [], ◌∷◌, ◌++◌, length, length-append, length-drop, append-nil, take, drop, replicate, refl, sym, ap, ◌∙◌, subst, arith, inl, inr, is_some, not, map, Option, Some, None, Result, Ok, Err}
use Rattle.std.proofs.lemmas.List.{length-take-le}
use Rattle.dns_name.specs.Names.{is_name}
use Rattle.dns_name.specs.Octets.{u16_octets}
use Rattle.dns_numbers.specs.Codes.{type_soa}
use Rattle.dns_rdata.specs.Records.{Field, Record, record_wire, is_data, data_wire, parts, part_allows}
use Rattle.dns_rdata.specs.Soa.{serial_of}
use Rattle.tsig_port.specs.Tsig.{TsigKey, tsig_record, request_tsig}
use Rattle.std.proofs.lemmas.Bool.{and_parts, leb-false}
use Rattle.std.specs.Cmp.Lexicographic.{pointwise}
use Rattle.dns_wire.specs.Wire.{Building, Question, Message, header_of, header_wire, question_wire, message_wire, with_item, fits, header_number, in_answer, counts_wire, counts_of}
use Rattle.std.specs.List.{flat_map}
use Rattle.std.specs.Prelude.{◌⊎◌, option_map, slice_get, IsTrue}
use Rattle.std.proofs.lemmas.Grind.{flat_map-append}
use Rattle.dns_wire.proofs.Pushing.{message_wire-more_questions, message_wire-more_authority}
use Rattle.dns_wire.specs.Builds.{Adds, Pushes, building}
use Rattle.dns_wire.specs.declared.builder.PushError.{PushError}
use Rattle.dns_wire.specs.declared.builder.PushError.TheVariants.{ShortBuf, CountOverflow, Memory}
use Rattle.zone_model.specs.Commits.{Commit}
use Rattle.zone_model.specs.TransferText.{Mode, Axfr, Ixfr}
use Rattle.zone_model.specs.Version.{RecordSet, Version, set_at, apex_soa}
use Rattle.zone_model.specs.Answer.{apex_soa_record}
use Rattle.zone_values.proofs.ApexSoa.{soa_none, soa_empty, soa_first, record_with, first_left}
use Rattle.xfr_model.specs.Messages.{type_of}
use Rattle.zone_reads.specs.Session.{Session}
use Rattle.xfr_client.specs.Updating.{progress_of}
use Rattle.xfr_model.specs.Machine.{AtStart}
use Rattle.tsig_port.specs.States.{ClientStands}
use Rattle.xfr_client.specs.RecordForms.{HaveForms}
use Rattle.xfr_client.specs.SoFar.{client_so_far, fault_so_far, Asking, asking, authority_of, asked_id, asked_question, asked_authority, asked_serial, request_message, asked_octets, asked_mac, lacks_soa, CantAsk, AsksWith, PushesFirst, IsTooLong}
use Rattle.xfr_client.specs.Standing.{ExchangeStands}
use Rattle.xfr_client.specs.declared.exchange.Exchange.{Exchange}
use Rattle.xfr_client.proofs.Standings.{none_passed}
use Rattle.xfr_outcomes.specs.Refusals.{of_push}
use Rattle.xfr_outcomes.specs.declared.outcome.SyncError.{SyncError}
use Rattle.xfr_outcomes.specs.declared.outcome.SyncError.TheVariants as why

-- a message before its question, and before its authority
abbrev pub blank : ℕ → Building
blank id = building (header_wire (header_of id 0) ++ drop 4 (replicate 12 0)) 65535

abbrev pub asked_blank : ℕ → Question → Building
asked_blank id q = building (message_wire (asking id q [])) 65535

no_fit : (m : List ℕ) → fits 65535 m ≡ false → 65535 < length m
no_fit m h = leb-false (length m) 65535 h

-- ---- lengths

asking_len : (id : ℕ) (q : Question) (rs : List Record) → length (message_wire (asking id q rs)) ≡ 12 + length (flat_map question_wire (q ∷ [])) + length (flat_map record_wire rs)
asking_len id q rs =
    let h = header_of id 0 in
    let m : Message = asking id q rs in
    let questions : List ℕ = flat_map question_wire (q ∷ []) in
    let records : List ℕ = flat_map record_wire rs in
    let first = length-append (header_wire h) (counts_wire (counts_of m)) in
    let second = length-append (header_wire h ++ counts_wire (counts_of m)) questions in
    let third = length-append (header_wire h ++ counts_wire (counts_of m) ++ questions) [] in
    let fourth = length-append (header_wire h ++ counts_wire (counts_of m) ++ questions ++ []) records in
    let fifth = length-append (header_wire h ++ counts_wire (counts_of m) ++ questions ++ [] ++ records) [] in
    let head : length (header_wire h) ≡ 4 = refl in
    let counts : length (counts_wire (counts_of m)) ≡ 8 = refl in
    omega (arith, first, second, third, fourth, fifth, head, counts)

longer_asking : (id : ℕ) (q : Question) (rs more : List Record) → length (message_wire (asking id q rs)) ≤ length (message_wire (asking id q (rs ++ more)))
longer_asking id q rs more =
    let short = asking_len id q rs in
    let long = asking_len id q (rs ++ more) in
    let both = ap length (flat_map-append record_wire rs more) in
    let size = length-append (flat_map record_wire rs) (flat_map record_wire more) in
    omega (arith, short, long, both, size)

long_enough : (id : ℕ) (q : Question) (rs : List Record) → 12 ≤ length (message_wire (asking id q rs))
long_enough id q rs = let n = asking_len id q rs in omega (arith, n)

-- ---- the question

one_question : (id : ℕ) (q : Question) → with_item 4 (blank id).octets (question_wire q) ≡ message_wire (asking id q [])
one_question id q =
    let h = header_of id 0 in
    let is : (blank id).octets ≡ message_wire (in_answer h [] []) = refl in
    ap (λ m. with_item 4 m (question_wire q)) is ∙ sym (message_wire-more_questions h [] q (omega (arith)))

-- it is added, or isn't
pub question_added : (id : ℕ) (q : Question) (old new : Building) → old ≡ blank id → Adds {A = Unit {0}} 4 (question_wire q) old (Ok tt) new → new ≡ asked_blank id q
question_added id q old new is a = a.2 ∙ ap (λ (b : Building). record b { octets = with_item 4 b.octets (question_wire q) }) is ∙ ap (λ m. building m 65535) (one_question id q)

pub question_refused : (id : ℕ) (q : Question) (rs : List Record) (old new : Building) (e : PushError) → old ≡ blank id → Adds {A = Unit {0}} 4 (question_wire q) old (Err e) new → IsTooLong 65535 (message_wire (asking id q rs)) (of_push e)
question_refused id q rs old new ShortBuf is a =
    let short = no_fit (message_wire (asking id q [])) (ap (fits 65535) (sym (one_question id q)) ∙ ap (λ b. fits b.limit (with_item 4 b.octets (question_wire q))) (sym is) ∙ a.0) in
    let long = longer_asking id q [] rs in
    omega (arith, short, long)
question_refused id q rs old new CountOverflow is a = absurd (cc (ap (λ b. header_number 4 b.octets) (sym is) ∙ a.1))
question_refused id q rs old new Memory is a = tt

-- ---- the authority

one_authority : (id : ℕ) (q : Question) (r : Record) → with_item 8 (message_wire (asking id q [])) (record_wire r) ≡ message_wire (asking id q (r ∷ []))
one_authority id q r = sym (message_wire-more_authority (header_of id 0) (q ∷ []) [] [] r (omega (arith)))

-- a version has at most one first apex SOA record
abbrev pub IsFew : List Record → Type 0
IsFew rs = (rs ≡ []) ⊎ ((r : Record) × (rs ≡ r ∷ []))

few_soa : (v : Version) → IsFew (apex_soa_record v)
few_soa v = by (set_at v v.apex type_soa) refl
  where
    by_items : (s : RecordSet) → set_at v v.apex type_soa ≡ Some s → (items : List (List Field)) → s.items ≡ items → IsFew (apex_soa_record v)
    by_items s e [] i = inl (soa_empty v s e i)
    by_items s e (d ∷ more) i = inr (record { owner = v.apex; rtype = type_soa; class = v.class; ttl = s.ttl; fields = d }, soa_first v s d more e i)

    by : (o : Option RecordSet) → set_at v v.apex type_soa ≡ o → IsFew (apex_soa_record v)
    by None e = inl (soa_none v e)
    by (Some s) e = by_items s e s.items refl

pub few_authority : (mode : Mode) (v : Version) → IsFew (authority_of mode v)
few_authority Axfr v = inl refl
few_authority Ixfr v = few_soa v

few_added : (id : ℕ) (q : Question) (rs : List Record) (old new : Building) → IsFew rs → old ≡ asked_blank id q → PushesFirst 8 rs old (Ok tt) new → new ≡ building (message_wire (asking id q rs)) 65535
few_added id q rs old new (inl none) is a =
    let k = subst (λ l. PushesFirst 8 l old (Ok tt) new) none a in
    k.1 ∙ is ∙ ap (λ l. building (message_wire (asking id q l)) 65535) (sym none)
few_added id q rs old new (inr (r, one)) is a =
    let k = subst (λ l. PushesFirst 8 l old (Ok tt) new) one a in
    k.2 ∙ ap (λ (b : Building). record b { octets = with_item 8 b.octets (record_wire r) }) is ∙ ap (λ m. building m 65535) (one_authority id q r) ∙ ap (λ l. building (message_wire (asking id q l)) 65535) (sym one)

pub authority_added : (id : ℕ) (q : Question) (mode : Mode) (v : Version) (old new : Building) → old ≡ asked_blank id q → PushesFirst 8 (authority_of mode v) old (Ok tt) new → new ≡ building (message_wire (asking id q (authority_of mode v))) 65535
authority_added id q mode v old new is a = few_added id q (authority_of mode v) old new (few_authority mode v) is a

pub authority_refused : (id : ℕ) (q : Question) (rs : List Record) (old new : Building) (e : PushError) → old ≡ asked_blank id q → PushesFirst 8 rs old (Err e) new → IsTooLong 65535 (message_wire (asking id q rs)) (of_push e)
authority_refused id q [] old new e is a = absurd (cc a.0)
authority_refused id q (r ∷ more) old new ShortBuf is a =
    let short = no_fit (message_wire (asking id q (r ∷ []))) (ap (fits 65535) (sym (one_authority id q r)) ∙ ap (λ b. fits b.limit (with_item 8 b.octets (record_wire r))) (sym is) ∙ a.0) in
    let long = longer_asking id q (r ∷ []) more in
    omega (arith, short, long)
authority_refused id q (r ∷ more) old new CountOverflow is a = absurd (cc (ap (λ b. header_number 8 b.octets) (sym is) ∙ a.1))
authority_refused id q (r ∷ more) old new Memory is a = tt

-- ---- the version's SOA, as it is looked up

pub pushed_nothing : (rs : List Record) (old : Building) → rs ≡ [] → PushesFirst 8 rs old (Ok tt) old
pushed_nothing rs old none = subst (λ l. PushesFirst 8 l old (Ok tt) old) (sym none) (refl, refl)

pub pushed_soa : {X : Type 0} (f : X → List Field) (xs : List X) (x : X) (v : Version) (s : RecordSet) (made : Record) (old new : Building) (result : Result (Unit {0}) PushError)
    → Some s ≡ set_at v v.apex type_soa → Some x ≡ slice_get xs 0 → map f xs ≡ s.items → made ≡ record_with v.apex type_soa v.class s.ttl (f x)
    → Pushes 8 made old result new → PushesFirst 8 (apex_soa_record v) old result new
pushed_soa f xs x v s made old new result is first items made_is added =
    let one = soa_first v s (f x) (map f (drop 1 xs)) (sym is) (sym items ∙ ap (map f) (first_left xs x first)) in
    subst (λ l. PushesFirst 8 l old result new) (sym one) (subst (λ r. Pushes 8 r old result new) made_is added)

-- its wire form
pub no_forms : (rs : List Record) → rs ≡ [] → HaveForms rs
no_forms rs none = subst HaveForms (sym none) tt

pub data_short : (rtype : ℕ) (d : List Field) → IsTrue (is_data rtype d) → length (data_wire d) < 2 ^ 16
data_short rtype d is = ltb-true (length (data_wire d)) 65536 (and_parts (pointwise part_allows (parts rtype) d) (nat_lt (length (data_wire d)) 65536) is).1

pub soa_forms : {X : Type 0} (f : X → List Field) (xs : List X) (x : X) (v : Version) (s : RecordSet) → Some s ≡ set_at v v.apex type_soa → Some x ≡ slice_get xs 0 → map f xs ≡ s.items
    → IsTrue (is_name v.apex) → v.class < 2 ^ 16 → s.ttl < 2 ^ 32 → IsTrue (is_data type_soa (f x)) → HaveForms (apex_soa_record v)
soa_forms f xs x v s is first items apex class ttl pieces =
    let one = soa_first v s (f x) (map f (drop 1 xs)) (sym is) (sym items ∙ ap (map f) (first_left xs x first)) in
    subst HaveForms (sym one) ((record { owner = apex; rtype = lit< tt; class = class; ttl = ttl; len = data_short type_soa (f x) pieces }, pieces), tt)

-- the serial to ask with
pub asks_with_serial : (v : Version) (n : ℕ) → Some n ≡ option_map serial_of (apex_soa v) → AsksWith Ixfr v (Ok (Some n))
asks_with_serial v n e = by (apex_soa v) refl
  where
    by : (o : Option (List Field)) → apex_soa v ≡ o → AsksWith Ixfr v (Ok (Some n))
    by (Some d) h = (ap (λ x. not (is_some x)) h, e)
    by None h = absurd (cc (e ∙ ap (option_map serial_of) h))

pub asks_without : (v : Version) → None ≡ option_map serial_of (apex_soa v) → AsksWith Ixfr v (Err why.NoSoa)
asks_without v e = by (apex_soa v) refl
  where
    by : (o : Option (List Field)) → apex_soa v ≡ o → AsksWith Ixfr v (Err why.NoSoa)
    by (Some d) h = absurd (cc (e ∙ ap (option_map serial_of) h))
    by None h = (ap (λ x. not (is_some x)) h, refl)

-- ---- the signature

pub octets_are : (a : Asking) → with_item 10 (message_wire (request_message a)) (record_wire (tsig_record a.key.name (request_tsig a.key (message_wire (request_message a)) a.at 300))) ≡ asked_octets a
unfolding asked_octets
octets_are a = refl

pub mac_is : (a : Asking) → (request_tsig a.key (message_wire (request_message a)) a.at 300).mac ≡ asked_mac a
unfolding asked_mac
mac_is a = refl

-- an item makes a message longer
longer_item : (m r : List ℕ) → 12 ≤ length m → length m ≤ length (with_item 10 m r)
longer_item m r h =
    let n : List ℕ = u16_octets (header_number 10 m + 1) in
    let first = length-append (take 10 m ++ n ++ drop 12 m) r in
    let second = length-append (take 10 m ++ n) (drop 12 m) in
    let third = length-append (take 10 m) n in
    let front = length-take-le 10 m (omega (arith, h)) in
    let behind = length-drop 12 m in
    omega (arith, first, second, third, front, behind, h)

pub too_long_signed : (a : Asking) (most : ℕ) (m : List ℕ) (e : SyncError) → lacks_soa a ≡ false → m ≡ message_wire (request_message a) → IsTooLong 65535 m e → CantAsk a most e
too_long_signed a most m why.Memory soa is h = tt
too_long_signed a most m (why.Request ShortBuf) soa is h =
    let r : List ℕ = record_wire (tsig_record a.key.name (request_tsig a.key (message_wire (request_message a)) a.at 300)) in
    let long = longer_item (message_wire (request_message a)) r (long_enough (asked_id a) (asked_question a) (asked_authority a)) in
    let same : length (asked_octets a) ≡ length (with_item 10 (message_wire (request_message a)) r) = ap length (sym (octets_are a)) in
    let size : length m ≡ length (message_wire (request_message a)) = ap length is in
    (soa, omega (arith, long, same, size, h))
too_long_signed a most m (why.Request CountOverflow) soa is h = absurd h
too_long_signed a most m (why.Request Memory) soa is h = absurd h
too_long_signed a most m why.NoSoa soa is h = absurd h
too_long_signed a most m why.LinkFault soa is h = absurd h
too_long_signed a most m why.Ended soa is h = absurd h
too_long_signed a most m (why.Short x) soa is h = absurd h
too_long_signed a most m (why.Primary x) soa is h = absurd h
too_long_signed a most m why.TooManyMessages soa is h = absurd h
too_long_signed a most m (why.Tsig x) soa is h = absurd h
too_long_signed a most m why.OtherAnswer soa is h = absurd h
too_long_signed a most m (why.Xfr x) soa is h = absurd h
too_long_signed a most m (why.Iteration x) soa is h = absurd h
too_long_signed a most m (why.Update x) soa is h = absurd h
too_long_signed a most m why.VersionsExhausted soa is h = absurd h

-- the item that signs, for the parts that the code has
pub same_signed : (a : Asking) (key : TsigKey) (old : Building) (at : ℕ) → key ≡ a.key → old ≡ building (message_wire (request_message a)) 65535 → at ≡ a.at
    → with_item 10 old.octets (record_wire (tsig_record key.name (request_tsig key old.octets at 300))) ≡ asked_octets a
same_signed a key old at k is t =
    ap (λ x. with_item 10 old.octets (record_wire (tsig_record x.name (request_tsig x old.octets at 300)))) k
    ∙ ap (λ x. with_item 10 x.octets (record_wire (tsig_record a.key.name (request_tsig a.key x.octets at 300)))) is
    ∙ ap (λ x. with_item 10 (message_wire (request_message a)) (record_wire (tsig_record a.key.name (request_tsig a.key (message_wire (request_message a)) x 300)))) t
    ∙ octets_are a

pub same_mac : (a : Asking) (key : TsigKey) (old : Building) (at : ℕ) → key ≡ a.key → old ≡ building (message_wire (request_message a)) 65535 → at ≡ a.at
    → (request_tsig key old.octets at 300).mac ≡ asked_mac a
same_mac a key old at k is t =
    ap (λ x. (request_tsig x old.octets at 300).mac) k ∙ ap (λ x. (request_tsig a.key x.octets at 300).mac) is ∙ ap (λ x. (request_tsig a.key (message_wire (request_message a)) x 300).mac) t ∙ mac_is a

pub sign_refused : (a : Asking) (key : TsigKey) (old new : Building) (at most : ℕ) (e : PushError) → lacks_soa a ≡ false → key ≡ a.key → old ≡ building (message_wire (request_message a)) 65535 → at ≡ a.at
    → Adds {A = Unit {0}} 10 (record_wire (tsig_record key.name (request_tsig key old.octets at 300))) old (Err e) new → CantAsk a most (of_push e)
sign_refused a key old new at most ShortBuf soa k is t x =
    let long = no_fit (asked_octets a) (ap (fits 65535) (sym (same_signed a key old at k is t)) ∙ ap (λ b. fits b (with_item 10 old.octets (record_wire (tsig_record key.name (request_tsig key old.octets at 300))))) (sym (ap (λ b. b.limit) is)) ∙ x.0) in
    (soa, omega (arith, long))
sign_refused a key old new at most CountOverflow soa k is t x = absurd (cc (ap (λ b. header_number 10 b.octets) (sym is) ∙ x.1))
sign_refused a key old new at most Memory soa k is t x = tt

-- the request that was made
pub sign_added : (a : Asking) (key : TsigKey) (old new : Building) (at : ℕ) → key ≡ a.key → old ≡ building (message_wire (request_message a)) 65535 → at ≡ a.at
    → Adds {A = Unit {0}} 10 (record_wire (tsig_record key.name (request_tsig key old.octets at 300))) old (Ok tt) new → new.octets ≡ asked_octets a
sign_added a key old new at k is t x = ap (λ b. b.octets) x.2 ∙ same_signed a key old at k is t

-- the question of a zone
pub question_is : (a : Asking) (zone : Commit) (q : Question) (mode : Mode) → zone ≡ a.base → mode ≡ a.mode → q ≡ record { qname = zone.version.apex; qtype = type_of mode; qclass = zone.version.class } → q ≡ asked_question a
question_is a zone q mode z m is = is ∙ ap (λ x. record { qname = x.version.apex; qtype = type_of mode; qclass = x.version.class }) z ∙ ap (λ x. record { qname = a.base.version.apex; qtype = type_of x; qclass = a.base.version.class }) m

-- what was built for it
pub asked_is : (a : Asking) (id : ℕ) (q : Question) (mode : Mode) (zone : Commit) → id ≡ asked_id a → q ≡ asked_question a → mode ≡ a.mode → zone ≡ a.base
    → message_wire (asking id q (authority_of mode zone.version)) ≡ message_wire (request_message a)
asked_is a id q mode zone i q_is m z =
    ap (λ x. message_wire (asking x q (authority_of mode zone.version))) i ∙ ap (λ x. message_wire (asking (asked_id a) x (authority_of mode zone.version))) q_is
    ∙ ap (λ x. message_wire (asking (asked_id a) (asked_question a) (authority_of x zone.version))) m ∙ ap (λ (x : Commit). message_wire (asking (asked_id a) (asked_question a) (authority_of a.mode x.version))) z

pub built_is : (a : Asking) (id : ℕ) (q : Question) (mode : Mode) (zone : Commit) (b : Building) → id ≡ asked_id a → q ≡ asked_question a → mode ≡ a.mode → zone ≡ a.base → b ≡ building (message_wire (asking id q (authority_of mode zone.version))) 65535
    → b ≡ building (message_wire (request_message a)) 65535
built_is a id q mode zone b i q_is m z is = is ∙ ap (λ x. building x 65535) (asked_is a id q mode zone i q_is m z)

-- the serial, as it is asked with
pub soa_there : (a : Asking) (mode : Mode) (zone : Commit) (serial : Option ℕ) → mode ≡ a.mode → zone ≡ a.base → AsksWith mode zone.version (Ok serial) → AsksWith a.mode a.base.version (Ok serial)
soa_there a mode zone serial m z h = subst (λ x. AsksWith x a.base.version (Ok serial)) m (subst (λ (x : Commit). AsksWith mode x.version (Ok serial)) z h)

pub soa_lacks : (a : Asking) (mode : Mode) (zone : Commit) (most : ℕ) (e : SyncError) → mode ≡ a.mode → zone ≡ a.base → AsksWith mode zone.version (Err e) → CantAsk a most e
soa_lacks a mode zone most e m z h =
    let k = subst (λ x. AsksWith x a.base.version (Err e)) m (subst (λ (x : Commit). AsksWith mode x.version (Err e)) z h) in
    subst (λ x. CantAsk a most x) (sym k.1) k.0

-- the forms, as they are asked with
pub forms_there : (a : Asking) (mode : Mode) (zone : Commit) → mode ≡ a.mode → zone ≡ a.base → HaveForms (authority_of mode zone.version) → HaveForms (asked_authority a)
forms_there a mode zone m z h = subst (λ x. HaveForms (authority_of x a.base.version)) m (subst (λ (x : Commit). HaveForms (authority_of mode x.version)) z h)

-- ---- the exchange that begins

pub begins : (a : Asking) (x : Exchange) (s : Session) (handles : List Commit) → x.sequence.key ≡ a.key → ClientStands (λ k. k) x.sequence (asked_mac a) [] → x.id ≡ asked_id a → x.question ≡ asked_question a → x.serial ≡ asked_serial a
    → x.interpreter ≡ record { begun = false; place = AtStart; signalled = false } → x.updater ≡ record { replacing = false; finished = false }
    → s.current ≡ a.base → s.pending ≡ a.base.version → a.base.number < 2 ^ 64 → ExchangeStands x s a [] handles handles
unfolding client_so_far
begins a x s handles key sequence id question serial interpreter updater current pending number = record {
  key = key;
  sequence = sequence;
  id = id;
  question = question;
  serial = serial;
  interpreter = interpreter;
  unmet = refl;
  ahead = record {
    progress = ap (λ v. progress_of x.updater (record s { pending = v }) []) pending ∙ ap (λ u. progress_of u (record s { pending = a.base.version }) []) updater;
    made = record { current = current; behind = sym (append-nil handles) };
    few = omega (arith, number);
  };
  passed = none_passed (fault_so_far a);
}
