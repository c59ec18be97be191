-- What a builder's push leaves: one more item in the list.
use Rattle.std.proofs.Common.{◌≡◌, ℕ, ◌<◌, ◌^◌, List, [], ◌∷◌, ◌++◌, length, sym, ap, ◌∙◌}
use Rattle.std.specs.Prelude.{Result, Ok, Err, OnOk}
use Rattle.dns_rdata.specs.Records.{Record, record_wire}
use Rattle.dns_wire.specs.Wire.{Header, Message, Question, Building, question_wire, message_wire, in_answer, in_authority, with_item}
use Rattle.dns_wire.proofs.Pushing.{message_wire-more_questions, message_wire-more_answers, message_wire-more_authority, message_wire-more_additional, with_more}
use Rattle.dns_wire.specs.Builds.{Adds}
use Rattle.dns_wire.specs.declared.builder.PushError.{PushError}

-- the octets with the item
with_pushed : {A : Type 0} (k : ℕ) (item before after : List ℕ) (old new : Building) (a : A) → Adds {A = A} k item old (Ok a) new
    → after ≡ with_item k before item → old.octets ≡ before → new.octets ≡ after
with_pushed k item before after old new a added more whole =
    ap (λ (b : Building). b.octets) added.2 ∙ ap (λ octets. with_item k octets item) whole ∙ sym more

pub question_listed : {A : Type 0} (q : Question) (old new : Building) (result : Result A PushError) → Adds 4 (question_wire q) old result new
    → OnOk result ((h : Header) (qs : List Question) → length qs < 2 ^ 16
    → old.octets ≡ message_wire (in_answer h qs []) → new.octets ≡ message_wire (in_answer h (qs ++ q ∷ []) []))
question_listed q old new (Ok a) added =
    λ h qs few whole. with_pushed 4 (question_wire q) _ _ old new a added (message_wire-more_questions h qs q few) whole
question_listed q old new (Err e) added = tt

pub answer_listed : {A : Type 0} (r : Record) (old new : Building) (result : Result A PushError) → Adds 6 (record_wire r) old result new
    → OnOk result ((h : Header) (qs : List Question) (rs : List Record) → length rs < 2 ^ 16
    → old.octets ≡ message_wire (in_answer h qs rs) → new.octets ≡ message_wire (in_answer h qs (rs ++ r ∷ [])))
answer_listed r old new (Ok a) added =
    λ h qs rs few whole. with_pushed 6 (record_wire r) _ _ old new a added (message_wire-more_answers h qs rs r few) whole
answer_listed r old new (Err e) added = tt

pub authority_listed : {A : Type 0} (r : Record) (old new : Building) (result : Result A PushError) → Adds 8 (record_wire r) old result new
    → OnOk result ((h : Header) (qs : List Question) (rs ns : List Record) → length ns < 2 ^ 16
    → old.octets ≡ message_wire (in_authority h qs rs ns) → new.octets ≡ message_wire (in_authority h qs rs (ns ++ r ∷ [])))
authority_listed r old new (Ok a) added =
    λ h qs rs ns few whole. with_pushed 8 (record_wire r) _ _ old new a added (message_wire-more_authority h qs rs ns r few) whole
authority_listed r old new (Err e) added = tt

pub additional_listed : {A : Type 0} (r : Record) (old new : Building) (result : Result A PushError) → Adds 10 (record_wire r) old result new
    → OnOk result ((m : Message) → length m.additional < 2 ^ 16 → old.octets ≡ message_wire m → new.octets ≡ message_wire (with_more m r))
additional_listed r old new (Ok a) added =
    λ m few whole. with_pushed 10 (record_wire r) _ _ old new a added (message_wire-more_additional m r few) whole
additional_listed r old new (Err e) added = tt
