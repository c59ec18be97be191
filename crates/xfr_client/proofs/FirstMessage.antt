-- What refuses a first message, test by test, and where one that isn't refused leads.
use Rattle.std.proofs.Common.{◌≡◌, Bool, true, false, List, [], ◌∷◌, Option, Some, None, length, map, refl, ap, ◌∙◌, sym}
use Rattle.std.specs.Prelude.{◌==◌, not, if◌then◌else◌, Result, Ok, Err}
use Rattle.std.specs.Cmp.{first_so, second_so}
use Rattle.dns_rdata.specs.Records.{Record}
use Rattle.xfr_model.specs.Messages.{ReadMessage}
use Rattle.xfr_model.specs.Read.{Fault, NotValid, Malformed, Item, Good, Bad, message_fault, is_transfer_head, asks_transfer, first_record_fault, record_item}
use Rattle.zone_model.specs.TransferText.{Axfr, Ixfr, is_soa}
use Rattle.xfr_model.specs.Interpreter.{mode_asked}
use Rattle.xfr_model.specs.Machine.{first_step}
use Rattle.xfr_client.specs.declared.interpreter_state.Place.{Place}
use Rattle.xfr_outcomes.specs.declared.protocol.Error.{Error}
use Rattle.xfr_client.specs.Interpreting.{BeginsAt, IsPlaceAt}

pub fault_head : (m : ReadMessage) (first : Bool) → is_transfer_head first m ≡ false → message_fault first m ≡ Some NotValid
fault_head m first e = rw e refl

pub faultless_later : (m : ReadMessage) → is_transfer_head false m ≡ true → message_fault false m ≡ None
faultless_later m e = rw e refl

pub fault_asks : (m : ReadMessage) → is_transfer_head true m ≡ true → asks_transfer m.questions ≡ false → message_fault true m ≡ Some Malformed
fault_asks m e k = rw (e, k) refl

pub fault_first : (m : ReadMessage) → is_transfer_head true m ≡ true → asks_transfer m.questions ≡ true → message_fault true m ≡ first_record_fault m.answers
fault_first m e k = rw (e, k) refl

-- a good head has one question, and an answer
pub head_one : (m : ReadMessage) → is_transfer_head true m ≡ true → (length m.questions == 1) ≡ true
head_one m e = second_so _ _ e

not_none : (b : Bool) → not b ≡ true → b ≡ false
not_none true e = cc e
not_none false e = refl

pub has_answers : (m : ReadMessage) → is_transfer_head true m ≡ true → (length m.answers == 0) ≡ false
has_answers m e = not_none _ (second_so _ _ (first_so _ _ (first_so _ _ e)))

soa_faultless : (r : Record) (xs : List (Option Record)) → is_soa r ≡ true → first_record_fault (Some r ∷ xs) ≡ None
soa_faultless r xs e = rw e refl

plain_refused : (r : Record) (xs : List (Option Record)) → is_soa r ≡ false → first_record_fault (Some r ∷ xs) ≡ Some NotValid
plain_refused r xs e = rw e refl

-- the items of the answer records tell the records
none_read : (xs : List (Option Record)) → map record_item xs ≡ [] → (length xs == 0) ≡ true
none_read [] e = refl
none_read (x ∷ xs) e = absurd (cc e)

bad_first : (xs : List (Option Record)) (f : Fault) (ys : List Item) → map record_item xs ≡ Bad f ∷ ys → first_record_fault xs ≡ Some Malformed
bad_first [] f ys e = absurd (cc e)
bad_first (None ∷ xs) f ys e = refl
bad_first (Some r ∷ xs) f ys e = absurd (cc e)

pub record FirstOf (xs : List (Option Record)) (r : Record) (ys : List Item) : Type 0 where
  pub others : List (Option Record)
  pub are : xs ≡ Some r ∷ others

good_first : (xs : List (Option Record)) (r : Record) (ys : List Item) → map record_item xs ≡ Good r ∷ ys → FirstOf xs r ys
good_first [] r ys e = absurd (cc e)
good_first (None ∷ xs) r ys e = absurd (cc e)
good_first (Some s ∷ xs) r ys e = record { others = xs; are = let same : s ≡ r = cc e in ap (λ x. Some x ∷ xs) same }

-- what the first record makes of a first message with a good head that asks for a transfer
pub begins_none : (m : ReadMessage) → is_transfer_head true m ≡ true → map record_item m.answers ≡ [] → ⊥
begins_none m e h = absurd (cc (none_read m.answers h, has_answers m e))

pub begins_bad : (m : ReadMessage) (f : Fault) (ys : List Item) → is_transfer_head true m ≡ true → asks_transfer m.questions ≡ true → map record_item m.answers ≡ Bad f ∷ ys
    → message_fault true m ≡ Some Malformed
begins_bad m f ys e k h = fault_first m e k ∙ bad_first m.answers f ys h

pub begins_good : (m : ReadMessage) (b : Bool) (r : Record) (ys : List Item) (res : Result Place Error) → is_transfer_head true m ≡ true → asks_transfer m.questions ≡ true
    → mode_asked m.questions ≡ (if b then Ixfr else Axfr) → map record_item m.answers ≡ Good r ∷ ys → IsPlaceAt b r res → BeginsAt m res
begins_good m b r ys (Ok p) e k a h i =
    let g = good_first m.answers r ys h in
    record {
      first = r;
      others = g.others;
      answers = g.are;
      faultless = fault_first m e k ∙ ap first_record_fault g.are ∙ soa_faultless r g.others i.0;
      stands = i.1 ∙ ap (λ x. (first_step x r).place) (sym a);
    }
begins_good m b r ys (Err x) e k a h i =
    let g = good_first m.answers r ys h in
    let f : message_fault true m ≡ Some NotValid = fault_first m e k ∙ ap first_record_fault g.are ∙ plain_refused r g.others i.0 in
    rw i.1 f
