-- Messages that carry the pages of a text are read as it.
use Rattle.std.proofs.Common.{◌≡◌, Bool, true, false, not, ◌==◌, List, [], ◌∷◌, ◌++◌, map, length, refl, sym, ap, subst, ◌∙◌, append_assoc, Option, Some, None, is_some}
use Rattle.std.specs.List.{AllByRecursion}
use Rattle.std.specs.Option.{option_or}
use Rattle.std.proofs.lemmas.Bool.{true≢false}
use Rattle.dns_rdata.specs.Records.{Record}
use Rattle.zone_model.specs.TransferText.{Mode}
use Rattle.xfr_model.specs.Messages.{ReadMessage}
use Rattle.xfr_model.specs.Read.{Fault, AfterEnd, Item, Good, record_item, items_unless, items_of, good_records, first_fault, end_of, after_end, read_items, joined_items, messages_read}
use Rattle.xfr_model.specs.Machine.{Place, AtStart, AtSecond, InWhole, InDeletes, InAdds, AtEnd, is_at_end, run}
use Rattle.xfr_model.specs.Carried.{Carrier, Carries, carried_messages, carried_text, EndsWhole, PagesAreRead}
use Rattle.xfr_model.proofs.Runs.{runs_on}
use Rattle.xfr_model.proofs.Readers.{start_reads, later, ends, read_behind, behind_more, behind_nothing}
use Rattle.xfr_model.proofs.InTurn.{items_begin}

-- records as items
abbrev good : List Record → List Item
good rs = map (λ r. Good r) rs

good_again : (rs : List Record) → good_records (good rs) ≡ rs
good_again [] = refl
good_again (r ∷ rs) = ap (λ l. r ∷ l) (good_again rs)

no_fault : (rs : List Record) → first_fault (good rs) ≡ None
no_fault [] = refl
no_fault (r ∷ rs) = no_fault rs

good-append : (xs ys : List Record) → good (xs ++ ys) ≡ good xs ++ good ys
good-append [] ys = refl
good-append (x ∷ xs) ys = ap (λ l. Good x ∷ l) (good-append xs ys)

read_records : (rs : List Record) → map record_item (map Some rs) ≡ good rs
read_records [] = refl
read_records (r ∷ rs) = ap (λ l. Good r ∷ l) (read_records rs)

carried_items : (fault_of : Bool → ReadMessage → Option Fault) (first : Bool) (k : Carrier) → Carries fault_of first k → items_of (fault_of first) k.message ≡ good k.page
carried_items fault_of first k c = ap (λ o. items_unless k.message.answers o) c.sound ∙ ap (λ l. map record_item l) c.answers ∙ read_records k.page

-- a text that ends with its last record hasn't ended before it
at_end : (p : Place) → is_at_end p ≡ true → p ≡ AtEnd
at_end AtStart h = absurd (true≢false (sym h))
at_end (AtSecond s) h = absurd (true≢false (sym h))
at_end (InWhole s) h = absurd (true≢false (sym h))
at_end (InDeletes s) h = absurd (true≢false (sym h))
at_end (InAdds s) h = absurd (true≢false (sym h))
at_end AtEnd h = refl

or_some : {A : Type 0} (o : Option A) (x : A) → is_some (option_or o (Some x)) ≡ true
or_some None x = refl
or_some (Some y) x = refl

not_yet : (mode : Mode) (xs : List Record) (r : Record) (ys : List Record) → EndsWhole mode (xs ++ r ∷ ys) → is_some (end_of mode xs) ≡ false
not_yet mode xs r ys whole = by (is_some (end_of mode xs)) refl
  where
    by : (b : Bool) → is_some (end_of mode xs) ≡ b → b ≡ false
    by false e = refl
    by true e =
        let place : (run mode AtStart xs).place ≡ AtEnd = at_end (run mode AtStart xs).place ((start_reads mode xs).ended ∙ e) in
        let joined : (run mode AtStart (xs ++ r ∷ ys)).fault ≡ option_or (run mode AtStart xs).fault (run mode AtEnd (r ∷ ys)).fault =
        ap (λ a. a.fault) (runs_on mode AtStart xs (r ∷ ys)) ∙ ap (λ p. option_or (run mode AtStart xs).fault (run mode p (r ∷ ys)).fault) place in
        let none : (run mode AtStart (xs ++ r ∷ ys)).fault ≡ None = (start_reads mode (xs ++ r ∷ ys)).fault ∙ ap after_end whole.is in
        absurd (true≢false (sym (or_some (run mode AtStart xs).fault AfterEnd) ∙ ap is_some (sym joined) ∙ ap is_some none))

not_yet_page : (mode : Mode) (xs page ys : List Record) → not (length page == 0) ≡ true → EndsWhole mode (xs ++ (page ++ ys)) → is_some (end_of mode xs) ≡ false
not_yet_page mode xs [] ys full whole = absurd (true≢false (sym full))
not_yet_page mode xs (r ∷ page) ys full whole = not_yet mode xs r (page ++ ys) whole

-- later messages, after the records of those before them
later_read : (mode : Mode) (fault_of : Bool → ReadMessage → Option Fault) (ks : List Carrier) (done : List Record) → AllByRecursion (Carries fault_of false) ks
    → EndsWhole mode (done ++ carried_text ks) → later fault_of (read_behind mode fault_of (good done) (carried_messages ks)) ≡ good (carried_text ks)
later_read mode fault_of [] done carry whole = ap (later fault_of) (behind_nothing mode fault_of (good done))
later_read mode fault_of (k ∷ ks) done carry whole =
    let open_yet : ends mode (good done) ≡ false = ap (λ l. is_some (end_of mode l)) (good_again done) ∙ not_yet_page mode done k.page (carried_text ks) carry.0.full whole in
    let its = carried_items fault_of false k carry.0 in
    let acc : good done ++ items_of (fault_of false) k.message ≡ good (done ++ k.page) = ap (λ l. good done ++ l) its ∙ sym (good-append done k.page) in
    let whole_on : EndsWhole mode ((done ++ k.page) ++ carried_text ks) = subst (λ l. EndsWhole mode l) (sym (append_assoc done k.page (carried_text ks))) whole in
    let rest = later_read mode fault_of ks (done ++ k.page) carry.1 whole_on in
    ap (later fault_of) (behind_more mode fault_of (good done) k.message (carried_messages ks) open_yet)
    ∙ ap (λ l. items_of (fault_of false) k.message ++ later fault_of (read_behind mode fault_of l (carried_messages ks))) acc
    ∙ ap (λ l. items_of (fault_of false) k.message ++ l) rest
    ∙ ap (λ l. l ++ good (carried_text ks)) its
    ∙ sym (good-append k.page (carried_text ks))

-- what is read of records alone
read_good : (mode : Mode) (rs : List Record) → EndsWhole mode rs → read_items mode (good rs) ≡ record { records = rs; ended = true; fault = None }
read_good mode rs whole =
    ap (λ l. record { records = l; ended = is_some (end_of mode l); fault = option_or (after_end (end_of mode l)) (first_fault (good rs)) }) (good_again rs)
    ∙ ap (λ o. record { records = rs; ended = is_some o; fault = option_or (after_end o) (first_fault (good rs)) }) whole.is
    ∙ ap (λ o. record { records = rs; ended = true; fault = o }) (no_fault rs)

pub pages_are_read : PagesAreRead
pages_are_read mode fault_of k more first rest whole =
    let its = carried_items fault_of true k first in
    let items : joined_items fault_of (messages_read mode fault_of (carried_messages (k ∷ more))) ≡ good (carried_text (k ∷ more)) =
    items_begin mode fault_of k.message (carried_messages more)
    ∙ ap (λ l. l ++ later fault_of (read_behind mode fault_of l (carried_messages more))) its
    ∙ ap (λ l. good k.page ++ l) (later_read mode fault_of more k.page rest whole)
    ∙ sym (good-append k.page (carried_text more)) in
    ap (read_items mode) items ∙ read_good mode (carried_text (k ∷ more)) whole
