-- Places after the first record: the mode isn't asked any more, and none of them is the second place again.
use Rattle.std.proofs.Common.{◌≡◌, Bool, true, false, List, [], ◌∷◌, refl, ap, ◌∙◌}
use Rattle.std.specs.Prelude.{◌&&◌, not, is_some, if◌then◌else◌}
use Rattle.dns_rdata.specs.Records.{Record}
use Rattle.xfr_model.specs.Read.{Item, Good, Bad, first_fault}
use Rattle.zone_model.specs.TransferText.{Mode, Axfr, is_soa, is_same_soa}
use Rattle.xfr_model.specs.Machine.{Place, AtStart, AtSecond, InWhole, InDeletes, InAdds, AtEnd, Run, then_run, step, run_items}
use Rattle.xfr_client.specs.Places.{is_at_second}
use Rattle.xfr_client.specs.Rest.{asks_again}

-- after the first record
abbrev pub is_begun : Place → Bool
is_begun AtStart = false
is_begun (AtSecond s) = true
is_begun (InWhole s) = true
is_begun (InDeletes s) = true
is_begun (InAdds s) = true
is_begun AtEnd = true

-- after the second
abbrev pub is_later : Place → Bool
is_later AtStart = false
is_later (AtSecond s) = false
is_later (InWhole s) = true
is_later (InDeletes s) = true
is_later (InAdds s) = true
is_later AtEnd = true

either : (b : Bool) (x y : Run) → is_later x.place ≡ true → is_later y.place ≡ true → is_later (if b then x else y).place ≡ true
either true x y h k = h
either false x y h k = k

pub step_later : (mode : Mode) (p : Place) (r : Record) → is_begun p ≡ true → is_later (step mode p r).place ≡ true
step_later mode AtStart r h = cc
step_later mode (AtSecond s) r h = either (is_soa r) _ _ (either (is_same_soa s r) _ _ refl refl) refl
step_later mode (InWhole s) r h = either (is_same_soa s r) _ _ refl refl
step_later mode (InDeletes s) r h = either (is_soa r) _ _ refl refl
step_later mode (InAdds s) r h = either (is_soa r) _ _ (either (is_same_soa s r) _ _ refl refl) refl
step_later mode AtEnd r h = refl

pub begun_later : (p : Place) → is_later p ≡ true → is_begun p ≡ true
begun_later AtStart h = cc
begun_later (AtSecond s) h = refl
begun_later (InWhole s) h = refl
begun_later (InDeletes s) h = refl
begun_later (InAdds s) h = refl
begun_later AtEnd h = refl

pub not_second : (p : Place) → is_later p ≡ true → is_at_second p ≡ false
not_second AtStart h = refl
not_second (AtSecond s) h = cc
not_second (InWhole s) h = refl
not_second (InDeletes s) h = refl
not_second (InAdds s) h = refl
not_second AtEnd h = refl

step_mode : (mode : Mode) (p : Place) (r : Record) → is_begun p ≡ true → step mode p r ≡ step Axfr p r
step_mode mode AtStart r h = cc
step_mode mode (AtSecond s) r h = refl
step_mode mode (InWhole s) r h = refl
step_mode mode (InDeletes s) r h = refl
step_mode mode (InAdds s) r h = refl
step_mode mode AtEnd r h = refl

-- the mode isn't asked after the first record
pub any_mode : (mode : Mode) (xs : List Item) (p : Place) → is_begun p ≡ true → run_items mode p xs ≡ run_items Axfr p xs
any_mode mode [] p h = refl
any_mode mode (Good r ∷ xs) p h =
    ap (λ a. then_run a (run_items mode a.place xs)) (step_mode mode p r h)
    ∙ ap (then_run (step Axfr p r)) (any_mode mode xs (step Axfr p r).place (begun_later (step Axfr p r).place (step_later Axfr p r h)))
any_mode mode (Bad f ∷ xs) p h = refl

pub stays_later : (xs : List Item) (p : Place) → is_later p ≡ true → is_at_second (run_items Axfr p xs).place ≡ false
stays_later [] p h = not_second p h
stays_later (Good r ∷ xs) p h = stays_later xs (step Axfr p r).place (step_later Axfr p r (begun_later p h))
stays_later (Bad f ∷ xs) p h = not_second p h

no_more : (b : Bool) → (b && false) ≡ false
no_more true = refl
no_more false = refl

-- a text stays at its second place exactly where nothing was read after the first record
pub signal_told : (xs : List Item) (p : Place) → is_begun p ≡ true → (is_at_second (run_items Axfr p xs).place && not (is_some (first_fault xs))) ≡ asks_again true (run_items Axfr p xs)
signal_told [] AtStart h = refl
signal_told [] (AtSecond s) h = refl
signal_told [] (InWhole s) h = refl
signal_told [] (InDeletes s) h = refl
signal_told [] (InAdds s) h = refl
signal_told [] AtEnd h = refl
signal_told (Bad f ∷ xs) AtStart h = refl
signal_told (Bad f ∷ xs) (AtSecond s) h = refl
signal_told (Bad f ∷ xs) (InWhole s) h = refl
signal_told (Bad f ∷ xs) (InDeletes s) h = refl
signal_told (Bad f ∷ xs) (InAdds s) h = refl
signal_told (Bad f ∷ xs) AtEnd h = refl
signal_told (Good r ∷ xs) p h =
    let e : is_at_second (run_items Axfr p (Good r ∷ xs)).place ≡ false = stays_later xs (step Axfr p r).place (step_later Axfr p r h) in
    rw (e, no_more) refl
