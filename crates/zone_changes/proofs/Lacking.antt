-- What another set lacks of the first data of a list.
use Rattle.std.proofs.Common.{◌≡◌, ℕ, ◌+◌, ◌<◌, length, get_or, map, take, Bool, true, false, cond, not, if◌then◌else◌, List, [], ◌∷◌, ◌++◌, refl, sym, ap, ◌∙◌, Option}
use Rattle.std.specs.List.{filter}
use Rattle.std.proofs.lemmas.List.{append-nil, map-append, take_more}
use Rattle.std.proofs.lemmas.List.Elements.{filter-append}
use Rattle.dns_rdata.specs.Records.{Field}
use Rattle.zone_model.specs.Version.{RecordSet}
use Rattle.zone_changes.specs.Changes.{has_record}

abbrev pub lacked_items : Option RecordSet → ℕ → List (List Field) → List (List Field)
lacked_items other ttl items = filter (λ d. not (has_record other ttl d)) items

-- one more datum
pub lacked_more : {X : Type 0} (other : Option RecordSet) (ttl : ℕ) (f : X → List Field) (xs : List X) (i : ℕ) (x : X) (had : Bool) → i < length xs → x ≡ get_or xs i x → had ≡ has_record other ttl (f x)
    → (if had then lacked_items other ttl (map f (take i xs)) else lacked_items other ttl (map f (take i xs)) ++ f x ∷ []) ≡ lacked_items other ttl (map f (take (i + 1) xs))
lacked_more other ttl f xs i x had within is e = by had ∙ ap (λ b. first ++ cond (not b) (f x ∷ []) []) e ∙ sym split
  where
    first : List (List Field)
    first = lacked_items other ttl (map f (take i xs))

    by : (b : Bool) → (if b then first else first ++ f x ∷ []) ≡ first ++ cond (not b) (f x ∷ []) []
    by true = sym (append-nil first)
    by false = refl

    split : lacked_items other ttl (map f (take (i + 1) xs)) ≡ first ++ lacked_items other ttl (f x ∷ [])
    split =
        ap (λ l. lacked_items other ttl (map f l)) (take_more xs i x within ∙ ap (λ y. take i xs ++ y ∷ []) (sym is)) ∙ ap (lacked_items other ttl) (map-append f (take i xs) (x ∷ []))
        ∙ filter-append (λ d. not (has_record other ttl d)) (map f (take i xs)) (f x ∷ [])
