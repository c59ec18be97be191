-- The answer section of a message that is read.
use Rattle.std.proofs.Common.{◌≡◌, ℕ, List, ◌∷◌, Option, Some, None, map}
use Rattle.std.specs.Prelude.{Result, Ok, Err}
use Rattle.dns_rdata.specs.Records.{Record}
use Rattle.dns_wire.specs.Parse.{answer_readings, answers_start}
use Rattle.xfr_model.specs.Messages.{ReadMessage}
use Rattle.xfr_model.specs.Read.{Item, record_item}
use Rattle.xfr_client.specs.Items.{NextItem, item_in}
use Rattle.xfr_client.specs.Interpreting.{IsReadAs}

-- it begins somewhere
pub items_begin : (o : List ℕ) (m : ReadMessage) → IsReadAs o m → answers_start o ≡ None → ⊥
items_begin o m h e = h.begins e

-- .. and its items are the answer records
pub items_are : (o : List ℕ) (m : ReadMessage) → IsReadAs o m → map (item_in o) (answer_readings o) ≡ map record_item m.answers
items_are o m h = h.items

-- after the first item the others are left
pub left_behind : {E : Type 0} (old new : List Item) (res : Option (Result Record E)) (x : Option Record) (xs : List (Option Record)) → NextItem old res new
    → old ≡ record_item x ∷ map record_item xs → new ≡ map record_item xs
left_behind old new None x xs h e = absurd (cc (h.0, e))
left_behind old new (Some (Ok r)) x xs h e = cc (h, e)
left_behind old new (Some (Err f)) x xs h e = cc (h, e)
