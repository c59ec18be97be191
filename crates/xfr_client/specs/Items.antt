-- The items of an answer section, record by record.
use Rattle.std.specs.Prelude.{◌≡◌, ℕ, List, [], ◌∷◌, map, Option, Some, None, Result, Ok, Err, if◌then◌else◌}
use Rattle.dns_rdata.specs.Records.{Record}
use Rattle.dns_rdata.specs.Heads.{RawRecord, readable}
use Rattle.dns_wire.specs.Parse.{SectionIn}
use Rattle.xfr_model.specs.Read.{Unreadable, Item, Good, Bad, record_item}

-- an item of a section: a record, or what can't be read
abbrev pub item_in : List ℕ → Option RawRecord → Item
item_in message None = Bad Unreadable
item_in message (Some raw) = record_item (readable message raw)

abbrev pub items_left : SectionIn → List Item
items_left s = map (item_in s.message) s.left

-- what one step answers: nothing where nothing is left, else the first item
abbrev pub NextItem : {E : Type 0} → List Item → Option (Result Record E) → List Item → Type 0
NextItem old None new = (old ≡ []) × (new ≡ [])
NextItem old (Some (Ok r)) new = old ≡ Good r ∷ new
NextItem old (Some (Err e)) new = old ≡ Bad Unreadable ∷ new
