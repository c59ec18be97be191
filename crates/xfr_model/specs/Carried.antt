-- Messages that carry the pages of a text (RFC 5936, 2.2).
use Rattle.std.specs.Prelude.{◌≡◌, Bool, true, false, not, ◌==◌, List, [], ◌∷◌, map, length, flat_map, Option, Some, None}
use Rattle.std.specs.List.{AllByRecursion}
use Rattle.dns_rdata.specs.Records.{Record}
use Rattle.zone_model.specs.TransferText.{Mode}
use Rattle.xfr_model.specs.Messages.{ReadMessage}
use Rattle.xfr_model.specs.Read.{Fault, end_of, read_by}

-- a message, and the page of a text that it carries
pub record Carrier : Type 0 where
  pub message : ReadMessage
  pub page : List Record

-- nothing refuses the message, and its answer records are those of the page, one or more
pub record Carries (fault_of : Bool → ReadMessage → Option Fault) (first : Bool) (k : Carrier) : Type 0 where
  pub sound : fault_of first k.message ≡ None
  pub answers : k.message.answers ≡ map Some k.page
  pub full : not (length k.page == 0) ≡ true

-- the messages, and the text of their pages
abbrev pub carried_messages : List Carrier → List ReadMessage
carried_messages ks = map (λ (k : Carrier). k.message) ks

abbrev pub carried_text : List Carrier → List Record
carried_text ks = flat_map (λ (k : Carrier). k.page) ks

-- a list whose text ends with its last record
pub record EndsWhole (mode : Mode) (records : List Record) : Type 0 where
  pub last : Record
  pub is : end_of mode records ≡ Some (record { last = last; rest = [] })

-- the law of pages: messages that carry the pages of such a text are read as it, to its end and without a fault
abbrev pub PagesAreRead : Type 0
PagesAreRead = (mode : Mode) (fault_of : Bool → ReadMessage → Option Fault) (k : Carrier) (more : List Carrier)
    → Carries fault_of true k → AllByRecursion (Carries fault_of false) more → EndsWhole mode (carried_text (k ∷ more))
    → read_by mode fault_of (carried_messages (k ∷ more)) ≡ record { records = carried_text (k ∷ more); ended = true; fault = None }
