-- What services send: the items of a stream of replies, and what its calls answer.
use Rattle.std.specs.Prelude.{◌≡◌, ◌≢◌, ℕ, Bool, true, false, List, [], ◌∷◌, ◌++◌, map, Option, Some, None, IsSome, Result, Ok, Err}
use Rattle.dns_wire.specs.Wire.{Building}
use Rattle.dns_wire.specs.declared.builder.PushError.{PushError}
use Rattle.dns_wire.specs.declared.builder.PushError.TheVariants.{ShortBuf, CountOverflow, Memory as OutOfMemory}
use Rattle.xfr_services.specs.declared.services.CallResult.{CallResult}
use Rattle.xfr_services.specs.declared.services.ServiceFeedback.{ServiceFeedback}
use Rattle.xfr_services.specs.declared.services.ServiceError.{ServiceError}
use Rattle.xfr_services.specs.declared.services.ServiceError.TheVariants.{InternalError, Memory}

-- what a service answers where a message can't be built
abbrev pub service_error_of : PushError → ServiceError
service_error_of ShortBuf = InternalError
service_error_of CountOverflow = InternalError
service_error_of OutOfMemory = Memory

-- One case for each answer of a call that makes something: this, where it can be made; InternalError where it can't; Memory only where it can.
abbrev pub Makes : {A : Type 0} → Option A → Result A ServiceError → Type 0
Makes made (Ok a) = made ≡ Some a
Makes made (Err InternalError) = made ≡ None
Makes made (Err Memory) = IsSome made

-- The same of a call that begins it before that is known: want of memory may hide that it can't be made.
abbrev pub MakesBegun : {A : Type 0} → Option A → Result A ServiceError → Type 0
MakesBegun made (Ok a) = made ≡ Some a
MakesBegun made (Err InternalError) = made ≡ None
MakesBegun made (Err Memory) = Unit {0}

-- ---- items

-- a reply, or feedback, alone
abbrev pub reply_item : Building → CallResult
reply_item reply = record { response = Some reply; feedback = None }

abbrev pub feedback_item : ServiceFeedback → CallResult
feedback_item feedback = record { response = None; feedback = Some feedback }

-- one item that a stream gives: an item, or the error that one can't be made
pub data Sending : Type 0 where
  Given : CallResult → Sending
  Failed : Sending

-- one reply and nothing else
abbrev pub one_reply : Building → List CallResult
one_reply reply = reply_item reply ∷ []

-- what comes of items that were made beforehand
abbrev pub all_given : List CallResult → List Sending
all_given items = map Given items

-- ---- the calls

-- What a stream answers that still gives these items, `After` telling what it gives from then on. Where memory runs out it has ended:
-- nothing follows an item that is lost.
abbrev pub NextOf : (List Sending → Type 0) → List Sending → Option (Result CallResult ServiceError) → Type 0
NextOf After items None = (items ≡ []) × After []
NextOf After items (Some (Ok item)) = (rest : List Sending) × (items ≡ Given item ∷ rest) × After rest
NextOf After items (Some (Err InternalError)) = (rest : List Sending) × (items ≡ Failed ∷ rest) × After rest
NextOf After items (Some (Err Memory)) = (items ≢ []) × After []

-- a stream that gives what is sent
pub record Gives {S : Type 0} (Sends : Option (List Sending) → Type 0) (LeftOf : S → List Sending → Type 0) (stream : S) : Type 0 where
  pub items : List Sending
  pub sent : Sends (Some items)
  pub left : LeftOf stream items

-- what a service answers that sends this: its stream, or InternalError where it sends nothing because no reply can be made
abbrev pub Calls : {S : Type 0} → (Option (List Sending) → Type 0) → (S → List Sending → Type 0) → Result S ServiceError → Type 0
Calls Sends LeftOf (Ok stream) = Gives Sends LeftOf stream
Calls Sends LeftOf (Err InternalError) = Sends None
Calls Sends LeftOf (Err Memory) = Unit {0}

-- the first of the items that are left, which takes no memory
abbrev pub NextItem : List CallResult → Option (Result CallResult ServiceError) → List CallResult → Type 0
NextItem old None new = (old ≡ []) × (new ≡ [])
NextItem old (Some (Ok item)) new = old ≡ item ∷ new
NextItem old (Some (Err e)) new = ⊥

-- ---- what a pull to the end sees

-- the messages up to the first error, and whether there is one
pub record Sent : Type 0 where
  pub messages : List (List ℕ)
  pub fails : Bool

abbrev pub message_in : Option Building → List (List ℕ)
message_in None = []
message_in (Some reply) = reply.octets ∷ []

abbrev pub sent_by : List Sending → Sent
sent_by [] = record { messages = []; fails = false }
sent_by (Failed ∷ more) = record { messages = []; fails = true }
sent_by (Given item ∷ more) = record { messages = message_in item.response ++ (sent_by more).messages; fails = (sent_by more).fails }
