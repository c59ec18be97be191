-- Which items a stream of a transfer's replies still gives.
use Rattle.std.specs.Prelude.{◌≡◌, ℕ, ◌+◌, ◌*◌, ◌<◌, Bool, List, [], ◌∷◌, ◌++◌, length, Option, Some, None, IsSome, Result, Ok, Err, if◌then◌else◌}
use Rattle.dns_rdata.specs.Records.{Record}
use Rattle.dns_wire.specs.Wire.{Building}
use Rattle.xfr_batch.specs.Batches.{Batching, IsBegun}
use Rattle.xfr_batch.specs.BatchSteps.{MemoryHides}
use Rattle.xfr_batch.specs.ReadyMessages.{Kept}
use Rattle.xfr_batch.specs.XfrBatches.{transfer_begins, transfer_is_full}
use Rattle.xfr_services.specs.Items.{Sending, reply_item, feedback_item}
use Rattle.xfr_services.specs.Items.Sending.{Given, Failed}
use Rattle.xfr_services.specs.declared.services.CallResult.{CallResult}
use Rattle.xfr_services.specs.declared.services.ServiceError.{ServiceError}
use Rattle.xfr_services.specs.declared.services.ServiceError.TheVariants.{InternalError, Memory}
use Rattle.xfr_services.specs.declared.services.ServiceFeedback.TheVariants.{BeginTransaction, EndTransaction}
use Rattle.xfr_replies.specs.PagedReplies.{SendsRest, TransferSends, servfail_sent}
use Rattle.xfr_replies.specs.declared.transfer_replies.Stage.{Stage}
use Rattle.xfr_replies.specs.declared.transfer_replies.Stage.TheVariants.{Begin, Records, Ended}
use Rattle.xfr_replies.specs.declared.transfer_replies.Pulled.{Pulled}
use Rattle.xfr_replies.specs.declared.transfer_replies.Pulled.TheVariants.{Page, TooLong, Nothing, NoMemory}
use Rattle.xfr_replies.specs.declared.transfer_replies.TransferReplies.{TransferReplies}

-- a batcher that has begun a message with the first records that are still to be sent, and the text behind them: these items are left
pub record Continues (b : Batching Kept) (text : List Record) (items : List Sending) : Type 0 where
  pub begun : List Record
  pub limit : ℕ
  pub singles : Bool
  pub soft : b.state.soft_byte_limit ≡ Some limit
  pub hard : b.state.hard_rr_limit ≡ (if singles then Some 1 else None)
  pub message : IsBegun (transfer_begins b.state b.request) (transfer_is_full b.state) begun b.answer
  pub sends : SendsRest b.request limit singles (begun ++ text) items

-- .. by what is given next
abbrev pub StageLeft : Stage → Batching Kept → List Record → List Sending → Type 0
StageLeft Begin b text items = (rest : List Sending) × (items ≡ Given (feedback_item BeginTransaction) ∷ rest) × Continues b text rest
StageLeft Records b text items = Continues b text items
StageLeft Ended b text items = items ≡ []

abbrev pub PulledLeft : TransferReplies → List Sending → Type 0
PulledLeft s items = StageLeft s.stage s.batcher s.text.records items

-- ---- how many

-- a message that is begun counts one, each record two: a message may end before it, and with it
abbrev pub begun_left : Option Building → ℕ
begun_left None = 0
begun_left (Some m) = 1

abbrev pub messages_left : Batching Kept → List Record → ℕ
messages_left b text = length text * 2 + begun_left b.answer

abbrev pub stage_left : Stage → ℕ → ℕ
stage_left Begin n = n + 2
stage_left Records n = n + 1
stage_left Ended n = 0

abbrev pub pulled_left : TransferReplies → ℕ
pulled_left s = stage_left s.stage (messages_left s.batcher s.text.records)

-- ---- what is pulled

-- memory lacks for a record that is left, and the same items are left: so no message that is full is lost, nor the end, which takes no memory
pub record LacksMemory (b : Batching Kept) (text : List Record) (items : List Sending) : Type 0 where
  pub next : Record
  pub behind : List Record
  pub text_is : text ≡ next ∷ behind
  pub left : Continues b (next ∷ behind) items
  pub hides : MemoryHides (transfer_begins b.state b.request) next left.begun

-- One case for each outcome: a message, after which these items are left; SERVFAIL or the end, which is the last; or memory lacks.
abbrev pub Pulls : List Sending → Pulled → Batching Kept → List Record → Type 0
Pulls items (Page m) b text = (rest : List Sending) × (items ≡ Given (reply_item m) ∷ rest) × Continues b text rest
Pulls items TooLong b text = items ≡ servfail_sent b.request ∷ []
Pulls items Nothing b text = items ≡ Given (feedback_item EndTransaction) ∷ []
Pulls items NoMemory b text = LacksMemory b text items

-- where a message was pulled, fewer can be
abbrev pub PullsFewer : ℕ → Pulled → ℕ → Type 0
PullsFewer before (Page m) after = after < before
PullsFewer before TooLong after = Unit {0}
PullsFewer before Nothing after = Unit {0}
PullsFewer before NoMemory after = Unit {0}

-- whether the next item needs memory, as a reply does; feedback alone needs none, and where no reply can be made that is told without
abbrev pub NeedsMemory : List Sending → Type 0
NeedsMemory [] = ⊥
NeedsMemory (Failed ∷ rest) = ⊥
NeedsMemory (Given item ∷ rest) = IsSome item.response

-- this holds where want of memory is told
abbrev pub OnNoMemory : Option (Result CallResult ServiceError) → Type 0 → Type 0
OnNoMemory None P = Unit {0}
OnNoMemory (Some (Ok item)) P = Unit {0}
OnNoMemory (Some (Err InternalError)) P = Unit {0}
OnNoMemory (Some (Err Memory)) P = P

-- what is sent in answer to a request, where it is a transfer's text
abbrev pub SendsText : List ℕ → ℕ → Bool → List Record → Option (List Sending) → Type 0
SendsText request limit singles text sent = (items : List Sending) × (sent ≡ Some items) × TransferSends request limit singles text items
