-- Requests in a stream of frames, and the frames of the replies to each (RFC 1035, 4.2.2; RFC 7766, 6.2.1).
use Rattle.std.specs.Prelude.{◌≡◌, ℕ, ◌<◌, ◌≤◌, ◌-◌, ◌^◌, ◌⊎◌, Bool, true, false, List, [], ◌∷◌, ◌++◌, map, flat_map, length, take, Option, Some, None, option_map, IfSome, Result, Ok, Err}
use Rattle.std.specs.List.{AllByRecursion}
use Rattle.zone_devices.specs.Streams.{emptied, with_more}
use Rattle.message_frames.specs.Frames.{Cut, cut_frames, frame_of, frames_of}
use Rattle.message_frames.specs.Passing.{Gives, IsCutOff, TakesWithinFrame}
use Rattle.xfr_services.specs.Items.{Sending, sent_by}
use Rattle.xfr_services.specs.declared.requests.Request.{Request}
use Rattle.xfr_services.specs.declared.requests.TransportSpecificContext.TheVariants.{NonUdp}
use Rattle.zone_serving.specs.declared.errors.ServeError.{ServeError}
use Rattle.zone_serving.specs.declared.errors.ServeError.TheVariants as why
use Rattle.zone_serving.specs.declared.serving.Served.{Served}

-- a request as a service is asked it: it came by a stream, and nothing is known of it
abbrev pub request_at : List ℕ → ℕ → Request (Unit {0})
request_at message at = record { message = message; transport = NonUdp; at = at; metadata = tt; reserved = 0 }

-- ---- what a service sends to one request

-- just these messages, and whether it fails behind them
pub record SendsJust (Sends : Option (List Sending) → Type 0) (fails : Bool) (messages : List (List ℕ)) : Type 0 where
  pub items : List Sending
  pub sends : Sends (Some items)
  pub just : sent_by items ≡ record { messages = messages; fails = fails }

-- these messages first
pub record SendsFirst (Sends : Option (List Sending) → Type 0) (messages : List (List ℕ)) : Type 0 where
  pub items : List Sending
  pub sends : Sends (Some items)
  pub rest : List (List ℕ)
  pub first : (sent_by items).messages ≡ messages ++ rest

-- a sink took the frames of messages of which this holds
pub record TakesFrames (Are : List (List ℕ) → Type 0) (old new : Option (List ℕ)) : Type 0 where
  pub messages : List (List ℕ)
  pub are : Are messages
  pub took : new ≡ with_more (frames_of messages) old

-- .. all but a part of the last frame
pub record TakesPart (Are : List (List ℕ) → Type 0) (old new : Option (List ℕ)) : Type 0 where
  pub messages : List (List ℕ)
  pub next : List ℕ
  pub are : Are (messages ++ next ∷ [])
  pub count : ℕ
  pub took : new ≡ with_more (frames_of messages ++ take count (frame_of next)) old

-- One case for each answer of a call that writes what a service sends: all of it; else what comes in front of the cause.
abbrev pub AnswersBy : (Option (List Sending) → Type 0) → Option (List ℕ) → Option (List ℕ) → Result (Unit {0}) ServeError → Type 0
AnswersBy Sends old new (Ok u) = TakesFrames (SendsJust Sends false) old new
AnswersBy Sends old new (Err why.NoReply) = (Sends None × (new ≡ old)) ⊎ TakesFrames (SendsJust Sends true) old new
AnswersBy Sends old new (Err why.SinkFault) = TakesPart (SendsFirst Sends) old new
AnswersBy Sends old new (Err why.Memory) = (new ≡ old) ⊎ TakesFrames (SendsFirst Sends) old new
AnswersBy Sends old new (Err why.Short) = ⊥
AnswersBy Sends old new (Err why.Cut) = ⊥
AnswersBy Sends old new (Err why.SourceFault) = ⊥
AnswersBy Sends old new (Err why.TooMany) = ⊥

-- .. to a request, which is asked of the service where it has a header
abbrev pub RepliesBy : (Option (List Sending) → Type 0) → List ℕ → Option (List ℕ) → Option (List ℕ) → Result (Unit {0}) ServeError → Type 0
RepliesBy Sends request old new (Err why.Short) = (length request < 12) × (new ≡ old)
RepliesBy Sends request old new answer = (12 ≤ length request) × AnswersBy Sends old new answer

-- ---- the next request

-- the next message was read of a source, and this holds of it
pub record Reads (Holds : List ℕ → Type 0) (old new : Option (List ℕ)) : Type 0 where
  pub request : List ℕ
  pub gives : Gives request old new
  pub holds : Holds request

-- Why no further request was answered whole: the source had no whole frame and its end was read; or a first part of one was read, and nothing
-- written; or one was read, and so far answered.
abbrev pub BreaksOff : (List ℕ → Option (List Sending) → Type 0) → Option (List ℕ) → Option (List ℕ) → Option (List ℕ) → Option (List ℕ) → ServeError → Type 0
BreaksOff Sends src_old src_new sink_old sink_new why.Cut = IfSome src_old IsCutOff × (src_new ≡ emptied src_old) × (sink_new ≡ sink_old)
BreaksOff Sends src_old src_new sink_old sink_new why.SourceFault = TakesWithinFrame src_old src_new × (sink_new ≡ sink_old)
BreaksOff Sends src_old src_new sink_old sink_new why.Memory = (TakesWithinFrame src_old src_new × (sink_new ≡ sink_old))
    ⊎ Reads (λ m. RepliesBy (Sends m) m sink_old sink_new (Err why.Memory)) src_old src_new
BreaksOff Sends src_old src_new sink_old sink_new why.TooMany = ⊥
BreaksOff Sends src_old src_new sink_old sink_new e = Reads (λ m. RepliesBy (Sends m) m sink_old sink_new (Err e)) src_old src_new

-- the source was at its end, and nothing happened
pub record IsOver (src_old src_new sink_old sink_new : Option (List ℕ)) : Type 0 where
  pub ended : IfSome src_old (λ left. left ≡ [])
  pub unread : src_new ≡ src_old
  pub unwritten : sink_new ≡ sink_old

-- One case for each answer of a call that serves the next request: it was answered whole; or there was none; else why it broke off.
abbrev pub StepsBy : (List ℕ → Option (List Sending) → Type 0) → Option (List ℕ) → Option (List ℕ) → Option (List ℕ) → Option (List ℕ) → Result Bool ServeError → Type 0
StepsBy Sends src_old src_new sink_old sink_new (Ok true) = Reads (λ m. RepliesBy (Sends m) m sink_old sink_new (Ok tt)) src_old src_new
StepsBy Sends src_old src_new sink_old sink_new (Ok false) = IsOver src_old src_new sink_old sink_new
StepsBy Sends src_old src_new sink_old sink_new (Err e) = BreaksOff Sends src_old src_new sink_old sink_new e

-- ---- a stream

-- a request that was answered whole, and the replies to it
pub record Answered : Type 0 where
  pub request : List ℕ
  pub replies : List (List ℕ)

abbrev pub requests_of : List Answered → List (List ℕ)
requests_of served = map (λ (x : Answered). x.request) served

abbrev pub replies_of : List Answered → List (List ℕ)
replies_of served = flat_map (λ (x : Answered). x.replies) served

-- the request has a header, and the replies are what the service sends to it
abbrev pub IsAnswered : (List ℕ → Option (List Sending) → Type 0) → Answered → Type 0
IsAnswered Sends x = (12 ≤ length x.request) × SendsJust (Sends x.request) false x.replies

-- messages were read of a source one after another, each with its frame, and nothing behind the last
abbrev pub GivesAll : List (List ℕ) → Option (List ℕ) → Option (List ℕ) → Type 0
GivesAll [] before after = after ≡ before
GivesAll (m ∷ more) before after = (mid : Option (List ℕ)) × Gives m before mid × GivesAll more mid after

-- octets that were cut, with further messages before
abbrev pub with_messages : List (List ℕ) → Cut → Cut
with_messages messages cut = record { messages = messages ++ cut.messages; left = cut.left }

-- Requests that were read and answered whole, one after another: they are the first messages into which the source's octets are cut, nothing behind
-- their frames was read, and the sink took just the frames of the replies to them.
pub record ServedSoFar (Sends : List ℕ → Option (List Sending) → Type 0) (served : List Answered) (src_old src_new sink_old sink_new : Option (List ℕ)) : Type 0 where
  pub read : GivesAll (requests_of served) src_old src_new
  pub cut : option_map cut_frames src_old ≡ option_map (λ rest. with_messages (requests_of served) (cut_frames rest)) src_new
  pub answered : AllByRecursion (IsAnswered Sends) served
  pub took : sink_new ≡ with_more (frames_of (replies_of served)) sink_old

-- how a stream ends behind so many requests that were answered whole
abbrev pub EndsBy : (List ℕ → Option (List Sending) → Type 0) → ℕ → Option (List ℕ) → Option (List ℕ) → Option (List ℕ) → Option (List ℕ) → Result Served ServeError → Type 0
EndsBy Sends count src_old src_new sink_old sink_new (Ok s) = (s.requests ≡ count) × IsOver src_old src_new sink_old sink_new
EndsBy Sends count src_old src_new sink_old sink_new (Err why.TooMany) = (count ≡ 2 ^ 64 - 1) × (src_new ≡ src_old) × (sink_new ≡ sink_old)
EndsBy Sends count src_old src_new sink_old sink_new (Err e) = BreaksOff Sends src_old src_new sink_old sink_new e

-- A stream that was served: the requests that were answered whole, what the source still had and the sink had taken behind them, and how it ended.
pub record ServesStream (Sends : List ℕ → Option (List Sending) → Type 0) (src_old src_new sink_old sink_new : Option (List ℕ)) (answer : Result Served ServeError) : Type 0 where
  pub served : List Answered
  pub source : Option (List ℕ)
  pub sink : Option (List ℕ)
  pub so_far : ServedSoFar Sends served src_old source sink_old sink
  pub ends : EndsBy Sends (length served) source src_new sink sink_new answer

-- .. and so far, behind so many requests
pub record ServedCount (Sends : List ℕ → Option (List Sending) → Type 0) (count : ℕ) (src_old src_new sink_old sink_new : Option (List ℕ)) : Type 0 where
  pub served : List Answered
  pub counted : length served ≡ count
  pub so_far : ServedSoFar Sends served src_old src_new sink_old sink_new

-- replies that were written so far, and the items that are left
pub record WrittenSoFar (items : List Sending) (Left : List Sending → Type 0) (old new : Option (List ℕ)) : Type 0 where
  pub sent : List (List ℕ)
  pub rest : List Sending
  pub left : Left rest
  pub took : new ≡ with_more (frames_of sent) old
  pub joined : sent_by items ≡ record { messages = sent ++ (sent_by rest).messages; fails = (sent_by rest).fails }
