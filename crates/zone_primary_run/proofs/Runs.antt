-- A primary's run, by what its parts answer.
use Rattle.std.proofs.Common.{◌≡◌, ℕ, ◌<◌, ◌≤◌, List, length, refl, sym, ap, ◌∙◌, subst, arith, inl, inr, Option, Some, None, IfSome, Result, Ok, Err}
use Rattle.xfr_services.specs.Items.{Sending}
use Rattle.zone_devices.specs.declared.read_to_end.ReadError.{ReadError}
use Rattle.zone_devices.specs.declared.read_to_end.ReadError.TheVariants as read
use Rattle.zone_serving.specs.StreamServing.{ServesStream}
use Rattle.zone_serving.specs.declared.errors.ServeError.{ServeError}
use Rattle.zone_serving.specs.declared.errors.ServeError.TheVariants as stream
use Rattle.zone_serving.specs.declared.serving.Served.{Served}
use Rattle.zone_primary_run.specs.PrimaryStatuses.{of_read, of_serve}
use Rattle.zone_primary_run.specs.ScriptPrimaries.{PrimaryParts}
use Rattle.zone_primary_run.specs.PrimaryRuns.{Stream, stream_of, SpellsPrimary, MakesPrimary, ServesScript, RunsText, ReadsScript, RunsPrimary, IsRefusedAsLong}
use Rattle.zone_primary_run.specs.declared.errors.PrimaryError.{PrimaryError}
use Rattle.zone_primary_run.specs.declared.errors.PrimaryError.TheVariants as why

serves_script : (SendsOf : PrimaryParts → List ℕ → Option (List Sending) → Type 0) (text : List ℕ) (p : PrimaryParts) (s : Stream) (answer : Result Served ServeError)
    → SpellsPrimary text p → ServesStream (SendsOf p) s.src_old s.src_new s.sink_old s.sink_new answer → ServesScript SendsOf text s answer
serves_script SendsOf text p s answer spelt k = record { primary = p; spelt = spelt; serves = k }

-- the primary serves, and not to the end
pub not_served : (SendsOf : PrimaryParts → List ℕ → Option (List Sending) → Type 0) (text : List ℕ) (p : PrimaryParts) (s : Stream) (e : ServeError)
    → SpellsPrimary text p → ServesStream (SendsOf p) s.src_old s.src_new s.sink_old s.sink_new (Err e) → RunsText SendsOf text s (Err (of_serve e))
not_served SendsOf text p s stream.Memory spelt k = inr (serves_script SendsOf text p s (Err stream.Memory) spelt k)
not_served SendsOf text p s stream.Cut spelt k = (serves_script SendsOf text p s (Err stream.Cut) spelt k, λ h. cc)
not_served SendsOf text p s stream.SourceFault spelt k = (serves_script SendsOf text p s (Err stream.SourceFault) spelt k, λ h. cc)
not_served SendsOf text p s stream.SinkFault spelt k = (serves_script SendsOf text p s (Err stream.SinkFault) spelt k, λ h. cc)
not_served SendsOf text p s stream.Short spelt k = (serves_script SendsOf text p s (Err stream.Short) spelt k, λ h. cc)
not_served SendsOf text p s stream.NoReply spelt k = (serves_script SendsOf text p s (Err stream.NoReply) spelt k, λ h. cc)
not_served SendsOf text p s stream.TooMany spelt k = (serves_script SendsOf text p s (Err stream.TooMany) spelt k, λ h. cc)

-- .. and to the end
pub served : (SendsOf : PrimaryParts → List ℕ → Option (List Sending) → Type 0) (text : List ℕ) (p : PrimaryParts) (s : Stream) (done : Served)
    → SpellsPrimary text p → ServesStream (SendsOf p) s.src_old s.src_new s.sink_old s.sink_new (Ok done) → RunsText SendsOf text s (Ok done)
served SendsOf text p s done spelt k = serves_script SendsOf text p s (Ok done) spelt k

-- there is no primary of the text, and nothing happens
pub not_made : (SendsOf : PrimaryParts → List ℕ → Option (List Sending) → Type 0) (text : List ℕ) (left taken : Option (List ℕ)) (e : PrimaryError)
    → MakesPrimary text (Err e) → RunsText SendsOf text (stream_of left left taken taken) (Err e)
not_made SendsOf text left taken (why.Line n) m = (m, (refl, refl))
not_made SendsOf text left taken why.Memory m = inl (refl, refl)
not_made SendsOf text left taken (why.Stream e) m = absurd m
not_made SendsOf text left taken why.ScriptFault m = absurd m
not_made SendsOf text left taken why.ScriptTooLong m = absurd m
not_made SendsOf text left taken why.Words m = absurd m
not_made SendsOf text left taken why.NotOpened m = absurd m
not_made SendsOf text left taken why.Clock m = absurd m

-- that the sink failed is told of no other cause
pub sink_told : (e : ServeError) (r : Result Served PrimaryError) → r ≡ Err (of_serve e) → r ≡ Err (why.Stream stream.SinkFault) → e ≡ stream.SinkFault
sink_told stream.SinkFault r is h = refl
sink_told stream.Memory r is h = absurd (cc (sym is ∙ h))
sink_told stream.Cut r is h = absurd (cc (sym is ∙ h))
sink_told stream.SourceFault r is h = absurd (cc (sym is ∙ h))
sink_told stream.Short r is h = absurd (cc (sym is ∙ h))
sink_told stream.NoReply r is h = absurd (cc (sym is ∙ h))
sink_told stream.TooMany r is h = absurd (cc (sym is ∙ h))

reads_script : (Runs : List ℕ → Type 0) (script : Option (List ℕ)) (text : List ℕ) → IfSome script (λ octets. text ≡ octets) → length text ≤ 16777216 → Runs text → ReadsScript Runs script
reads_script Runs None text told fits r = record { text = text; told = tt; fits = fits; runs = r }
reads_script Runs (Some octets) text told fits r = record { text = text; told = sym told; fits = fits; runs = r }

is_read : (SendsOf : PrimaryParts → List ℕ → Option (List Sending) → Type 0) (script : Option (List ℕ)) (text : List ℕ) (s : Stream) (answer : Result Served PrimaryError)
    → IfSome script (λ octets. text ≡ octets) → length text ≤ 16777216 → RunsText SendsOf text s answer → RunsPrimary SendsOf script s answer
is_read SendsOf script text s (Ok done) told fits r = reads_script (λ t. RunsText SendsOf t s (Ok done)) script text told fits r
is_read SendsOf script text s (Err (why.Stream e)) told fits r = reads_script (λ t. RunsText SendsOf t s (Err (why.Stream e))) script text told fits r
is_read SendsOf script text s (Err (why.Line n)) told fits r = reads_script (λ t. RunsText SendsOf t s (Err (why.Line n))) script text told fits r
is_read SendsOf script text s (Err why.Memory) told fits r = inr (reads_script (λ t. RunsText SendsOf t s (Err why.Memory)) script text told fits r)
is_read SendsOf script text s (Err why.ScriptFault) told fits r = absurd r
is_read SendsOf script text s (Err why.ScriptTooLong) told fits r = absurd r
is_read SendsOf script text s (Err why.Words) told fits r = absurd r
is_read SendsOf script text s (Err why.NotOpened) told fits r = absurd r
is_read SendsOf script text s (Err why.Clock) told fits r = absurd r

-- the script is read, and its text is served
pub is_read_as : (SendsOf : PrimaryParts → List ℕ → Option (List Sending) → Type 0) (script : Option (List ℕ)) (items text : List ℕ) (s : Stream) (answer : Result Served PrimaryError)
    → IfSome script (λ octets. items ≡ octets) → length items ≤ 16777216 → text ≡ items → RunsText SendsOf text s answer → RunsPrimary SendsOf script s answer
is_read_as SendsOf script items text s answer told fits same r = is_read SendsOf script items s answer told fits (subst (λ t. RunsText SendsOf t s answer) same r)

-- a script that is too long isn't read
pub not_read : (script : Option (List ℕ)) (items text : List ℕ) → script ≡ Some text → IfSome script (λ octets. items ≡ octets) → length items ≤ 16777216 → 16777216 < length text → ⊥
not_read script items text had told fits long =
    let same : items ≡ text = subst (λ (left : Option (List ℕ)). IfSome left (λ octets. items ≡ octets)) had told in
    let lengths = ap length same in
    omega arith

-- .. and what comes of that
pub refused_as_long : (e : ReadError) → IsRefusedAsLong (Err (of_read e))
refused_as_long read.TooLong = inl refl
refused_as_long read.Failed = inr (inl refl)
refused_as_long read.Memory = inr (inr refl)
