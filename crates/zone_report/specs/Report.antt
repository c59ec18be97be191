-- What the program writes: the answer, the secondary's records, the answers, the readers.
use Rattle.std.specs.Prelude.{ℕ, ◌+◌, List, [], ◌∷◌, ◌++◌, flat_map, codes, decimal, Result, Ok, Err}
use Rattle.dns_name.specs.Names.{Name}
use Rattle.dns_rdata.specs.Records.{Record}
use Rattle.zone_model.specs.Version.{Version}
use Rattle.zone_model.specs.Walk.{walk}
use Rattle.xfr_outcomes.specs.declared.outcome.SyncOk.{SyncOk}
use Rattle.xfr_outcomes.specs.declared.outcome.SyncOk.TheVariants as done
use Rattle.xfr_outcomes.specs.declared.outcome.SyncError.{SyncError}
use Rattle.xfr_outcomes.specs.declared.outcome.SyncError.TheVariants as why
use Rattle.xfr_outcomes.specs.declared.protocol.Error as protocol
use Rattle.xfr_outcomes.specs.declared.protocol.Error.TheVariants as message
use Rattle.xfr_outcomes.specs.declared.protocol.IterationError as iteration
use Rattle.xfr_outcomes.specs.declared.protocol.IterationError.TheVariants as item
use Rattle.xfr_outcomes.specs.declared.update.Error as updates
use Rattle.xfr_outcomes.specs.declared.update.Error.TheVariants as update
use Rattle.tsig_port.specs.declared.errors.ValidationError.{ValidationError}
use Rattle.tsig_port.specs.declared.errors.ValidationError.TheVariants.{FormErr, ServerUnsigned, TooManyUnsigned, ServerBadKey, ServerBadSig, ServerBadTime, BadKey, BadTrunc, BadSig, BadTime, BadAlg, BadOther}
pub use Rattle.zone_report.specs.Lines.{line, stop_lines, query_lines, count_lines, same_line}

abbrev pub signature_words : ValidationError → List (List ℕ)
signature_words FormErr = codes "form-err" ∷ []
signature_words ServerUnsigned = codes "server-unsigned" ∷ []
signature_words TooManyUnsigned = codes "too-many-unsigned" ∷ []
signature_words ServerBadKey = codes "server-bad-key" ∷ []
signature_words ServerBadSig = codes "server-bad-sig" ∷ []
signature_words (ServerBadTime client server) = codes "server-bad-time" ∷ decimal client ∷ decimal server ∷ []
signature_words BadKey = codes "bad-key" ∷ []
signature_words BadTrunc = codes "bad-trunc" ∷ []
signature_words BadSig = codes "bad-sig" ∷ []
signature_words BadTime = codes "bad-time" ∷ []
signature_words BadAlg = codes "bad-alg" ∷ []
signature_words BadOther = codes "bad-other" ∷ []

-- a reply that isn't one of a transfer; the two that never come have their neighbours' words
abbrev pub message_words : protocol.Error → List (List ℕ)
message_words message.NotValidXfrResponse = codes "not-valid" ∷ []
message_words message.Malformed = codes "malformed" ∷ []
message_words message.ParseError = codes "malformed" ∷ []
message_words message.Finished = codes "after-end" ∷ []

-- a record that can't be read where it stands; the last never comes
abbrev pub item_words : iteration.IterationError → List (List ℕ)
item_words item.ParseError = codes "record-unreadable" ∷ []
item_words item.AlreadyFinished = codes "after-end" ∷ []
item_words item.SingleSoaIxfrTcpRetrySignal = codes "retry-signal" ∷ []
item_words item.MissingInitialSoa = codes "not-valid" ∷ []

-- an update that doesn't fit; the last four never come in an answer
abbrev pub update_words : updates.Error → List (List ℕ)
update_words update.IncompatibleUpdate = codes "incompatible" ∷ []
update_words update.OutOfZone = codes "out-of-zone" ∷ []
update_words update.InvalidData = codes "invalid-data" ∷ []
update_words update.NotSoaRecord = codes "malformed" ∷ []
update_words update.Finished = codes "after-end" ∷ []
update_words update.VersionsExhausted = codes "versions-exhausted" ∷ []
update_words update.Memory = []

-- the cause of a refusal; want of memory has no word, since it isn't reported
abbrev pub refusal_words : SyncError → List (List ℕ)
refusal_words why.NoSoa = codes "no-soa" ∷ []
refusal_words (why.Request e) = codes "request-too-long" ∷ []
refusal_words why.LinkFault = codes "link-fault" ∷ []
refusal_words why.Ended = codes "ended" ∷ []
refusal_words (why.Short e) = codes "short" ∷ []
refusal_words (why.Primary e) = codes "primary" ∷ []
refusal_words why.TooManyMessages = codes "too-many-messages" ∷ []
refusal_words (why.Tsig e) = codes "tsig" ∷ signature_words e
refusal_words why.OtherAnswer = codes "other-answer" ∷ []
refusal_words (why.Xfr e) = message_words e
refusal_words (why.Iteration e) = item_words e
refusal_words (why.Update e) = update_words e
refusal_words why.VersionsExhausted = codes "versions-exhausted" ∷ []
refusal_words why.Memory = []

-- the words of an answer, with the number of versions made
abbrev pub answer_words : Result SyncOk SyncError → ℕ → List (List ℕ)
answer_words (Ok done.Updated) n = codes "updated" ∷ decimal n ∷ []
answer_words (Ok done.UpToDate) n = codes "up-to-date" ∷ []
answer_words (Err e) n = codes "refused" ∷ refusal_words e

-- a reader's line: the number it first read, and the one it read after the transfer
pub record ReaderLine : Type 0 where
  pub first : ℕ
  pub last : ℕ

module _ (octets_of : Record → List ℕ) where
  abbrev pub reader_lines : ℕ → List ReaderLine → List ℕ
  reader_lines i [] = []
  reader_lines i (r ∷ more) = line (codes "reader" ∷ decimal i ∷ decimal r.first ∷ decimal r.last ∷ []) ++ reader_lines (i + 1) more

  -- the report of a transfer: answer, versions made, the secondary's last version, queries, readers
  abbrev pub report : Result SyncOk SyncError → ℕ → Version → List (Name × ℕ) → List ReaderLine → List ℕ
  report answer n v queries readers =
      line (answer_words answer n) ++ flat_map (stop_lines octets_of v) (walk v) ++ flat_map (query_lines octets_of v) queries ++ reader_lines 1 readers

-- the report of a transfer whose zone isn't printed: answer, versions made, how much the secondary's last version has, and whether it is what was sent
abbrev pub generated_report : Result SyncOk SyncError → ℕ → Version → Version → List ℕ
generated_report answer n v sent = line (answer_words answer n) ++ count_lines v ++ same_line v sent
