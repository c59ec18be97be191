-- What a text's data are, and what is refused.
use Rattle.std.specs.Prelude.{◌≡◌, ℕ, ◌<◌, ◌≤◌, List, length, Result, Ok, Err}
use Rattle.dns_name.specs.Records.{text_strings}
use Rattle.dns_rdata.specs.declared.text.TxtAppendError.{TxtAppendError}
use Rattle.dns_rdata.specs.declared.text.TxtAppendError.TheVariants.{LongRecordData, Memory}

-- One case for each answer of a call that makes TXT data of a text: the text in character strings, where they fit RDLENGTH; LongRecordData
-- exactly where they don't.
abbrev pub BuildsText : List ℕ → Result (List ℕ) TxtAppendError → Type 0
BuildsText text (Ok octets) = (octets ≡ text_strings text) × (length octets < 65536)
BuildsText text (Err LongRecordData) = 65536 ≤ length (text_strings text)
BuildsText text (Err Memory) = length (text_strings text) < 65536
