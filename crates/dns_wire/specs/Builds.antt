-- What adding to a message under construction, or taking back from it, leaves, and what is refused.
use Rattle.std.specs.Prelude.{◌≡◌, ◌≢◌, ℕ, ◌+◌, ◌<◌, ◌≤◌, ◌==◌, nat_le, min, Bool, true, false, List, [], ◌∷◌, length, take, Option, Some, None, Result, Ok, Err}
use Rattle.dns_rdata.specs.Records.{Record, record_wire}
use Rattle.dns_wire.specs.Wire.{Building, Question, with_item, with_question, header_number, fits}
use Rattle.dns_wire.specs.Numbers.{with_number}
use Rattle.dns_wire.specs.Reply.{fitting}
use Rattle.dns_wire.specs.declared.builder.PushError.{PushError}
use Rattle.dns_wire.specs.declared.builder.PushError.TheVariants.{ShortBuf, CountOverflow, Memory}

-- a message of these octets, and how many it may have
abbrev pub building : List ℕ → ℕ → Building
building octets limit = record { octets = octets; limit = limit }

-- the octets with the item at the end, counted at place k of the header
abbrev pub pushed : ℕ → Building → List ℕ → Building
pushed k old item = record old { octets = with_item k old.octets item }

-- One case for each answer: added where it fits and the count has room; ShortBuf where it doesn't fit; CountOverflow where it
-- fits and the count is full; Memory only where it could be added. So but for want of memory the answer is determined, and want
-- of room is never told as want of memory. Where nothing was added, nothing has changed.
abbrev pub Adds : {A : Type 0} → ℕ → List ℕ → Building → Result A PushError → Building → Type 0
Adds k item old (Ok a) new = (fits old.limit (with_item k old.octets item) ≡ true) × (header_number k old.octets ≢ 65535) × (new ≡ pushed k old item)
Adds k item old (Err ShortBuf) new = (fits old.limit (with_item k old.octets item) ≡ false) × (new ≡ old)
Adds k item old (Err CountOverflow) new = (fits old.limit (with_item k old.octets item) ≡ true) × (header_number k old.octets ≡ 65535) × (new ≡ old)
Adds k item old (Err Memory) new = (fits old.limit (with_item k old.octets item) ≡ true) × (header_number k old.octets ≢ 65535) × (new ≡ old)

-- One case for each answer to whether an item of so many octets can be added, counted at place k: the count so far, or why it can't.
abbrev pub HasRoom : ℕ → ℕ → Building → Result ℕ PushError → Type 0
HasRoom k len old (Ok count) = (nat_le (length old.octets + len) (min old.limit 65535) ≡ true) × (count ≡ header_number k old.octets) × (count ≢ 65535)
HasRoom k len old (Err ShortBuf) = nat_le (length old.octets + len) (min old.limit 65535) ≡ false
HasRoom k len old (Err CountOverflow) = (nat_le (length old.octets + len) (min old.limit 65535) ≡ true) × (header_number k old.octets ≡ 65535)
HasRoom k len old (Err Memory) = ⊥

-- the same of a record
abbrev pub Pushes : ℕ → Record → Building → Result (Unit {0}) PushError → Building → Type 0
Pushes k r old result new = Adds k (record_wire r) old result new

-- One case for each answer of a call that builds a whole message: these octets, where they fit; ShortBuf where they don't; Memory only
-- where they would.
abbrev pub Builds : List ℕ → ℕ → Result Building PushError → Type 0
Builds octets limit (Ok new) = (fits limit octets ≡ true) × (new ≡ record { octets = octets; limit = limit })
Builds octets limit (Err ShortBuf) = fits limit octets ≡ false
Builds octets limit (Err CountOverflow) = ⊥
Builds octets limit (Err Memory) = fits limit octets ≡ true

-- The same of a call that builds it piece by piece behind a front, where want of memory may hide that what is behind has no room: it is told
-- only where the front has.
abbrev pub BuildsBehind : List ℕ → List ℕ → ℕ → Result Building PushError → Type 0
BuildsBehind front octets limit (Ok new) = (fits limit octets ≡ true) × (new ≡ record { octets = octets; limit = limit })
BuildsBehind front octets limit (Err ShortBuf) = fits limit octets ≡ false
BuildsBehind front octets limit (Err CountOverflow) = ⊥
BuildsBehind front octets limit (Err Memory) = fits limit front ≡ true

-- the message with these questions at its end, one after another
abbrev pub with_questions : List ℕ → List Question → List ℕ
with_questions message [] = message
with_questions message (q ∷ questions) = with_questions (with_question message q) questions

-- One case for each answer of a call that adds several questions: all added where all fit and can be counted; else a PushError, Memory
-- only where all could have been added.
abbrev pub AddsQuestions : {A : Type 0} → List Question → Building → Result A PushError → Building → Type 0
AddsQuestions questions old (Ok a) new = (fits old.limit (with_questions old.octets questions) ≡ true) × (new ≡ record old { octets = with_questions old.octets questions })
AddsQuestions questions old (Err ShortBuf) new = fits old.limit (with_questions old.octets questions) ≡ false
AddsQuestions questions old (Err CountOverflow) new = 65535 < header_number 4 old.octets + length questions
AddsQuestions questions old (Err Memory) new = (fits old.limit (with_questions old.octets questions) ≡ true) × (header_number 4 old.octets + length questions ≤ 65535)

-- One case for each answer of a call that adds questions up to the first without room: those that fit, and whether that is all of them;
-- CountOverflow only where all can't be counted, Memory only where they can. Want of room is no error.
abbrev pub AddsFitting : List Question → Building → Result Bool PushError → Building → Type 0
AddsFitting questions old (Ok all) new = (new ≡ record old { octets = with_questions old.octets (fitting old.limit old.octets questions) })
    × (all ≡ (length (fitting old.limit old.octets questions) == length questions))
AddsFitting questions old (Err ShortBuf) new = ⊥
AddsFitting questions old (Err CountOverflow) new = 65535 < header_number 4 old.octets + length questions
AddsFitting questions old (Err Memory) new = header_number 4 old.octets + length questions ≤ 65535

-- the message without what stands from a place on, the count at place k of its header 0
abbrev pub cut_at : ℕ → ℕ → Building → Building
cut_at k start old = record old { octets = with_number k (take start old.octets) 0 }

-- the message without a section that begins there, counted at place k; unchanged where items before it can't be read (RFC 1035, 4.1)
abbrev pub rewound : ℕ → Option ℕ → Building → Building
rewound k None old = old
rewound k (Some start) old = cut_at k start old
