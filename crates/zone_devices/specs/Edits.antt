-- Edits of the replies that a link in memory took, and what it then hands on. Replies and octets are numbered from 0; an edit that names one that isn't there changes nothing.
use Rattle.std.specs.Prelude.{ℕ, ◌+◌, ◌-◌, ◌%◌, ◌==◌, if◌then◌else◌, List, [], ◌∷◌, ◌++◌, map, take, drop, slice_set, slice_index_or}
use Rattle.std.specs.Global.{Vec}
use Rattle.zone_devices.specs.declared.reply_edits.ReplyEdit.{ReplyEdit}
use Rattle.zone_devices.specs.declared.reply_edits.ReplyEdit.TheVariants.{Flip, Cut, Drop, Repeat, Swap, Replace}

abbrev pub octets_of : List (Vec ℕ) → List (List ℕ)
octets_of ms = map (λ m. m.items) ms

-- an octet whose lowest bit is flipped, and a message with its octet of a place so
abbrev pub flipped : ℕ → ℕ
flipped n = if n % 2 == 0 then n + 1 else n - 1

abbrev pub flipped_at : ℕ → List ℕ → List ℕ
flipped_at place m = slice_set m place (flipped (slice_index_or m place 0))

-- the replies with that of a place changed
abbrev pub changed_at : ℕ → (List ℕ → List ℕ) → List (List ℕ) → List (List ℕ)
changed_at place change ms = slice_set ms place (change (slice_index_or ms place []))

-- .. and with two of them exchanged; a place that isn't there counts as the other
abbrev pub swapped_at : ℕ → ℕ → List (List ℕ) → List (List ℕ)
swapped_at i j ms = slice_set (slice_set ms i (slice_index_or ms j (slice_index_or ms i []))) j (slice_index_or ms i (slice_index_or ms j []))

abbrev pub edited_by : ReplyEdit → List (List ℕ) → List (List ℕ)
edited_by (Flip reply octet) ms = changed_at reply (flipped_at octet) ms
edited_by (Cut reply len) ms = changed_at reply (take len) ms
edited_by (Drop reply) ms = take reply ms ++ drop (reply + 1) ms
edited_by (Repeat reply) ms = take (reply + 1) ms ++ drop reply ms
edited_by (Swap first second) ms = swapped_at first second ms
edited_by (Replace list) ms = octets_of list.items

-- all edits, in order
abbrev pub edited : List ReplyEdit → List (List ℕ) → List (List ℕ)
edited [] ms = ms
edited (e ∷ es) ms = edited es (edited_by e ms)

-- edits that are still to be made, once the first reply is asked for, and the replies that wait to be handed on
pub record Editing : Type 0 where
  pub edits : List ReplyEdit
  pub waiting : List (List ℕ)

abbrev pub to_edit : List ReplyEdit → Editing
to_edit edits = record { edits = edits; waiting = [] }

-- one reply more waits
abbrev pub with_waiting : List ℕ → Editing → Editing
with_waiting m e = record { edits = e.edits; waiting = e.waiting ++ m ∷ [] }
