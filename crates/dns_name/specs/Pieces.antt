-- What the reader of names sees at a place.
use Rattle.std.specs.Prelude.{ℕ, ◌+◌, ◌<◌, List, length, IsTrue}
use Rattle.dns_name.specs.Names.{is_label}
use Rattle.dns_name.specs.Compression.{Element}
use Rattle.dns_name.specs.Compression.Element.{Root as RootElement, Label as LabelElement, Pointer as PointerElement}
use Rattle.dns_name.specs.declared.parsed.Piece.{Piece}
use Rattle.dns_name.specs.declared.parsed.Piece.TheVariants.{Root, Label, Pointer}

-- the element of the grammar that was seen
abbrev pub element_of : Piece → Element
element_of Root = RootElement
element_of (Label label) = LabelElement label.now
element_of (Pointer offset) = PointerElement offset

-- the piece ends within the message, and its label is one
abbrev pub IsWithin : List ℕ → ℕ → Piece → Type 0
IsWithin message p Root = p < length message
IsWithin message p (Label label) = (p + length label.now < length message) × IsTrue (is_label label.now)
IsWithin message p (Pointer offset) = (p + 1 < length message) × (offset < p)
