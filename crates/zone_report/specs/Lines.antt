-- The lines in which a version is printed: its records, and what it answers.
use Rattle.std.specs.Prelude.{ℕ, Bool, if◌then◌else◌, List, [], ◌∷◌, ◌++◌, length, flat_map, codes, decimal}
use Rattle.hex.specs.Hex.{encode_lower}
use Rattle.dns_name.specs.Names.{Name, under}
use Rattle.dns_rdata.specs.Records.{Record, Field, record_wire}
use Rattle.zone_model.specs.Version.{Version, same_version}
use Rattle.zone_model.specs.Answer.{Answer, answer, answer_section, authority_section, glue_section, rcode_of, is_authoritative, records_of}
use Rattle.zone_model.specs.Walk.{Stop, walk, records_of_version}
use Rattle.zone_values.specs.TypedSets.{TypedSet}

-- words of one line, with a space between each two
abbrev pub joined_words : List (List ℕ) → List ℕ
joined_words [] = []
joined_words (w ∷ []) = w
joined_words (w ∷ x ∷ more) = w ++ 32 ∷ joined_words (x ∷ more)

abbrev pub line : List (List ℕ) → List ℕ
line words = joined_words words ++ 10 ∷ []

module _ (octets_of : Record → List ℕ) where
  abbrev pub record_line : List (List ℕ) → Record → List ℕ
  record_line words r = line (words ++ encode_lower (octets_of r) ∷ [])

  abbrev pub flag_word : Bool → List ℕ
  flag_word b = if b then codes "1" else codes "0"

  abbrev pub stop_lines : Version → Stop → List ℕ
  stop_lines v s = flat_map (record_line (codes "rr" ∷ flag_word s.below_cut ∷ [])) (records_of s.owner s.rtype v.class s.contents)

  abbrev pub answer_lines : Version → Name → Answer → List ℕ
  answer_lines v q a =
      line (codes "answer" ∷ decimal (rcode_of a) ∷ flag_word (is_authoritative a) ∷ [])
      ++ flat_map (record_line (codes "an" ∷ [])) (answer_section v q a)
      ++ flat_map (record_line (codes "au" ∷ [])) (authority_section v a)
      ++ flat_map (record_line (codes "ad" ∷ [])) (glue_section v a)

  abbrev pub query_lines : Version → Name × ℕ → List ℕ
  query_lines v q = if under q.0 v.apex then answer_lines v q.0 (answer v q.0 q.1) else line (codes "answer" ∷ codes "out-of-zone" ∷ [])

-- ---- the lines of a walk's stop, item by item

-- a record of a set
abbrev pub set_record : ℕ → Stop → List Field → Record
set_record class s d = record { owner = s.owner; rtype = s.rtype; class = class; ttl = s.contents.ttl; fields = d }

-- its line
abbrev pub item_line : ℕ → Stop → List Field → List ℕ
item_line class s d = record_line record_wire (codes "rr" ∷ flag_word record_wire s.below_cut ∷ []) (set_record class s d)

-- ---- how much a version has

-- its RRsets, each once, and their records
abbrev pub count_lines : Version → List ℕ
count_lines v = line (codes "sets" ∷ decimal (length (walk v)) ∷ []) ++ line (codes "records" ∷ decimal (length (records_of_version v)) ∷ [])

-- the data of a set, as the tree of a version gives it
abbrev pub items_told : Name × TypedSet → List (List Field)
items_told s = s.1.contents.items

-- whether it has the same records as another
abbrev pub same_line : Version → Version → List ℕ
same_line v w = line (codes "same" ∷ (if same_version v w then codes "yes" else codes "no") ∷ [])
