-- How many answers a message has, and how long they are.
use Rattle.std.proofs.Common.{◌≡◌, ℕ, ◌+◌, ◌*◌, ◌<◌, ◌≤◌, true, List, [], ◌∷◌, ◌++◌, length, ap, arith}
use Rattle.std.specs.Prelude.{flat_map}
use Rattle.std.proofs.lemmas.Bool.Decides.{nat_tests}
use Rattle.std.proofs.lemmas.List.{length-append}
use Rattle.std.proofs.lemmas.List.Concat.{flat_map-append}
use Rattle.dns_name.specs.Names.{name_wire}
use Rattle.dns_name.specs.Octets.{u16_octets, u32_octets}
use Rattle.dns_rdata.specs.Records.{Record, record_wire, data_wire}
use Rattle.dns_wire.specs.Wire.{Header, Question, question_wire, header_wire, counts_wire, counts_of, message_wire, in_answer, fits}

pub wire_length : (h : Header) (qs : List Question) (rs : List Record)
    → length (message_wire (in_answer h qs rs)) ≡ 12 + (length (flat_map question_wire qs) + length (flat_map record_wire rs))
wire_length h qs rs =
    let front = header_wire h ++ counts_wire (counts_of (in_answer h qs rs)) in
    let asked = front ++ flat_map question_wire qs in
    let answered = asked ++ flat_map record_wire rs in
    omega (arith, length-append front (flat_map question_wire qs), length-append asked (flat_map record_wire rs), length-append answered [], length-append (answered ++ []) [])

pub longer : (h : Header) (qs : List Question) (xs ys : List Record) → length (message_wire (in_answer h qs xs)) ≤ length (message_wire (in_answer h qs (xs ++ ys)))
longer h qs xs ys =
    omega (
      arith,
      wire_length h qs xs,
      wire_length h qs (xs ++ ys),
      ap length (flat_map-append record_wire xs ys),
      length-append (flat_map record_wire xs) (flat_map record_wire ys),
    )

-- ---- a record has ten octets at least, so a message has room for fewer than can be counted

pub record_long : (r : Record) → 10 ≤ length (record_wire r)
record_long r =
    let d = data_wire r.fields in
    let a = name_wire r.owner ++ u16_octets r.rtype in
    let b = a ++ u16_octets r.class in
    let c = b ++ u32_octets r.ttl in
    let e = c ++ u16_octets (length d) in
    omega (
      arith,
      length-append (name_wire r.owner) (u16_octets r.rtype),
      length-append a (u16_octets r.class),
      length-append b (u32_octets r.ttl),
      length-append c (u16_octets (length d)),
      length-append e d,
    )

pub records_long : (rs : List Record) → 10 * length rs ≤ length (flat_map record_wire rs)
records_long [] = omega arith
records_long (r ∷ rs) = omega (arith, record_long r, records_long rs, length-append (record_wire r) (flat_map record_wire rs))

within_most : (limit : ℕ) (octets : List ℕ) → fits limit octets ≡ true → length octets ≤ 65535
within_most limit octets fit = grind (arith, nat_tests)

pub few : (limit : ℕ) (h : Header) (qs : List Question) (rs : List Record) → fits limit (message_wire (in_answer h qs rs)) ≡ true → length rs < 65535
few limit h qs rs fit = omega (arith, within_most limit (message_wire (in_answer h qs rs)) fit, wire_length h qs rs, records_long rs)
