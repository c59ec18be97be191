-- How many octets a signed request takes.
use Rattle.std.proofs.Common.{◌≡◌, ℕ, ◌+◌, ◌≤◌, List, [], ◌++◌, length, length-append, length-drop, take, drop, ap, arith}
use Rattle.std.specs.Prelude.{IsTrue}
use Rattle.std.proofs.lemmas.List.{length-take-le}
use Rattle.dns_name.specs.Octets.{u16_octets, u32_octets, u48_octets}
use Rattle.dns_numbers.specs.Codes.{type_tsig, class_any}
use Rattle.dns_name.specs.Names.{Name, name_wire}
use Rattle.dns_rdata.specs.Records.{record_wire, data_wire}
use Rattle.dns_wire.specs.Wire.{with_item, header_number, id_in, message_wire}
use Rattle.tsig_port.specs.Tsig.{Tsig, is_mac_len, compose_len, tsig_rest, tsig_record, request_tsig, request_input, blank_tsig}
use Rattle.tsig_port.proofs.SignedExchange.{length-mac}
use Rattle.xfr_client.specs.SoFar.{Asking, asked_id, asked_question, asked_authority, request_message, asked_octets}
use Rattle.xfr_client.proofs.Requests.{octets_are}
use Rattle.zone_sync.proofs.HonestRequests.{asking_length}

rest_length : (t : Tsig) → length (tsig_rest t) ≡ 16 + length t.mac + length t.other
rest_length t =
    let front = u48_octets t.time_signed ++ u16_octets t.fudge ++ u16_octets (length t.mac) in
    let a = front ++ t.mac in
    let b = a ++ u16_octets t.original_id in
    let c = b ++ u16_octets t.error in
    let d = c ++ u16_octets (length t.other) in
    omega (arith, length-append front t.mac, length-append a (u16_octets t.original_id), length-append b (u16_octets t.error), length-append c (u16_octets (length t.other)), length-append d t.other)

record_length : (owner : Name) (t : Tsig) → length (record_wire (tsig_record owner t)) ≡ length (name_wire owner) + 10 + length (name_wire t.algorithm) + length (tsig_rest t)
record_length owner t =
    let fields = (tsig_record owner t).fields in
    let o = name_wire owner in
    let a = o ++ u16_octets type_tsig in
    let b = a ++ u16_octets class_any in
    let c = b ++ u32_octets 0 in
    let d = c ++ u16_octets (length (data_wire fields)) in
    omega (
      arith,
      length-append o (u16_octets type_tsig),
      length-append a (u16_octets class_any),
      length-append b (u32_octets 0),
      length-append c (u16_octets (length (data_wire fields))),
      length-append d (data_wire fields),
      length-append (name_wire t.algorithm) (tsig_rest t ++ []),
      length-append (tsig_rest t) [],
    )

item_length : (k : ℕ) (message item : List ℕ) → k + 2 ≤ length message → length (with_item k message item) ≡ length message + length item
item_length k message item header =
    let n = u16_octets (header_number k message + 1) in
    omega (
      arith,
      length-append (take k message ++ n ++ drop (k + 2) message) item,
      length-append (take k message ++ n) (drop (k + 2) message),
      length-append (take k message) n,
      length-take-le k message (omega arith),
      length-drop (k + 2) message,
    )

-- the request grows by what its key's TSIG takes
pub asked_length : (a : Asking) → IsTrue (is_mac_len a.key.algorithm a.key.signing_len) → length (asked_octets a) ≡ length (message_wire (request_message a)) + compose_len a.key
asked_length a macs =
    let m = message_wire (request_message a) in
    let t = request_tsig a.key m a.at 300 in
    let blank = blank_tsig a.key a.at 300 (id_in m) 0 [] in
    let whole = asking_length (asked_id a) (asked_question a) (asked_authority a) in
    omega (
      arith,
      ap length (octets_are a),
      whole,
      item_length 10 m (record_wire (tsig_record a.key.name t)) (omega (arith, whole)),
      record_length a.key.name t,
      rest_length t,
      length-mac a.key (request_input m a.key.name blank) macs,
    )
