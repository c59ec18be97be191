-- How many octets a signature takes at most.
use Rattle.std.proofs.Common.{ℕ, ◌+◌, ◌≤◌, List, [], length, take, arith, length-take}
use Rattle.std.specs.Prelude.{Option}
use Rattle.dns_rdata.specs.Records.{record_wire}
use Rattle.dns_wire.specs.Wire.{id_in}
use Rattle.dns_wire.proofs.Questions.{item_length}
use Rattle.tsig_port.specs.Tsig.{TsigKey, compose_len, tsig_record, answer_tsig, answer_input, blank_tsig, signed_answer, mac_of}
use Rattle.tsig_port.proofs.ErrorReplies.{tsig_length}

pub few_taken : (n : ℕ) (xs : List ℕ) → length (take n xs) ≤ n
few_taken n xs = omega (arith, length-take n xs)

-- an answer grows by no more than its key's TSIG can take
pub signed_length-le : (key : TsigKey) (request_mac : List ℕ) (prior : Option (List ℕ)) (message : List ℕ) (at fudge : ℕ) → 12 ≤ length message
    → length (signed_answer key request_mac prior message at fudge) ≤ length message + compose_len key
signed_length-le key request_mac prior message at fudge header =
    let t = answer_tsig key request_mac prior message at fudge in
    let blank = blank_tsig key at fudge (id_in message) 0 [] in
    omega (
      arith,
      item_length 10 message (record_wire (tsig_record key.name t)) header,
      tsig_length key.name t,
      few_taken key.signing_len (mac_of key (answer_input request_mac prior message key.name blank)),
    )
