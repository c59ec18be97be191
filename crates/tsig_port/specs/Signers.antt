-- The TSIG that a signer makes, where some octets were digested before the message.
use Rattle.std.specs.Prelude.{ℕ, Bool, true, false, List, [], ◌++◌}
use Rattle.dns_name.specs.Names.{Name}
use Rattle.dns_numbers.specs.Codes.{noerror}
use Rattle.dns_wire.specs.Wire.{id_in}
use Rattle.tsig_port.specs.Tsig.{TsigKey, Tsig, blank_tsig, with_mac, variables, timers}

-- with the TSIG variables after the message (RFC 8945, 5.1 and 5.3)
abbrev pub first_tsig : TsigKey → List ℕ → List ℕ → ℕ → ℕ → Tsig
first_tsig key before message time_signed fudge =
    let t = blank_tsig key time_signed fudge (id_in message) noerror [] in
    with_mac key t (before ++ message ++ variables key.name t)

-- with the timers after it (RFC 8945, 5.3.1)
abbrev pub later_tsig : TsigKey → List ℕ → List ℕ → ℕ → ℕ → Tsig
later_tsig key before message time_signed fudge =
    let t = blank_tsig key time_signed fudge (id_in message) noerror [] in
    with_mac key t (before ++ message ++ timers t)

-- what is digested after an answer's message: of a first answer the variables, of a later one the timers (RFC 8945, 5.3 and 5.3.1)
abbrev pub behind_message : Bool → Name → Tsig → List ℕ
behind_message true owner t = variables owner t
behind_message false owner t = timers t
