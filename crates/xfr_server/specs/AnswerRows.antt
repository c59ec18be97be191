-- Requests of worked answers.
use Rattle.std.specs.Prelude.{ℕ, List, [], ◌∷◌, false}
use Rattle.dns_wire.specs.Wire.{Header, message_wire}
use Rattle.xfr_model.specs.ReplyRows.{asked}

-- a request with a question of a type about `example.`
abbrev pub request_header : Header
request_header = record { id = 1000; qr = false; opcode = 0; aa = false; tc = false; rd = false; ra = false; z = false; ad = false; cd = false; rcode = 0 }

abbrev pub request_of : ℕ → List ℕ
request_of qtype = message_wire (record { header = request_header; questions = asked qtype ∷ []; answers = []; authority = []; additional = [] })
