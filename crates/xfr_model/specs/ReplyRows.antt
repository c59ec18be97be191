-- Messages of worked examples, in answer to a question about `example.`.
use Rattle.std.specs.Prelude.{ℕ, List, [], ◌∷◌, true, false, map, Some}
use Rattle.dns_rdata.specs.Records.{Record}
use Rattle.dns_wire.specs.Wire.{Header, Question}
use Rattle.zone_model.specs.ZoneRows.{e}
use Rattle.xfr_model.specs.Messages.{ReadMessage}

-- a header of an answer, and a message as read with these records in answer to a question of a type
abbrev pub transfer_header : Header
transfer_header = record { id = 1000; qr = true; opcode = 0; aa = true; tc = false; rd = false; ra = false; z = false; ad = false; cd = false; rcode = 0 }

abbrev pub asked : ℕ → Question
asked qtype = record { qname = e; qtype = qtype; qclass = 1 }

abbrev pub reply : ℕ → List Record → ReadMessage
reply qtype records = record { header = transfer_header; questions = asked qtype ∷ []; answers = map (λ r. Some r) records; authority = 0 }
