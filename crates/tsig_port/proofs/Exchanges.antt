-- The server's answers, taken by the client.
use Rattle.std.proofs.Common.{◌≡◌, [], ◌∷◌, ◌++◌, sym, ap, ◌∙◌, None}
use Rattle.std.specs.Prelude.{map}
use Rattle.std.specs.List.{last_or}
use Rattle.std.specs.Option.{option_map_or}
use Rattle.std.proofs.lemmas.List.{map-append}
use Rattle.dns_rdata.specs.Records.{record_wire}
use Rattle.dns_wire.specs.Parse.{parsed}
use Rattle.dns_wire.proofs.ItemWriting.{parsed-message_wire}
use Rattle.tsig_port.specs.Tsig.{tsig_record, mac_in, tsig_by}
use Rattle.tsig_port.specs.Exchange.{next_answer, next_tsig, AnswerIsAccepted, AnswerIsKept, AnswerKeepsOctets, StaysInStep}
use Rattle.tsig_port.proofs.SignedAnswers.{signature, passes, taken_is}

pub answer_is_accepted : AnswerIsAccepted
answer_is_accepted key request taken macs m at now fudge meets step =
    passes key (mac_in request) at now fudge meets.is_key meets.early meets.small meets.near taken (last_or None macs) m meets.can_sign
    (sym (ap (λ ms. last_or None ms) step))

pub answer_keeps_octets : AnswerKeepsOctets
answer_keeps_octets key request macs m at now fudge meets =
    taken_is key (mac_in request) at now fudge meets.is_key meets.early meets.small meets.near (last_or None macs) m meets.can_sign

pub answer_is_kept : AnswerIsKept
answer_is_kept key request macs m at now fudge meets =
    ap parsed (answer_keeps_octets key request macs m at now fudge meets)
    ∙ parsed-message_wire m (record_wire (tsig_record key.name (next_tsig key request macs m at fudge))) meets.can_sign.message

pub stays_in_step : StaysInStep
stays_in_step key request taken macs m at now fudge meets step =
    let answer = next_answer key request macs m at fudge in
    let mac = (next_tsig key request macs m at fudge).mac in
    let prior = last_or None macs in
    let read : mac_in answer ≡ mac =
    ap (λ s. option_map_or (λ t. t.mac) (tsig_by s) []) (signature key (mac_in request) at now fudge meets.is_key meets.early meets.small meets.near prior m meets.can_sign) in
    ap (λ l. l ++ mac ∷ []) step ∙ ap (λ x. map mac_in taken ++ x ∷ []) (sym read) ∙ sym (map-append mac_in taken (answer ∷ []))
