use Rattle.std.proofs.Common.{◌≡◌, ◌<◌, ◌^◌, ◌++◌, ℕ, List, ap, subst, ◌∙◌, arith, drop}
use Rattle.dns_wire.specs.Wire.{Header, header_in, header_wire, flags_word}
use Rattle.dns_wire.specs.Numbers.{with_number}
use Rattle.dns_wire.proofs.Headers.{header_in-header_wire}
use Rattle.dns_wire.proofs.header.write_header.Goals as goal

pub returns-clause-read : goal.returns-clause-read
returns-clause-read c =
    let o = c.args.octets.now.items in
    let is = c.header.view_is in
    let opcode : c.args.header.opcode < 16 = subst (λ (h : Header). h.opcode < 16) is c.header.invariant.0 in
    let rcode : c.args.header.rcode < 16 = subst (λ (h : Header). h.rcode < 16) is c.header.invariant.1 in
    let id : c.args.header.id < 2 ^ 16 = subst (λ (h : Header). h.id < 2 ^ 16) is (omega arith) in
    let written : c.set_number-2.new.octets.items ≡ header_wire c.args.header ++ drop 2 (drop 2 o) =
    c.set_number-2.ensures ∙ ap (λ xs. with_number 2 xs c.to_word.result) c.set_number.ensures
    ∙ ap (λ w. with_number 2 (with_number 0 o c.header.inside.id) w) c.to_word.ensures
    ∙ ap (λ (h : Header). with_number 2 (with_number 0 o h.id) (flags_word c.args.header)) is in
    ap (λ (xs : List ℕ). header_in xs) written ∙ header_in-header_wire c.args.header opcode rcode (drop 2 (drop 2 o)) id
