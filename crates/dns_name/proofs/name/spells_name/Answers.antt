use Rattle.std.proofs.Common.{◌∙◌, ℕ, sym, ap, Option}
use Rattle.std.specs.Prelude.{unwrap_or}
use Rattle.std.specs.Cmp.Lexicographic.{bytes_decides}
use Rattle.dns_name.specs.Names.{Name, name_wire}
use Rattle.dns_name.proofs.WholeNames.{whole_name}
use Rattle.dns_name.proofs.name.spells_name.Goals as goal

pub returns-in-Ok-clause-only : goal.returns-in-Ok-clause-only
returns-in-Ok-clause-only c = λ name h e.
    let same = sym c.in-Ok.ensures.found ∙ whole_name c.args.octets.now name h e in
    let labels = ap (λ (o : Option (Name × ℕ)). (unwrap_or o (name, 0)).0) same in
    let wire = c.as_slice.ensures.wire ∙ ap name_wire labels ∙ e in
    c.eq.ensures ∙ (bytes_decides c.as_slice.result.now c.args.octets.now).1 wire

pub returns-in-Err-clause-only : goal.returns-in-Err-clause-only
returns-in-Err-clause-only c = λ name h e. absurd (let same = sym c.in-Err.ensures.none ∙ whole_name c.args.octets.now name h e in cc)
