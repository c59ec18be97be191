use Rattle.std.proofs.Common.{sym, ◌∙◌, true≢false}
use Rattle.std.specs.Cmp.Lexicographic.{bytes_decides}
use Rattle.dns_rdata.proofs.Fronts.{other_start}
use Rattle.dns_rdata.proofs.spelling.after_front.Goals as goal

pub returns-else-eq : goal.returns-else-eq
returns-else-eq c =
    other_start c.args.front.now c.args.octets.now
    (λ e. true≢false (sym ((bytes_decides _ c.args.front.now).1 (c.split_at.ensures.front ∙ e)) ∙ sym c.eq.ensures ∙ c.if-eq.false))
