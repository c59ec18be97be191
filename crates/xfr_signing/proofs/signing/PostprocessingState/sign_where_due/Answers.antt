use Rattle.std.proofs.Common.{true, false, refl, sym, ◌∙◌}
use Rattle.xfr_signing.proofs.Puts.{where_is}
use Rattle.xfr_signing.proofs.signing.PostprocessingState.sign_where_due.Goals as goal

pub returns-then-is_due : goal.returns-then-is_due
returns-then-is_due g c = λ s signing prior signs.
    where_is g.K.KeyRef.the_key s signing c.args.self.now.signing prior c.args.reply c.sign.result c.sign.new.self true signs.which (sym c.is_due.ensures ∙ c.if-is_due.true) (c.sign.ensures s signing prior signs)

pub returns-else-is_due : goal.returns-else-is_due
returns-else-is_due g c = λ s signing prior signs.
    where_is g.K.KeyRef.the_key s signing c.args.self.now.signing prior c.args.reply _ c.args.self.now false signs.which (sym c.is_due.ensures ∙ c.if-is_due.false) (refl, signs)
