use Rattle.std.proofs.Common.{sym, ◌∙◌}
use Rattle.zone_script.proofs.KeyFields.{made_of}
use Rattle.zone_script.proofs.fields.key_of_parts.Goals as goal

pub returns : goal.returns
returns c =
    c.key_of_lens.ensures
    ∙ made_of c.args.algorithm c.args.secret.now c.args.name c.args.signing.now c.args.least.now c.in_ok-signing.signing c.in_ok-least.least (sym c.in_ok-signing.ensures) (sym c.in_ok-least.ensures)
