use Rattle.std.proofs.Common.{[], ◌∷◌, ap, ◌∙◌, sym, string_bytes}
use Rattle.std.specs.Prelude.{option_map}
use Rattle.zone_script.specs.ScriptLines.{number_below}
use Rattle.zone_script.specs.Words.{Transfer, mode_of}
use Rattle.zone_script.proofs.WordForms.{no_readers}
use Rattle.zone_script.proofs.words.transfer_beside.Goals as goal

pub returns-in-Some-number_below-clause-asked : goal.returns-in-Some-number_below-clause-asked
returns-in-Some-number_below-clause-asked c =
    c.in-Some.ensures.asked (string_bytes c.args.readers.now ∷ []) ∙ ap (λ d. option_map (Transfer (mode_of c.in-Some.mode)) (number_below 17 d)) (sym c.as_bytes.ensures.value)
    ∙ ap (option_map (Transfer (mode_of c.in-Some.mode))) (sym c.in-Some-number_below.ensures.value)

pub returns-in-None-number_below-clause-other : goal.returns-in-None-number_below-clause-other
returns-in-None-number_below-clause-other c = λ m k.
    no_readers (mode_of c.in-Some.mode) m k _ (number_below 17 (string_bytes c.args.readers.now)) (c.in-Some.ensures.asked (string_bytes c.args.readers.now ∷ []))
    (ap (number_below 17) (sym c.as_bytes.ensures.value) ∙ sym c.in-None-number_below.ensures.value)

pub returns-in-None-clause-other : goal.returns-in-None-clause-other
returns-in-None-clause-other c = λ m k. c.in-None.ensures.other (string_bytes c.args.readers.now ∷ []) m k
