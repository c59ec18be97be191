use Rattle.std.proofs.Common.{◌∙◌, ◌++◌, ◌∷◌, sym, rules}
use Rattle.std.specs.Prelude.{flat_map}
use Rattle.std.proofs.Output.{has_written_append}
use Rattle.dns_name.specs.LabelText.{octet_text}
use Rattle.dns_name.specs.Names.{name_text}
use Rattle.dns_name.proofs.NameText.{first_text, next_text}
use Rattle.dns_name.proofs.text.NameDisplay.fmt.Goals as goal

pub loop-label-init : goal.loop-label-init
loop-label-init g c = λ p. (flat_map octet_text c.in-Some.first, first_text c.args.self.now c.in-Some.first c.in-Some.rest (sym c.borrowed.ensures.value ∙ c.in-Some.ensures), search rules)

pub loop-label-preserved : goal.loop-label-preserved
loop-label-preserved g c = λ p.
    let h = c.loop-label.invariant p in (
      h.0 ++ 46 ∷ flat_map octet_text c.in-Some-split_first.label,
      next_text h.0 c.loop-label.rest c.in-Some-split_first.label c.in-Some-split_first.tail (name_text c.args.self.now) c.in-Some-split_first.ensures h.1,
      has_written_append _ _ _ _ _ _ h.2 (search rules),
    )
