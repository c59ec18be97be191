use Rattle.std.proofs.Common.{◌≡◌, sym, ap, ◌∙◌}
use Rattle.dns_name.specs.Names.{fold}
use Rattle.dns_name.proofs.FoldedLabels.{equal_names}
use Rattle.tsig_keys.specs.TsigKeys.{TsigKey}
use Rattle.tsig_keys.proofs.KeyLookups.{equal_algorithms}
use Rattle.tsig_keys.proofs.stores.KeyKeyStore.get_key.Goals as goal

pub returns-then-name_eq-clause-asked : goal.returns-then-name_eq-clause-asked
returns-then-name_eq-clause-asked c =
    let same : fold c.args.name.now ≡ fold c.name.result.now = (equal_names c.args.name.now c.name.result.now).0 (sym c.name_eq.ensures ∙ c.if-name_eq.true) in
    let one : c.args.algorithm ≡ c.algorithm.result = equal_algorithms c.args.algorithm c.algorithm.result (sym c.eq.ensures ∙ c.if-eq.true) in (
      ap (λ (k : TsigKey). fold k.name) c.duplicate.ensures ∙ sym (same ∙ ap fold c.name.ensures),
      ap (λ (k : TsigKey). k.algorithm) c.duplicate.ensures ∙ sym (one ∙ c.algorithm.ensures),
    )
