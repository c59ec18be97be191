use Rattle.std.proofs.Common.{sym, ap, ◌∙◌, Some, None}
use Rattle.std.specs.Option.{option_copied}
use Rattle.tsig_keys.proofs.KeyLookups.{found_in_map}
use Rattle.tsig_keys.proofs.stores.HashMapTuple2KeyNameAlgorithmKeyKeyStore.get_key.Goals as goal

pub returns-in-Some-clause-key : goal.returns-in-Some-clause-key
returns-in-Some-clause-key c =
    c.get_key.ensures.key
    ∙ found_in_map c.duplicate.result c.args.name.now c.args.algorithm c.args.self.now.entries (Some c.in-Some.key.now) c.duplicate.ensures
    (sym (ap option_copied c.in-Some.is) ∙ c.get.ensures.value)

pub returns-in-None-clause-key : goal.returns-in-None-clause-key
returns-in-None-clause-key c =
    found_in_map c.duplicate.result c.args.name.now c.args.algorithm c.args.self.now.entries None c.duplicate.ensures
    (sym (ap option_copied c.in-None.is) ∙ c.get.ensures.value)
