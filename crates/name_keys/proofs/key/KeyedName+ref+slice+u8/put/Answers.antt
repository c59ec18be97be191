use Rattle.std.proofs.Common.{◌∙◌, sym, ap}
use Rattle.dns_name.specs.Names.{fold}
use Rattle.name_keys.proofs.Octets.{name_again}
use Rattle.name_keys.proofs.Reading.{key_invariant, spelled}
use Rattle.name_keys.proofs.key.KeyedName+ref+slice+u8.put.Goals as goal

pub invariant_of-result : goal.invariant_of-result
invariant_of-result g c = key_invariant c.as_slice.result.now c.args.name.now (c.as_slice.ensures.value ∙ c.fill.ensures.key) c.fill.ensures.name

pub returns : goal.returns
returns g c =
    let value = spelled c.as_slice.result.now c.args.name.now (c.as_slice.ensures.value ∙ c.fill.ensures.key) in
    (record { value = value; name = c.fill.ensures.name; folded = ap fold value ∙ name_again c.args.name.now ∙ sym value })
