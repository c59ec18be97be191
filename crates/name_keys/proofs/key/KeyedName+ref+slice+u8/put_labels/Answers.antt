use Rattle.std.proofs.Common.{◌∙◌, sym, ap}
use Rattle.dns_name.specs.Names.{fold}
use Rattle.name_keys.proofs.Octets.{name_again}
use Rattle.name_keys.proofs.Reading.{key_invariant, spelled}
use Rattle.name_keys.proofs.key.KeyedName+ref+slice+u8.put_labels.Goals as goal

pub invariant_of-result : goal.invariant_of-result
invariant_of-result g c = key_invariant c.as_slice.result.now (g.N.Labelled.labels c.args.name.now) (c.as_slice.ensures.value ∙ c.fill_labels.ensures.key) c.fill_labels.ensures.name

pub returns : goal.returns
returns g c =
    let value = spelled c.as_slice.result.now (g.N.Labelled.labels c.args.name.now) (c.as_slice.ensures.value ∙ c.fill_labels.ensures.key) in
    (record { value = value; name = c.fill_labels.ensures.name; folded = ap fold value ∙ name_again (g.N.Labelled.labels c.args.name.now) ∙ sym value })
