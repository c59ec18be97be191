-- Named on a line `unfolding on_literals`, this opens all that a worked example computes with.
use Rattle.dns_name.specs.Compression.{name_of}
use Rattle.dns_rdata.specs.Records.{fields_at}
use Rattle.dns_wire.specs.Parse.{question_at, items_at, parsed, readings}
use Rattle.dns_rdata.specs.Heads.{raw_record_at}
use Rattle.tsig_keys.proofs.HmacOnLiterals.{hmac_on_literals}
use Rattle.tsig_port.specs.Tsig.{tsig_of, signature_of, signed_from}
use Rattle.tsig_port.specs.Checked.{passing, first_fault}

unfoldable pub on_literals : Unit {0}
unfolding hmac_on_literals name_of fields_at question_at raw_record_at items_at parsed readings tsig_of signature_of signed_from passing first_fault
on_literals = tt
