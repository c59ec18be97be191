-- Named on a line `unfolding on_literals`, this opens all that a worked example of messages computes with.
use Rattle.dns_name.specs.Compression.{name_of}
use Rattle.dns_rdata.specs.Records.{fields_at}
use Rattle.dns_wire.specs.Parse.{question_at, items_at, parsed, readings}
use Rattle.dns_rdata.specs.Heads.{raw_record_at}

unfoldable pub on_literals : Unit {0}
unfolding name_of fields_at question_at raw_record_at items_at parsed readings
on_literals = tt
