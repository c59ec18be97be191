use Rattle.dns_rdata.proofs.Texts.{text_joined}
use Rattle.dns_rdata.proofs.string_laws.strings_of_texts_join_to_them.Goals as goal

pub returns : goal.returns
returns c = text_joined
