use Rattle.dns_rdata.proofs.Texts.{text_whole}
use Rattle.dns_rdata.proofs.string_laws.texts_are_strings.Goals as goal

pub returns : goal.returns
returns c = text_whole
