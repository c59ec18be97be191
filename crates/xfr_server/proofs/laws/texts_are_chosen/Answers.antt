use Rattle.xfr_server.proofs.SentTexts.{text_is_chosen, texts_begin}
use Rattle.xfr_server.proofs.laws.texts_are_chosen.Goals as goal

pub returns : goal.returns
returns c = record { chosen = text_is_chosen; begin = texts_begin }
