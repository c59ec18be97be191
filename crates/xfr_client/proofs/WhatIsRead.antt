-- Messages taken and applied: the laws of the interpreter and of the updater together.
use Rattle.std.proofs.Common.{subst}
use Rattle.xfr_model.specs.Interpreter.{mode_of}
use Rattle.xfr_client.specs.CallsInTurn.{new_updater, records_read, AppliesAll, PublishesWhatIsRead}
use Rattle.xfr_client.proofs.Named.{names_updates}
use Rattle.xfr_client.proofs.Published.{commits_what_is_spelt}

pub publishes_what_is_read : PublishesWhatIsRead
publishes_what_is_read ms told j s t v made taken applied =
    commits_what_is_spelt (mode_of ms) (records_read ms) s t v made (subst (λ us. AppliesAll new_updater s us made v t) (names_updates ms told j taken).0 applied)
