use Rattle.std.proofs.Common.{◌∙◌, ◌++◌, ◌∷◌, []}
use Rattle.xfr_batch.proofs.BatchRooms.{not_nil}
use Rattle.xfr_replies.proofs.PageRooms.{message_is}
use Rattle.xfr_replies.proofs.Pulling.{full_first, limited_first, first_of_text}
use Rattle.xfr_replies.proofs.laws.messages_given_back_are_first_pages.Goals as goal

pub returns-clause-full : goal.returns-clause-full
returns-clause-full c = λ s q limit singles answer new m begun rest r pages soft hard message tries cut. (
  tries.3 ∙ message_is s q limit begun soft,
  first_of_text s q limit singles begun (r ∷ rest) pages soft tries.0 tries.1 (full_first s q limit begun answer soft message singles r rest m new hard tries) cut,
)

pub returns-clause-limited : goal.returns-clause-limited
returns-clause-limited c = λ s q limit singles answer new m begun rest r pages soft hard message tries cut. (
  tries.2 ∙ message_is s q limit (begun ++ r ∷ []) soft,
  first_of_text s q limit singles (begun ++ r ∷ []) rest pages soft (not_nil begun r) tries.0 (limited_first s q limit begun answer soft message singles r rest m new hard tries) cut,
)
