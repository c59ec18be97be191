use Rattle.xfr_replies.proofs.text.TransferText.whole.Goals as goal

pub invariant_of-result : goal.invariant_of-result
invariant_of-result c = (c.whole_place-place.ensures _).is_place
