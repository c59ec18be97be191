use Rattle.std.proofs.Common.{◌≡◌, length, map}
use Rattle.zone_lookup.specs.Sending.{built_first, reply_to_extent}
use Rattle.zone_lookup.proofs.answer.Answer.first_of.Given as goal

-- none so far was within the limit
abbrev pub invariant-extents : goal.invariant-extents
invariant-extents l = built_first l.limit (map (reply_to_extent l.request l.self l.question) l.rest) ≡ built_first l.limit (map (reply_to_extent l.request l.self l.question) l.extents)

abbrev pub decreases-extents : goal.decreases-extents
decreases-extents l = length l.rest
