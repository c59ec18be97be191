-- Where the version refuses an edit nothing changes.
use Rattle.std.proofs.Common.{◌≡◌, refl, sym, true≢false, Result, Ok, Err, IsErr}
use Rattle.zone_model.specs.Version.{Version}
use Rattle.zone_model.specs.Edits.{Refusal}
use Rattle.zone_reads.specs.Session.{Session, with_pending}
use Rattle.zone_model.specs.Commits.{kept_or}
use Rattle.zone_sessions.specs.Nodes.{Node, with_edit}

-- of a session
pub refused_stays : (s : Session) (r : Result Version Refusal) → IsErr r → s ≡ with_pending s (kept_or s.pending r)
refused_stays s (Ok v) h = absurd (true≢false (sym h))
refused_stays s (Err why) h = refl

-- .. and of a node
pub refused_stays_at : (n : Node) (r : Result Version Refusal) → IsErr r → n ≡ with_edit n (kept_or n.session.pending r)
refused_stays_at n (Ok v) h = absurd (true≢false (sym h))
refused_stays_at n (Err why) h = refl
