-- The difference that an update tells is that of the versions published before and by it.
use Rattle.std.proofs.Common.{◌≡◌, Bool, true, false, if◌then◌else◌, [], ◌∷◌, ap, Option, Some, None, Result, Ok, Err}
use Rattle.zone_model.specs.Version.{Version}
use Rattle.zone_reads.specs.Session.{Session}
use Rattle.zone_model.specs.Edits.{set_soa, close}
use Rattle.zone_model.specs.Difference.{Difference, difference, diffable}
use Rattle.zone_model.specs.TransferText.{is_soa}
use Rattle.zone_model.specs.Updates.{DeleteAllRecords, DeleteRecord, AddRecord, BeginBatchDelete, BeginBatchAdd, Finished, Progress, UpdateFault, NotSoaRecord, AfterFinish, published, finish}
use Rattle.xfr_client.specs.Updating.{progress_of}
use Rattle.xfr_client.specs.CallsInTurn.{TellsOfPublished}

-- what an update that isn't refused came to
begun : (b : Bool) (p q : Progress) → ◌≡◌ {A = Result Progress UpdateFault} (if b then Err AfterFinish else Ok p) (Ok q) → p ≡ q
begun true p q h = absurd (cc h)
begun false p q h = cc h

ended : (b c : Bool) (p q : Progress) → ◌≡◌ {A = Result Progress UpdateFault} (if b then Err AfterFinish else finish (if c then Ok p else Err NotSoaRecord)) (Ok q)
    → record (published p) { finished = true } ≡ q
ended true c p q h = absurd (cc h)
ended false true p q h = cc h
ended false false p q h = absurd (cc h)

sole : (v w : Version) → v ∷ [] ≡ w ∷ [] → v ≡ w
sole v w h = cc h

-- what is told, by the version that is published
abbrev told_of : Session → Version → Option Difference
told_of s v = if s.compares then (if diffable s.current.version v then Some (difference s.current.version v) else None) else None

pub tells_of_published : TellsOfPublished
tells_of_published u v s t DeleteAllRecords a is = absurd (cc is)
tells_of_published u v s t (DeleteRecord r) a is = absurd (cc is)
tells_of_published u v s t (AddRecord r) a is = absurd (cc is)
tells_of_published u v s t (BeginBatchDelete r) a is =
    let e = begun u.finished (published (progress_of u s [])) (progress_of v t (t.current.version ∷ [])) (a []) in
    ap (told_of s) (sole (close s.pending) t.current.version (ap (λ (p : Progress). p.committed) e))
tells_of_published u v s t (BeginBatchAdd r) a is = absurd (cc is)
tells_of_published u v s t (Finished r) a is =
    let p : Progress = record (progress_of u s []) { pending = set_soa s.pending r } in
    let e = ended u.finished (is_soa r) p (progress_of v t (t.current.version ∷ [])) (a []) in
    ap (told_of s) (sole (close (set_soa s.pending r)) t.current.version (ap (λ (x : Progress). x.committed) e))
