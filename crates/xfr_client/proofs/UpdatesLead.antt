-- What a difference comes to as the updates of one batch and an end.
use Rattle.std.proofs.Common.{◌≡◌, Bool, true, false, cond, if◌then◌else◌, List, [], ◌∷◌, ◌++◌, map, refl, sym, ap, ◌∙◌, subst, append_assoc, is_eq, Some, None, Result, Ok, Err}
use Rattle.std.specs.Prelude.{IsTrue}
use Rattle.std.specs.Cmp.{Equal-is}
use Rattle.std.specs.Cmp.Derive.{both_true}
use Rattle.std.specs.Cmp.Lexicographic.{pointwise}
use Rattle.std.specs.BTreeMap.{insert_entry}
use Rattle.dns_name.specs.Names.{Name, fold}
use Rattle.dns_numbers.specs.Codes.{type_soa}
use Rattle.dns_rdata.specs.Records.{Record}
use Rattle.zone_model.specs.Version.{Version, Key, Same, same_version, key_cmp, set_in}
use Rattle.zone_model.specs.Edits.{Refusal, with_sets, and_then, add, add_all, delete, delete_all, set_soa, close}
use Rattle.zone_model.specs.Difference.{difference}
use Rattle.zone_model.specs.TransferText.{Batch, is_soa}
use Rattle.zone_model.specs.TransferLaws.{LeadsTo, IsSoaOf, batch_of}
use Rattle.zone_model.specs.Spells.{apply_batch, apply_new}
use Rattle.zone_model.specs.Updates.{Update, NotSoaRecord, DeleteRecord, AddRecord, BeginBatchAdd, Finished, Progress, begin, edited, with_soa, finish, batch_updates}
use Rattle.zone_model.proofs.Folded.{key_total, fold-fold, same_name-Decides}
use Rattle.zone_model.proofs.Ordered.{Alike, find_alike}
use Rattle.zone_model.proofs.Steps.{set_of, found-insert, good-insert}
use Rattle.zone_model.proofs.SameVersions.{SameSet, Like, like_from_same, same_from_like, close_like}
use Rattle.zone_model.proofs.DifferenceLaws.{difference_leads}
use Rattle.xfr_model.specs.Applying.{Applied, unless_refused, apply_all}
use Rattle.xfr_client.specs.Updating.{progress_of}
use Rattle.xfr_client.specs.CallsInTurn.{IsBetween, HaveSoas, new_updater, updates_between, UpdatesLead, UpdatesFit}
use Rattle.xfr_client.proofs.Published.{done_at, applied_all, refused_at}

-- progress that isn't finished, and passes nothing over
abbrev st : List Version → Version → Progress
st c v = record { committed = c; pending = v; replacing = false; finished = false }

-- edits that aren't refused, before more updates
deletes : (rs : List Record) (c : List Version) (v q : Version) (more : List Update) → delete_all v rs ≡ Ok q → apply_all (st c v) (map DeleteRecord rs ++ more) ≡ apply_all (st c q) more
deletes [] c v q more e = let same : v ≡ q = cc e in ap (λ x. apply_all (st c x) more) same
deletes (r ∷ rs) c v q more e = by (delete v r) refl e (λ x h. deletes rs c x q more h)
  where
    by : (z : Result Version Refusal) → delete v r ≡ z → and_then z (λ x. delete_all x rs) ≡ Ok q
        → ((x : Version) → delete_all x rs ≡ Ok q → apply_all (st c x) (map DeleteRecord rs ++ more) ≡ apply_all (st c q) more)
        → unless_refused (st c v) (λ g. apply_all g (map DeleteRecord rs ++ more)) (edited (st c v) (delete v r)) ≡ apply_all (st c q) more
    by (Ok x) d h later = ap (λ z. unless_refused (st c v) (λ g. apply_all g (map DeleteRecord rs ++ more)) (edited (st c v) z)) d ∙ later x h
    by (Err f) d h later = cc h

adds : (rs : List Record) (c : List Version) (v q : Version) (more : List Update) → add_all v rs ≡ Ok q → apply_all (st c v) (map AddRecord rs ++ more) ≡ apply_all (st c q) more
adds [] c v q more e = let same : v ≡ q = cc e in ap (λ x. apply_all (st c x) more) same
adds (r ∷ rs) c v q more e = by (add v r) refl e (λ x h. adds rs c x q more h)
  where
    by : (z : Result Version Refusal) → add v r ≡ z → and_then z (λ x. add_all x rs) ≡ Ok q
        → ((x : Version) → add_all x rs ≡ Ok q → apply_all (st c x) (map AddRecord rs ++ more) ≡ apply_all (st c q) more)
        → unless_refused (st c v) (λ g. apply_all g (map AddRecord rs ++ more)) (edited (st c v) (add v r)) ≡ apply_all (st c q) more
    by (Ok x) d h later = ap (λ z. unless_refused (st c v) (λ g. apply_all g (map AddRecord rs ++ more)) (edited (st c v) z)) d ∙ later x h
    by (Err f) d h later = cc h

soa_taken : (p : Progress) (r : Record) → is_soa r ≡ true → with_soa p r ≡ Ok (record p { pending = set_soa p.pending r })
soa_taken p r e = ap (λ b. if b then Ok (record p { pending = set_soa p.pending r }) else Err NotSoaRecord) e

-- where the end leads
abbrev ended : List Version → Version → Record → Progress
ended c v r = record { committed = c ++ close (set_soa v r) ∷ []; pending = close (set_soa v r); replacing = false; finished = true }

ends : (c : List Version) (v : Version) (r : Record) → is_soa r ≡ true → apply_all (st c v) (Finished r ∷ []) ≡ done_at (ended c v r)
ends c v r is = ap (λ z. unless_refused (st c v) (λ g. apply_all g []) (finish z)) (soa_taken (st c v) r is)

-- the new SOA, the adds and the end
second_half : (c : List Version) (v q : Version) (new : Record) (rs : List Record) → is_soa new ≡ true → apply_new v rs (Some new) ≡ Ok q
    → apply_all (st c v) (BeginBatchAdd new ∷ map AddRecord rs ++ Finished new ∷ []) ≡ done_at (ended c q new)
second_half c v q new rs is e =
    ap (unless_refused (st c v) (λ g. apply_all g (map AddRecord rs ++ Finished new ∷ []))) (soa_taken (st c v) new is)
    ∙ adds rs c (set_soa v new) q (Finished new ∷ []) e ∙ ends c q new is

-- a batch that isn't refused, and the end
whole_batch : (base q : Version) (old new : Record) (ds rs : List Record) → is_soa new ≡ true
    → apply_batch (close base) (record { old = old; deletes = ds; new = Some new; adds = rs }) ≡ Ok q
    → apply_all (begin base) (batch_updates (record { old = old; deletes = ds; new = Some new; adds = rs }) ++ Finished new ∷ []) ≡ done_at (ended (close base ∷ []) q new)
whole_batch base q old new ds rs is e =
    ap (apply_all (st (close base ∷ []) (close base))) (append_assoc (map DeleteRecord ds) (BeginBatchAdd new ∷ map AddRecord rs) (Finished new ∷ []))
    ∙ by (delete_all (close base) ds) refl e
  where
    by : (z : Result Version Refusal) → delete_all (close base) ds ≡ z → and_then z (λ x. apply_new x rs (Some new)) ≡ Ok q
        → apply_all (st (close base ∷ []) (close base)) (map DeleteRecord ds ++ ((BeginBatchAdd new ∷ map AddRecord rs) ++ Finished new ∷ [])) ≡ done_at (ended (close base ∷ []) q new)
    by (Ok x) d h = deletes ds (close base ∷ []) (close base) x ((BeginBatchAdd new ∷ map AddRecord rs) ++ Finished new ∷ []) d ∙ second_half (close base ∷ []) x q new rs is h
    by (Err f) d h = cc h

-- the SOA of a version put where it stands
same_last : (x w : Version) (new : Record) → IsSoaOf w new → Like x w → Like (set_soa x new) w
same_last x w new is l = record { near = l.near; good = good-insert x.sets (fold x.apex, type_soa) (set_of new.ttl (new.fields ∷ [])) (fold-fold x.apex) l.good; same = alike }
  where
    alike : (q : Key) → Alike key_total SameSet (set_in (insert_entry key_cmp x.sets (fold x.apex, type_soa) (set_of new.ttl (new.fields ∷ []))) q) (set_in w.sets q)
    alike q = subst (λ z. Alike key_total SameSet z (set_in w.sets q)) (sym (found-insert x.sets (fold x.apex, type_soa) (set_of new.ttl (new.fields ∷ [])) q)) (by (is_eq (key_cmp q (fold x.apex, type_soa))) refl)
      where
        by : (b : Bool) → is_eq (key_cmp q (fold x.apex, type_soa)) ≡ b → Alike key_total SameSet (cond b (Some (set_of new.ttl (new.fields ∷ []))) (set_in x.sets q)) (set_in w.sets q)
        by true p =
            let there : set_in w.sets q ≡ Some (set_of new.ttl (new.fields ∷ []))
            = find_alike key_total w.sets q (fold x.apex, type_soa) ((Equal-is (key_cmp q (fold x.apex, type_soa))).0 p) ∙ ap (λ (n : Name). set_in w.sets (n, type_soa)) l.near ∙ is in
            subst (λ z. Alike key_total SameSet (Some (set_of new.ttl (new.fields ∷ []))) z) (sym there) (record { ttl = refl; items = λ d. refl })
        by false p = l.same q

-- where the updates of a difference lead
record Comes (v w base : Version) (old new : Record) : Type 0 where
  first : Version
  last : Version
  applied : apply_all (begin base) (updates_between v w old new) ≡ done_at (record { committed = first ∷ last ∷ []; pending = last; replacing = false; finished = true })
  same_first : Same first v
  same_last : Same last w

comes : (v w base : Version) (old new : Record) → IsBetween v w base → HaveSoas v w new → Comes v w base old new
comes v w base old new b h =
    let near : fold base.apex ≡ fold v.apex = (same_name-Decides base.apex v.apex).0 b.base_apex in
    let along : fold v.apex ≡ fold w.apex = (same_name-Decides v.apex w.apex).0 b.apex in
    let batch : Batch = batch_of w (difference v w) old new in
    let closed : close base ≡ base = close_like base v b.valid (like_from_same base v b.valid near b.same) in
    let l : LeadsTo (apply_batch base batch) base w = difference_leads w v w base old new b.valid b.next_valid h.one h.next_one b.apex b.base_apex b.same h.of in
    let q : Version = with_sets base l.sets in
    let made : apply_batch (close base) batch ≡ Ok q = ap (λ x. apply_batch x batch) closed ∙ l.makes in
    let put : Like (set_soa q new) w = same_last q w new h.of (like_from_same q w b.next_valid (near ∙ along) l.same) in
    record {
      first = close base;
      last = close (set_soa q new);
      applied = whole_batch base q old new batch.deletes batch.adds h.is made;
      same_first = subst (λ x. Same x v) (sym closed) b.same;
      same_last = subst (λ x. Same x w) (sym (close_like (set_soa q new) w b.next_valid put)) (same_from_like (set_soa q new) w b.next_valid put);
    }

pub updates_lead : UpdatesLead
updates_lead v w s t x old new told b h a =
    let c = comes v w s.pending old new b h in
    let e : done_at (progress_of x t told) ≡ done_at (record { committed = c.first ∷ c.last ∷ []; pending = c.last; replacing = false; finished = true })
    = sym (applied_all new_updater s (updates_between v w old new) told x t [] a) ∙ c.applied in
    let versions : told ≡ c.first ∷ c.last ∷ [] = ap (λ (z : Applied). z.progress.committed) e in
    let pending : t.pending ≡ c.last = ap (λ (z : Applied). z.progress.pending) e in (
      subst (λ l. IsTrue (pointwise same_version l (v ∷ w ∷ []))) (sym versions) (both_true c.same_first (both_true c.same_last refl)),
      subst (λ z. Same z w) (sym pending) c.same_last,
    )

pub updates_fit : UpdatesFit
updates_fit v w s t x old new told done left u why b h joined a r =
    let c = comes v w s.pending old new b h in
    let e = sym (refused_at s t x told done left u why a r) ∙ sym (ap (apply_all (begin s.pending)) joined) ∙ c.applied in
    let f : Some why ≡ None = ap (λ (z : Applied). z.refused) e in cc f
