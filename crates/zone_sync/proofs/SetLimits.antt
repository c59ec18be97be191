-- A limit on sets holds from version to version, where each update had room.
use Rattle.std.proofs.Common.{◌≡◌, ℕ, ◌<◌, ◌≤◌, Bool, true, false, not, ◌==◌, ◌&&◌, cond, if◌then◌else◌, List, [], ◌∷◌, ◌++◌, length, length-append, filter, arith, leb-false, Ordering, Less, Equal, Greater, Some, Result, Ok, Err}
use Rattle.std.specs.Prelude.{nat_lt, IfOk}
use Rattle.std.specs.Option.{option_map_or}
use Rattle.std.specs.Ordering.{match_ordering}
use Rattle.std.specs.List.{AllByRecursion}
use Rattle.std.specs.BTreeMap.{insert_entry}
use Rattle.std.specs.Map.{lookup, remove_entry}
use Rattle.dns_name.specs.Names.{Name, fold, under}
use Rattle.dns_name.specs.Records.{Record, same_data}
use Rattle.zone_model.specs.Version.{RecordSet, Key, Sets, Version, key_cmp, has_key, data_at}
use Rattle.zone_model.specs.Edits.{Refusal, OutOfZone, Incompatible, InvalidData, with_sets, remove_set, put_set, has_data, second_alias, add, delete, set_soa, is_stray, close}
use Rattle.zone_model.specs.TransferText.{is_soa}
use Rattle.zone_model.specs.Updates.{Update, DeleteAllRecords, DeleteRecord, AddRecord, BeginBatchDelete, BeginBatchAdd, Finished, Progress, UpdateFault, NotSoaRecord, AfterFinish, published, edited, finish, apply, apply_update}
use Rattle.xfr_model.specs.Applying.{Halt, NoNumber, within, unless_halted, apply_within}
use Rattle.xfr_client.specs.Room.{set_count, adds_to_full, AllHaveRoom, IsWithin, AreWithin, LimitHolds, CountsWithin}

-- ---- the entries of a version

filter_all : {X : Type 0} (P : X → Type 0) (f : X → Bool) (xs : List X) → AllByRecursion P xs → AllByRecursion P (filter f xs)
filter_all P f [] h = tt
filter_all {X} P f (x ∷ xs) h = by (f x) (filter_all P f xs h.1)
  where
    by : (b : Bool) → AllByRecursion P (filter f xs) → AllByRecursion P (cond b (x ∷ filter f xs) (filter f xs))
    by true k = (h.0, k)
    by false k = k

push_all : {X : Type 0} (P : X → Type 0) (xs : List X) (x : X) → AllByRecursion P xs → P x → AllByRecursion P (xs ++ x ∷ [])
push_all P [] x h k = (k, tt)
push_all P (y ∷ ys) x h k = (h.0, push_all P ys x h.1 k)

-- a set of so many records at most
abbrev Small : ℕ → Key × RecordSet → Type 0
Small most e = length e.1.items ≤ most

remove_small : (most : ℕ) (test : Key → Bool) (es : Sets) → AllByRecursion (Small most) es → AllByRecursion (Small most) (remove_entry test es)
remove_small most test [] h = tt
remove_small most test (e ∷ es) h = by (test e.0) (remove_small most test es h.1)
  where
    by : (b : Bool) → AllByRecursion (Small most) (remove_entry test es) → AllByRecursion (Small most) (cond b es (e ∷ remove_entry test es))
    by true k = h.1
    by false k = (h.0, k)

insert_small : (most : ℕ) (k : Key) (s : RecordSet) (es : Sets) → length s.items ≤ most → AllByRecursion (Small most) es → AllByRecursion (Small most) (insert_entry key_cmp es k s)
insert_small most k s [] l h = (l, tt)
insert_small most k s (e ∷ es) l h = by (key_cmp k e.0) (insert_small most k s es l h.1)
  where
    by : (o : Ordering) → AllByRecursion (Small most) (insert_entry key_cmp es k s) → AllByRecursion (Small most) (match_ordering o ((k, s) ∷ e ∷ es) ((e.0, s) ∷ es) (e ∷ insert_entry key_cmp es k s))
    by Less q = (l, h)
    by Equal q = (l, h.1)
    by Greater q = (h.0, q)

put_within : (most : ℕ) (v : Version) (owner : Name) (rtype : ℕ) (s : RecordSet) → length s.items ≤ most → IsWithin most v → IsWithin most (put_set v owner rtype s)
put_within most v owner rtype s l h =
    elim (length s.items == 0) as (λ b. IsWithin most (if b then remove_set v owner rtype else with_sets v (insert_entry key_cmp v.sets (fold owner, rtype) s))) [
      | true ↦ remove_small most (has_key (fold owner, rtype)) v.sets h
      | false ↦ insert_small most (fold owner, rtype) s v.sets l h
    ]

-- what a look-up finds
found_small : (most : ℕ) (test : Key → Bool) (es : Sets) → AllByRecursion (Small most) es → length (option_map_or (λ (s : RecordSet). s.items) (lookup test es) []) ≤ most
found_small most test [] h = omega arith
found_small most test (e ∷ es) h = by (test e.0) (found_small most test es h.1)
  where
    by : (b : Bool) → length (option_map_or (λ (s : RecordSet). s.items) (lookup test es) []) ≤ most → length (option_map_or (λ (s : RecordSet). s.items) (cond b (Some e.1) (lookup test es)) []) ≤ most
    by true k = h.0
    by false k = k

count_within : (most : ℕ) (v : Version) (owner : Name) (rtype : ℕ) → IsWithin most v → set_count v owner rtype ≤ most
count_within most v owner rtype h = found_small most (has_key (fold owner, rtype)) v.sets h

pub counts_within : CountsWithin
counts_within most v owner rtype h = count_within most v owner rtype h

-- ---- the edits

filter_less : {X : Type 0} (f : X → Bool) (xs : List X) → length (filter f xs) ≤ length xs
filter_less f [] = omega arith
filter_less {X} f (x ∷ xs) = by (f x) (filter_less f xs)
  where
    by : (b : Bool) → length (filter f xs) ≤ length xs → length (cond b (x ∷ filter f xs) (filter f xs)) ≤ length (x ∷ xs)
    by true k = omega (arith, k)
    by false k = omega (arith, k)

add_within : (most : ℕ) (v : Version) (r : Record) → adds_to_full (Some most) v (AddRecord r) ≡ false → IsWithin most v → IfOk (add v r) (IsWithin most)
add_within most v r room h =
    let less = leb-false most (set_count v r.owner r.rtype) room in
    let size = length-append (data_at v r.owner r.rtype) (r.fields ∷ []) in
    let made : Version = put_set v r.owner r.rtype (record { ttl = r.ttl; items = data_at v r.owner r.rtype ++ r.fields ∷ [] }) in
    by (not (under r.owner v.apex)) (has_data v r) (second_alias v r) made (put_within most v r.owner r.rtype (record { ttl = r.ttl; items = data_at v r.owner r.rtype ++ r.fields ∷ [] }) (omega (arith, less, size)) h)
  where
    by : (b c d : Bool) (w : Version) → IsWithin most w → IfOk (if b then Err OutOfZone else if c then Err Incompatible else if d then Err InvalidData else Ok w) (IsWithin most)
    by true c d w k = tt
    by false true d w k = tt
    by false false true w k = tt
    by false false false w k = k

delete_within : (most : ℕ) (v : Version) (r : Record) → IsWithin most v → IfOk (delete v r) (IsWithin most)
delete_within most v r h =
    let items = filter (λ d. not (same_data r.fields d)) (data_at v r.owner r.rtype) in
    let less = filter_less (λ d. not (same_data r.fields d)) (data_at v r.owner r.rtype) in
    let few = count_within most v r.owner r.rtype h in
    by (not (under r.owner v.apex)) (not (has_data v r)) (put_set v r.owner r.rtype (record { ttl = r.ttl; items = items }))
    (put_within most v r.owner r.rtype (record { ttl = r.ttl; items = items }) (omega (arith, less, few)) h)
  where
    by : (b c : Bool) (w : Version) → IsWithin most w → IfOk (if b then Err OutOfZone else if c then Err Incompatible else Ok w) (IsWithin most)
    by true c w k = tt
    by false true w k = tt
    by false false w k = k

soa_within : (most : ℕ) (v : Version) (r : Record) → 0 < most → IsWithin most v → IsWithin most (set_soa v r)
soa_within most v r some h = put_within most v v.apex _ (record { ttl = r.ttl; items = r.fields ∷ [] }) (omega (arith, some)) h

close_within : (most : ℕ) (v : Version) → IsWithin most v → IsWithin most (close v)
close_within most v h = filter_all (Small most) (λ e. not (is_stray v e)) v.sets h

-- ---- the updates

edited_within : (most : ℕ) (g : Progress) (o : Result Version Refusal) → AreWithin most g → IfOk o (IsWithin most) → IfOk (edited g o) (AreWithin most)
edited_within most g (Ok v) a h = (h, a.1)
edited_within most g (Err e) a h = tt

published_within : (most : ℕ) (g : Progress) → AreWithin most g → AreWithin most (published g)
published_within most g a =
    let c = close_within most g.pending a.0 in
    (c, push_all (IsWithin most) g.committed (close g.pending) a.1 c)

apply_keeps : (most : ℕ) (g : Progress) (u : Update) → 0 < most → AreWithin most g → adds_to_full (Some most) g.pending u ≡ false → IfOk (apply g u) (AreWithin most)
apply_keeps most g DeleteAllRecords some a room = (tt, a.1)
apply_keeps most g (DeleteRecord r) some a room = edited_within most g (delete g.pending r) a (delete_within most g.pending r a.0)
apply_keeps most g (AddRecord r) some a room =
    elim (g.replacing && under r.owner g.pending.apex && has_data g.pending r) as (λ b. IfOk (if b then Ok g else edited g (add g.pending r)) (AreWithin most)) [
      | true ↦ a
      | false ↦ edited_within most g (add g.pending r) a (add_within most g.pending r room a.0)
    ]
apply_keeps most g (BeginBatchDelete r) some a room = published_within most g a
apply_keeps most g (BeginBatchAdd r) some a room =
    elim (is_soa r) as (λ b. IfOk (if b then Ok (record g { pending = set_soa g.pending r }) else Err NotSoaRecord) (AreWithin most)) [
      | true ↦ (soa_within most g.pending r some a.0, a.1)
      | false ↦ tt
    ]
apply_keeps most g (Finished r) some a room =
    elim (is_soa r) as (λ b. IfOk (finish (if b then Ok (record g { pending = set_soa g.pending r }) else Err NotSoaRecord)) (AreWithin most)) [
      | true ↦ published_within most (record g { pending = set_soa g.pending r }) (soa_within most g.pending r some a.0, a.1)
      | false ↦ tt
    ]

update_keeps : (most limit : ℕ) (g : Progress) (u : Update) → 0 < most → AreWithin most g → adds_to_full (Some most) g.pending u ≡ false → IfOk (within limit (apply_update g u)) (AreWithin most)
update_keeps most limit g u some a room = numbered (apply_update g u) updated
  where
    numbered : (o : Result Progress UpdateFault) → IfOk o (AreWithin most) → IfOk (within limit o) (AreWithin most)
    numbered (Err e) k = tt
    numbered (Ok q) k = elim (nat_lt limit (length q.committed)) as (λ b. IfOk (if b then Err NoNumber else Ok q) (AreWithin most)) [ true ↦ tt | false ↦ k ]

    updated : IfOk (apply_update g u) (AreWithin most)
    updated = elim g.finished as (λ b. IfOk (if b then Err AfterFinish else apply g u) (AreWithin most)) [ true ↦ tt | false ↦ apply_keeps most g u some a room ]

pub limit_holds : LimitHolds
limit_holds most limit g [] some a room = a
limit_holds most limit g (u ∷ more) some a room = by (within limit (apply_update g u)) (update_keeps most limit g u some a room.0) room.1 (λ q b r. limit_holds most limit q more some b r)
  where
    by : (o : Result Progress Halt) → IfOk o (AreWithin most) → IfOk o (λ q. AllHaveRoom (Some most) limit q more)
        → ((q : Progress) → AreWithin most q → AllHaveRoom (Some most) limit q more → AreWithin most (apply_within limit q more).progress)
        → AreWithin most (unless_halted g (λ q. apply_within limit q more) o).progress
    by (Ok q) k r next = next q k r
    by (Err h) k r next = a
