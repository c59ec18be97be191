-- Edits of a version at keys that were noted: the keys cover what they covered.
use Rattle.std.proofs.Common.{◌≡◌, ℕ, ◌==◌, Bool, true, false, cond, not, if◌then◌else◌, List, [], ◌∷◌, length, refl, sym, ap, ◌∙◌, true≢false, Equal, is_eq, Some}
use Rattle.std.specs.List.{filter, AllByRecursion}
use Rattle.std.specs.Cmp.{Equal-is, alike_right}
use Rattle.std.specs.BTreeMap.{insert_entry}
use Rattle.std.specs.Map.{keys_of, remove_entry}
use Rattle.dns_name.specs.Names.{Name, fold, under}
use Rattle.zone_model.specs.Version.{RecordSet, Key, Sets, Version, key_cmp, has_key, set_in}
use Rattle.zone_model.specs.Edits.{with_sets, put_set, remove_set, clear, close}
use Rattle.zone_model.proofs.Folded.{key_total}
use Rattle.zone_model.proofs.Steps.{found-insert}
use Rattle.zone_versions.specs.Strays.{is_stray_at}
use Rattle.zone_changes.specs.Touched.{is_touched, noted, noted_all, keys_below, stray_keys, Keeps, Covers}
use Rattle.zone_changes.proofs.Noting.{apart, passing_noted, keeps_all, keeps_noted, keeps_noted_all}

-- a map and itself
pub covers_itself : (keys : List Key) (a : Sets) → Covers keys a a
covers_itself keys a = record { same = λ k n. refl }

-- the other way round
pub covers_turned : (keys : List Key) (a b : Sets) → Covers keys a b → Covers keys b a
covers_turned keys a b h = record { same = λ k n. sym (h.same k n) }

untouched : (old new : List Key) (k : Key) → Keeps old new → is_touched new k ≡ false → is_touched old k ≡ false
untouched old new k h n = by (is_touched old k) refl
  where
    by : (b : Bool) → is_touched old k ≡ b → b ≡ false
    by true t = absurd (true≢false (sym (h.still k t) ∙ n))
    by false t = refl

-- more keys
pub covers_more : (old new : List Key) (a b : Sets) → Keeps old new → Covers old a b → Covers new a b
covers_more old new a b k h = record { same = λ q n. h.same q (untouched old new q k n) }

pub covers_noted : (keys : List Key) (k : Key) (a b : Sets) → Covers keys a b → Covers (noted keys k) a b
covers_noted keys k a b h = covers_more keys (noted keys k) a b (keeps_noted keys keys k (keeps_all keys)) h

pub covers_noted_all : (keys more : List Key) (a b : Sets) → Covers keys a b → Covers (noted_all keys more) a b
covers_noted_all keys more a b h = covers_more keys (noted_all keys more) a b (keeps_noted_all keys keys more (keeps_all keys)) h

-- one edit at a key of these
pub covers_insert : (keys : List Key) (a b : Sets) (k : Key) (s : RecordSet) → is_touched keys k ≡ true → Covers keys a b → Covers keys a (insert_entry key_cmp b k s)
covers_insert keys a b k s t h = record { same = λ q n. h.same q n ∙ sym (found-insert b k s q ∙ ap (λ c. cond c (Some s) (set_in b q)) (apart keys k q t n)) }

found_other : (es : Sets) (k q : Key) → is_eq (key_cmp q k) ≡ false → set_in (remove_entry (has_key k) es) q ≡ set_in es q
found_other [] k q n = refl
found_other (e ∷ es) k q n = by (has_key k e.0) refl (found_other es k q n)
  where
    tied : is_eq (key_cmp k e.0) ≡ true → is_eq (key_cmp q e.0) ≡ false
    tied t = both (is_eq (key_cmp q e.0)) refl
      where
        both : (b : Bool) → is_eq (key_cmp q e.0) ≡ b → b ≡ false
        both true u =
            let one : key_cmp q e.0 ≡ Equal = (Equal-is (key_cmp q e.0)).0 u in
            let other : key_cmp k e.0 ≡ Equal = (Equal-is (key_cmp k e.0)).0 t in
            absurd (true≢false (sym (ap is_eq (alike_right key_total k e.0 q other ∙ one)) ∙ n))
        both false u = refl

    by : (b : Bool) → has_key k e.0 ≡ b → set_in (remove_entry (has_key k) es) q ≡ set_in es q → set_in (cond b es (e ∷ remove_entry (has_key k) es)) q ≡ cond (is_eq (key_cmp q e.0)) (Some e.1) (set_in es q)
    by true t later = ap (λ c. cond c (Some e.1) (set_in es q)) (sym (tied t))
    by false t later = ap (cond (is_eq (key_cmp q e.0)) (Some e.1)) later

pub covers_remove : (keys : List Key) (a b : Sets) (k : Key) → is_touched keys k ≡ true → Covers keys a b → Covers keys a (remove_entry (has_key k) b)
covers_remove keys a b k t h = record { same = λ q n. h.same q n ∙ sym (found_other b k q (apart keys k q t n)) }

-- sets left out, each of which is at a key of these
found_left : (p : Key → Bool) (keys : List Key) (es : Sets) (q : Key) → AllByRecursion (λ k. p k ≡ true → is_touched keys k ≡ true) (keys_of es) → is_touched keys q ≡ false
    → set_in (filter (λ (e : Key × RecordSet). not (p e.0)) es) q ≡ set_in es q
found_left p keys [] q all n = refl
found_left p keys (e ∷ es) q all n = by (p e.0) refl (found_left p keys es q all.1 n)
  where
    kept : Sets
    kept = filter (λ (x : Key × RecordSet). not (p x.0)) es

    by : (b : Bool) → p e.0 ≡ b → set_in kept q ≡ set_in es q → set_in (cond (not b) (e ∷ kept) kept) q ≡ cond (is_eq (key_cmp q e.0)) (Some e.1) (set_in es q)
    by true t later = later ∙ ap (λ c. cond c (Some e.1) (set_in es q)) (sym (apart keys e.0 q (all.0 t) n))
    by false t later = ap (cond (is_eq (key_cmp q e.0)) (Some e.1)) later

pub covers_left : (p : Key → Bool) (keys : List Key) (a b : Sets) → AllByRecursion (λ k. p k ≡ true → is_touched keys k ≡ true) (keys_of b) → Covers keys a b
    → Covers keys a (filter (λ (e : Key × RecordSet). not (p e.0)) b)
covers_left p keys a b all h = record { same = λ q n. h.same q n ∙ sym (found_left p keys b q all n) }

-- .. and those are noted
pub covers_filtered : (p : Key → Bool) (keys : List Key) (a b : Sets) → Covers keys a b → Covers (noted_all keys (filter p (keys_of b))) a (filter (λ (e : Key × RecordSet). not (p e.0)) b)
covers_filtered p keys a b h = covers_left p (noted_all keys (filter p (keys_of b))) a b (passing_noted p keys (keys_of b)) (covers_noted_all keys (filter p (keys_of b)) a b h)

-- edits of a version
pub covers_remove_set : (keys : List Key) (a : Sets) (v : Version) (owner : Name) (rtype : ℕ) → is_touched keys (fold owner, rtype) ≡ true → Covers keys a v.sets → Covers keys a (remove_set v owner rtype).sets
covers_remove_set keys a v owner rtype t h = covers_remove keys a v.sets (fold owner, rtype) t h

pub covers_put_set : (keys : List Key) (a : Sets) (v : Version) (owner : Name) (rtype : ℕ) (s : RecordSet) → is_touched keys (fold owner, rtype) ≡ true → Covers keys a v.sets
    → Covers keys a (put_set v owner rtype s).sets
covers_put_set keys a v owner rtype s t h = by (length s.items == 0)
  where
    by : (b : Bool) → Covers keys a (if b then remove_set v owner rtype else with_sets v (insert_entry key_cmp v.sets (fold owner, rtype) s)).sets
    by true = covers_remove keys a v.sets (fold owner, rtype) t h
    by false = covers_insert keys a v.sets (fold owner, rtype) s t h

pub covers_clear : (keys : List Key) (a : Sets) (v : Version) (n : Name) → Covers keys a v.sets → Covers (noted_all keys (keys_below v n)) a (clear v n).sets
covers_clear keys a v n h = covers_filtered (λ k. under k.0 n) keys a v.sets h

pub covers_close : (keys : List Key) (a : Sets) (v : Version) → Covers keys a v.sets → Covers (noted_all keys (stray_keys v)) a (close v).sets
covers_close keys a v h = covers_filtered (is_stray_at v) keys a v.sets h
