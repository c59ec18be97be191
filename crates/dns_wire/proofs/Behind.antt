-- Octets after a message that parses change nothing of it.
use Rattle.std.proofs.Common.{◌≡◌, ℕ, zero, suc, ◌+◌, ◌-◌, ◌<◌, ◌≤◌, Bool, true, false, List, [], ◌∷◌, ◌++◌, length, take, drop, Some, None, refl, ap, ◌∙◌, arith, le-leb, leb-true, lt-ltb, ltb-true, nat_le, nat_lt}
use Rattle.std.specs.Prelude.{Option, ◌==◌, slice_get, slice_range, option_and_then, if◌then◌else◌}
use Rattle.std.proofs.lemmas.Option.{cond_some}
use Rattle.std.proofs.lemmas.List.{drop-append-le, take-append-le, length-append, length-drop}
use Rattle.dns_name.specs.Octets.{◌>>=◌, octets_at, u16_at, u32_at}
use Rattle.dns_name.specs.Names.{Name}
use Rattle.dns_name.specs.Compression.{element_at, element_from, label_at, name_at, NameAt}
use Rattle.dns_name.specs.Compression.Element.{Root, Label, Pointer}
use Rattle.dns_name.specs.Compression.NameAt.{at_root, at_label, at_pointer}
use Rattle.dns_name.proofs.NameReading.{name_at-NameAt, NameAt-name_at}
use Rattle.dns_rdata.specs.Heads.{raw_record_at}
use Rattle.dns_wire.specs.Parse.{header_at, counts_at, question_at, items_at, parsed}

-- ---- readings that find the same again

-- what the first found, the second finds
abbrev Kept : {A : Type 0} → Option A → Option A → Type 0
Kept {A} first second = (x : A) → first ≡ Some x → second ≡ Some x

kept_same : {A : Type 0} (o : Option A) → Kept o o
kept_same o x e = e

kept_bind : {A B : Type 0} (first second : Option A) (f g : A → Option B) → Kept first second → ((x : A) → Kept (f x) (g x))
    → Kept (first >>= f) (second >>= g)
kept_bind None second f g found rest x e = absurd (cc)
kept_bind (Some y) second f g found rest x e = rw (found y refl) (rest y x e)

kept_then : {A B : Type 0} (first second : Option A) (f g : A → Option B) → Kept first second → ((x : A) → Kept (f x) (g x))
    → Kept (option_and_then f first) (option_and_then g second)
kept_then None second f g found rest x e = absurd (cc)
kept_then (Some y) second f g found rest x e = rw (found y refl) (rest y x e)

kept_if : {A : Type 0} (b : Bool) (x y s t : Option A) → Kept x s → Kept y t → Kept (if b then x else y) (if b then s else t)
kept_if true x y s t found other = found
kept_if false x y s t found other = other

module _ (m after : List ℕ) where
  -- ---- octets and numbers

  range_kept : (a b : ℕ) → a ≤ b → b ≤ length m → slice_range (m ++ after) a b ≡ slice_range m a b
  range_kept a b order inside =
      ap (λ xs. take (b - a) xs) (drop-append-le a m after (omega arith))
      ∙ take-append-le (b - a) (drop a m) after (omega (arith, length-drop a m))

  octets_kept : (k p : ℕ) → Kept (octets_at k m p) (octets_at k (m ++ after) p)
  octets_kept k p x e =
      let there = cond_some (nat_le (p + k) (length m)) (slice_range m p (p + k), p + k) x e in
      let inside : p + k ≤ length m = leb-true _ _ there.0 in
      let more : nat_le (p + k) (length (m ++ after)) ≡ true = le-leb _ _ (omega (arith, length-append m after)) in
      rw (more, range_kept p (p + k) (omega arith) inside) (ap (λ r. Some r) there.1)

  u16_kept : (p : ℕ) → Kept (u16_at m p) (u16_at (m ++ after) p)
  u16_kept p = kept_bind _ _ _ _ (octets_kept 2 p) (λ r. kept_same _)

  u32_kept : (p : ℕ) → Kept (u32_at m p) (u32_at (m ++ after) p)
  u32_kept p = kept_bind _ _ _ _ (octets_kept 4 p) (λ r. kept_same _)

  -- ---- names

  label_kept : (p c : ℕ) → Kept (label_at m p c) (label_at (m ++ after) p c)
  label_kept p c x e =
      let there = cond_some (nat_lt (p + c) (length m)) (Label (slice_range m (p + 1) (p + 1 + c))) x e in
      let inside : p + c < length m = ltb-true _ _ there.0 in
      let more : nat_lt (p + c) (length (m ++ after)) ≡ true = lt-ltb _ _ (omega (arith, length-append m after)) in
      rw (more, range_kept (p + 1) (p + 1 + c) (omega arith) (omega arith)) (ap (λ r. Some r) there.1)

get_kept : (m after : List ℕ) (p : ℕ) → Kept (slice_get m p) (slice_get (m ++ after) p)
get_kept [] after p c e = absurd (cc)
get_kept (x ∷ m) after zero c e = e
get_kept (x ∷ m) after (suc p) c e = get_kept m after p c e

module _ (m after : List ℕ) where
  from_kept : (p c : ℕ) → Kept (element_from m p c) (element_from (m ++ after) p c)
  from_kept p c =
      kept_if (c == 0) _ _ _ _ (kept_same _)
      (kept_if (nat_lt c 64) _ _ _ _ (label_kept m after p c)
      (kept_if (nat_lt c 192) _ _ _ _ (kept_same _)
      (kept_then _ _ _ _ (get_kept m after (p + 1)) (λ d. kept_same _))))

  element_kept : (p : ℕ) → Kept (element_at m p) (element_at (m ++ after) p)
  element_kept p = kept_then _ _ _ _ (get_kept m after p) (from_kept p)

  name_stays : {p : ℕ} {n : Name} {q k : ℕ} → NameAt m p n q k → NameAt (m ++ after) p n q k
  name_stays (at_root p e) = at_root p (element_kept p Root e)
  name_stays (at_label p q k label n e h) = at_label p q k label n (element_kept p (Label label) e) (name_stays h)
  name_stays (at_pointer p q k offset n e h) = at_pointer p q k offset n (element_kept p (Pointer offset) e) (name_stays h)

  name_kept : (p : ℕ) → Kept (name_at m p) (name_at (m ++ after) p)
  name_kept p r e =
      let there = name_at-NameAt m p r.0 r.1 e in
      NameAt-name_at (m ++ after) p r.0 r.1 there.0 (name_stays there.1) there.2 there.3

  -- ---- items

  question_kept : (p : ℕ) → Kept (question_at m p) (question_at (m ++ after) p)
  unfolding question_at
  question_kept p =
      kept_bind (name_at m p) _ _ _ (name_kept p)
      (λ r. kept_bind _ _ _ _ (u16_kept m after r.1) (λ t. kept_bind _ _ _ _ (u16_kept m after t.1) (λ c. kept_same _)))

  record_kept : (p : ℕ) → Kept (raw_record_at m p) (raw_record_at (m ++ after) p)
  unfolding raw_record_at
  record_kept p =
      kept_bind (name_at m p) _ _ _ (name_kept p)
      (λ r. kept_bind _ _ _ _ (u16_kept m after r.1) (λ t. kept_bind _ _ _ _ (u16_kept m after t.1)
      (λ c. kept_bind _ _ _ _ (u32_kept m after c.1) (λ l. kept_bind _ _ _ _ (u16_kept m after l.1)
      (λ n. kept_bind _ _ _ _ (octets_kept m after n.0 n.1) (λ d. kept_same _))))))

items_kept : {X : Type 0} (item again : ℕ → Option (X × ℕ)) → ((p : ℕ) → Kept (item p) (again p)) → (n p : ℕ)
    → Kept (items_at item n p) (items_at again n p)
unfolding items_at
items_kept item again each zero p = kept_same _
items_kept item again each (suc n) p =
    kept_bind _ _ _ _ (each p) (λ r. kept_bind _ _ _ _ (items_kept item again each n r.1) (λ q. kept_same _))

-- ---- the whole message

pub parsed_kept : (m after : List ℕ) → Kept (parsed m) (parsed (m ++ after))
unfolding parsed
parsed_kept m after =
    let number = u16_kept m after in
    let records = items_kept (raw_record_at m) (raw_record_at (m ++ after)) (record_kept m after) in
    kept_bind (header_at m 0) (header_at (m ++ after) 0) _ _ (kept_bind _ _ _ _ (number 0) (λ i. kept_bind _ _ _ _ (number i.1) (λ w. kept_same _)))
    (λ h. kept_bind (counts_at m h.1) (counts_at (m ++ after) h.1) _ _
    (kept_bind _ _ _ _ (number h.1) (λ a. kept_bind _ _ _ _ (number a.1) (λ b. kept_bind _ _ _ _ (number b.1) (λ c. kept_bind _ _ _ _ (number c.1) (λ d. kept_same _)))))
    (λ c. kept_bind _ _ _ _ (items_kept (question_at m) (question_at (m ++ after)) (question_kept m after) c.0.qdcount c.1)
    (λ q. kept_bind _ _ _ _ (records c.0.ancount q.1) (λ a. kept_bind _ _ _ _ (records c.0.nscount a.1)
    (λ u. kept_bind _ _ _ _ (records c.0.arcount u.1) (λ d. kept_same _))))))
