-- The lengths of MACs on a key line: a number past the longest whole MAC, of 64 octets, is out of bounds for each algorithm.
use Rattle.std.proofs.Common.{◌≡◌, ◌⊎◌, inl, inr, ℕ, ◌*◌, Bool, true, false, ◌&&◌, not, nat_le, nat_lt, if◌then◌else◌, List, refl, sym, ap, ◌∙◌, true≢false, arith, Option, Some, None, is_some, unwrap_or, Result, Ok, Err, codes, bytes_eq}
use Rattle.std.proofs.lemmas.Bool.Decides.{nat_tests}
use Rattle.std.specs.Prelude.{option_map, option_and_then}
use Rattle.std.specs.Result.{result_ok}
use Rattle.dns_name.specs.Names.{Name}
use Rattle.dns_name.specs.Octets.{◌>>=◌}
use Rattle.tsig_keys.specs.declared.algorithms.Algorithm.{Algorithm}
use Rattle.tsig_keys.specs.declared.algorithms.Algorithm.TheVariants.{Sha1, Sha256, Sha384, Sha512}
use Rattle.tsig_port.specs.Hmac.{native_len}
use Rattle.tsig_port.specs.Tsig.{TsigKey, new_key, is_mac_len}
use Rattle.zone_script.specs.ScriptLines.{number_of}
use Rattle.zone_script.specs.ScriptReaders.{length_field}
use Rattle.zone_script.specs.Lines.{mac_len_field, key_from}

and_false : (b : Bool) → (b && false) ≡ false
and_false true = refl
and_false false = refl

past : (k most : ℕ) → nat_lt most 65 ≡ true → nat_lt k 65 ≡ false → nat_le k most ≡ false
past k most p q = grind (arith, nat_tests)

-- no algorithm has such MACs
no_mac_len : (a : Algorithm) (k : ℕ) → nat_lt k 65 ≡ false → is_mac_len a k ≡ false
no_mac_len Sha1 k h = ap (λ b. nat_le 10 k && nat_le 20 (2 * k) && b) (past k 20 refl h) ∙ and_false (nat_le 10 k && nat_le 20 (2 * k))
no_mac_len Sha256 k h = ap (λ b. nat_le 10 k && nat_le 32 (2 * k) && b) (past k 32 refl h) ∙ and_false (nat_le 10 k && nat_le 32 (2 * k))
no_mac_len Sha384 k h = ap (λ b. nat_le 10 k && nat_le 48 (2 * k) && b) (past k 48 refl h) ∙ and_false (nat_le 10 k && nat_le 48 (2 * k))
no_mac_len Sha512 k h = ap (λ b. nat_le 10 k && nat_le 64 (2 * k) && b) (past k 64 refl h) ∙ and_false (nat_le 10 k && nat_le 64 (2 * k))

-- the key of two lengths
abbrev key_with : Algorithm → List ℕ → Name → Option (Option ℕ) → Option (Option ℕ) → Option TsigKey
key_with a s n signing least = do
  long ← signing
  short ← least
  result_ok (new_key a s n short long)

by_least : {K E : Type 0} (e : E) (r : Result K E) (c : Bool) → c ≡ false → result_ok (if not c then Err e else r) ≡ None
by_least e r true h = absurd (true≢false h)
by_least e r false h = refl

by_signing : {K E : Type 0} (e f : E) (k : K) (b c : Bool) → c ≡ false → result_ok (if b then Err e else if not c then Err f else Ok k) ≡ None
by_signing e f k true c h = refl
by_signing e f k false c h = by_least f (Ok k) c h

no_signing : (a : Algorithm) (s : List ℕ) (n : Name) (k : ℕ) (least : Option (Option ℕ)) → is_mac_len a k ≡ false → key_with a s n (Some (Some k)) least ≡ None
no_signing a s n k None h = refl
no_signing a s n k (Some short) h = by_signing _ _ _ (not (is_mac_len a (unwrap_or short (native_len a)))) (is_mac_len a k) h

no_least : (a : Algorithm) (s : List ℕ) (n : Name) (signing : Option (Option ℕ)) (k : ℕ) → is_mac_len a k ≡ false → key_with a s n signing (Some (Some k)) ≡ None
no_least a s n None k h = refl
no_least a s n (Some long) k h = by_least _ _ (is_mac_len a k) h

-- a field as it is read is the field, or a number past 64
abbrev IsPast : Option (Option ℕ) → Option (Option ℕ) → Type 0
IsPast x y = (x ≡ None) × ((k : ℕ) × ((y ≡ Some (Some k)) × (nat_lt k 65 ≡ false)))

read_or_past : (field : List ℕ) → (mac_len_field field ≡ length_field field) ⊎ IsPast (mac_len_field field) (length_field field)
read_or_past field = by (bytes_eq field (codes "-")) (number_of field)
  where
    past_bound : (k : ℕ) (c : Bool) → nat_lt k 65 ≡ c
        → (option_map Some (if c then Some k else None) ≡ Some (Some k)) ⊎ IsPast (option_map Some (if c then Some k else None)) (Some (Some k))
    past_bound k true e = inl refl
    past_bound k false e = inr (refl, (k, (refl, e)))

    by : (b : Bool) (o : Option ℕ)
        → ((if b then Some None else option_map Some (option_and_then (λ n. if nat_lt n 65 then Some n else None) o)) ≡ (if b then Some None else option_map Some o))
        ⊎ IsPast (if b then Some None else option_map Some (option_and_then (λ n. if nat_lt n 65 then Some n else None) o)) (if b then Some None else option_map Some o)
    by true o = inl refl
    by false None = inl refl
    by false (Some k) = past_bound k (nat_lt k 65) refl

length_within : (field : List ℕ) (l : Option ℕ) → mac_len_field field ≡ Some l → length_field field ≡ Some l
length_within field l h = by (read_or_past field)
  where
    by : ((mac_len_field field ≡ length_field field) ⊎ IsPast (mac_len_field field) (length_field field)) → length_field field ≡ Some l
    by (inl e) = sym e ∙ h
    by (inr p) = absurd (true≢false (ap is_some (sym h ∙ p.0)))

-- so without a length of the one or of the other there is no key
pub signing_too_long : (a : Algorithm) (s : List ℕ) (n : Name) (signing least : List ℕ) → mac_len_field signing ≡ None → key_from a s n signing least ≡ None
signing_too_long a s n signing least h = by (read_or_past signing)
  where
    by : ((mac_len_field signing ≡ length_field signing) ⊎ IsPast (mac_len_field signing) (length_field signing)) → key_with a s n (length_field signing) (length_field least) ≡ None
    by (inl e) = ap (λ x. key_with a s n x (length_field least)) (sym e ∙ h)
    by (inr (p, (k, (e, f)))) = ap (λ x. key_with a s n x (length_field least)) e ∙ no_signing a s n k (length_field least) (no_mac_len a k f)

none_least : (a : Algorithm) (s : List ℕ) (n : Name) (signing : Option (Option ℕ)) → key_with a s n signing None ≡ None
none_least a s n None = refl
none_least a s n (Some long) = refl

pub least_too_long : (a : Algorithm) (s : List ℕ) (n : Name) (signing least : List ℕ) → mac_len_field least ≡ None → key_from a s n signing least ≡ None
least_too_long a s n signing least h = by (read_or_past least)
  where
    by : ((mac_len_field least ≡ length_field least) ⊎ IsPast (mac_len_field least) (length_field least)) → key_with a s n (length_field signing) (length_field least) ≡ None
    by (inl e) = ap (key_with a s n (length_field signing)) (sym e ∙ h) ∙ none_least a s n (length_field signing)
    by (inr (p, (k, (e, f)))) = ap (key_with a s n (length_field signing)) e ∙ no_least a s n (length_field signing) k (no_mac_len a k f)

-- and with both there is the key of these lengths
pub made_of : (a : Algorithm) (s : List ℕ) (n : Name) (signing least : List ℕ) (long short : Option ℕ) → mac_len_field signing ≡ Some long → mac_len_field least ≡ Some short → result_ok (new_key a s n short long) ≡ key_from a s n signing least
made_of a s n signing least long short h k =
    ap (λ x. key_with a s n x (Some short)) (sym (length_within signing long h)) ∙ ap (key_with a s n (length_field signing)) (sym (length_within least short k))
