-- Lengths of digests, and a key filled up to a block.
use Rattle.std.proofs.Common.{◌≡◌, ◌≤◌, ℕ, zero, suc, ◌-◌, ◌*◌, Bool, true, List, ◌++◌, length, length-append, refl, ap, arith, lit≤, ltb-false, le-ltb, ◌<◌, ◌+◌, ◌∙◌, take}
use Rattle.std.proofs.lemmas.Bool.{lt-ltb}
use Rattle.std.proofs.Math.Seq.{take-append-add}
use Rattle.std.specs.Int.{to_be_bytes, w32}
use Rattle.std.specs.Prelude.{nat_lt, replicate, bit_xor, slice_index, false, map, if◌then◌else◌}
use Rattle.std.proofs.lemmas.List.{append-nil, length-replicate, take-replicate}
use Rattle.sha1.specs.Sha1.{sha1}
use Rattle.sha1.specs.Sha1 as S1
use Rattle.sha2.proofs.Facts256.{length-sha256}
use Rattle.sha2.proofs.Facts512.{length-sha384, length-sha512}
use Rattle.tsig_keys.specs.Hmac.{hmac, digest, block_len, native_len, short_key, block_key}
use Rattle.tsig_keys.specs.declared.algorithms.Algorithm.{Algorithm}
use Rattle.tsig_keys.specs.declared.algorithms.Algorithm.TheVariants.{Sha1, Sha256, Sha384, Sha512}

sha1_digest_bytes : (h : List ℕ) (n : ℕ) → length (S1.digest_bytes h n) ≡ n * 4
unfolding S1.digest_bytes
sha1_digest_bytes h zero = refl
sha1_digest_bytes h (suc n) =
    let before = sha1_digest_bytes h n in
    let both = length-append (S1.digest_bytes h n) (to_be_bytes w32 (slice_index h n)) in
    omega (arith, before, both)

length-sha1 : (m : List ℕ) → length (sha1 m) ≡ 20
unfolding S1.sha1
length-sha1 m = sha1_digest_bytes _ 5

-- a digest has the octets that its algorithm says
pub length-digest : (a : Algorithm) (m : List ℕ) → length (digest a m) ≡ native_len a
length-digest Sha1 m = length-sha1 m
length-digest Sha256 m = length-sha256 m
length-digest Sha384 m = length-sha384 m
length-digest Sha512 m = length-sha512 m

-- a digest is no longer than a block
native-block : (a : Algorithm) → native_len a ≤ block_len a
native-block Sha1 = lit≤ tt
native-block Sha256 = lit≤ tt
native-block Sha384 = lit≤ tt
native-block Sha512 = lit≤ tt

short_by : (a : Algorithm) (k : List ℕ) (b : Bool) → nat_lt (block_len a) (length k) ≡ b → length (if b then digest a k else k) ≤ block_len a
short_by a k true e = rw (length-digest a k) (native-block a)
short_by a k false e = ltb-false (block_len a) (length k) e

-- the key, digested where it is long, fits a block
short : (a : Algorithm) (k : List ℕ) → length (short_key a k) ≤ block_len a
short a k = short_by a k (nat_lt (block_len a) (length k)) refl

-- filled up it is a block
length-block_key : (a : Algorithm) (k : List ℕ) → length (block_key a k) ≡ block_len a
length-block_key a k =
    let fits = short a k in
    let both = length-append (short_key a k) (replicate (block_len a - length (short_key a k)) 0) in
    let zeros = length-replicate {A = ℕ} (block_len a - length (short_key a k)) 0 in
    omega (arith, fits, both, zeros)

filled : (a : Algorithm) (k : List ℕ) → length k ≡ block_len a → block_key a k ≡ k
filled a k e =
    let not_long : nat_lt (block_len a) (length k) ≡ false = rw e (le-ltb (block_len a) (block_len a) (omega arith)) in
    let kept : short_key a k ≡ k = ap (λ b. if b then digest a k else k) not_long in
    let none : block_len a - length k ≡ 0 = omega (arith, e) in
    rw (kept, none, append-nil k) refl

-- octets filled up to 128, cut to a block
cut : (n : ℕ) (x : List ℕ) → length x ≤ n → n ≤ 128 → take n (x ++ replicate (128 - length x) 0) ≡ x ++ replicate (n - length x) 0
cut n x fits most =
    let less : n - length x ≤ 128 - length x = omega arith in
    let zeros : take (n - length x) (replicate {A = ℕ} (128 - length x) 0) ≡ replicate (n - length x) 0 = take-replicate {X = ℕ} (n - length x) (128 - length x) 0 less in
    let whole : n ≡ length x + (n - length x) = omega arith in
    ap (λ k. take k (x ++ replicate (128 - length x) 0)) whole
    ∙ take-append-add x (replicate (128 - length x) 0) (n - length x)
    ∙ ap (λ z. x ++ z) zeros

block-128 : (a : Algorithm) → block_len a ≤ 128
block-128 Sha1 = lit≤ tt
block-128 Sha256 = lit≤ tt
block-128 Sha384 = lit≤ tt
block-128 Sha512 = lit≤ tt

-- a key that fits a block, filled up to 128 octets, begins with its block
pub short_filled : (a : Algorithm) (k : List ℕ) → length k ≤ block_len a → take (block_len a) (k ++ replicate (128 - length k) 0) ≡ block_key a k
short_filled a k fits =
    let not_long : nat_lt (block_len a) (length k) ≡ false = le-ltb (block_len a) (length k) fits in
    let kept : short_key a k ≡ k = ap (λ b. if b then digest a k else k) not_long in
    rw kept (cut (block_len a) k fits (block-128 a))

-- so does the digest of a longer one
pub long_filled : (a : Algorithm) (k d : List ℕ) → block_len a < length k → d ≡ digest a k → take (block_len a) (d ++ replicate (128 - length d) 0) ≡ block_key a k
long_filled a k d long is =
    let longer : nat_lt (block_len a) (length k) ≡ true = lt-ltb (block_len a) (length k) long in
    let kept : short_key a k ≡ digest a k = ap (λ b. if b then digest a k else k) longer in
    let fits : length (digest a k) ≤ block_len a = rw (length-digest a k) (native-block a) in
    rw (is, kept) (cut (block_len a) (digest a k) fits (block-128 a))

-- MACs by a block key are those by the key
pub hmac-block_key : (a : Algorithm) (k m : List ℕ) → hmac a (block_key a k) m ≡ hmac a k m
unfolding hmac
hmac-block_key a k m =
    let same : block_key a (block_key a k) ≡ block_key a k = filled a (block_key a k) (length-block_key a k) in
    ap (λ b. digest a (map (λ o. bit_xor o 0x5c) b ++ digest a (map (λ o. bit_xor o 0x36) b ++ m))) same
