-- A header that was written is read again.
use Rattle.std.proofs.Common.{◌≡◌, ℕ, ◌+◌, ◌*◌, ◌/◌, ◌%◌, ◌<◌, ◌^◌, Bool, true, false, List, ◌++◌, refl, ap, ◌∙◌, arith}
use Rattle.std.specs.Prelude.{◌==◌, if◌then◌else◌}
use Rattle.std.specs.Int.{bit_at, w16, from_be_bytes, to_be_bytes}
use Rattle.std.proofs.lemmas.Nat.{div-mul-add, mod-mul-add, from_be_bytes-to_be_bytes_2}
use Rattle.dns_wire.specs.Wire.{Header, flag, flags_word, header_of, header_wire, header_in}

-- 1 for a flag that is set
abbrev worth : Bool → ℕ
worth b = if b then 1 else 0

worth_small : (b : Bool) → worth b < 2
worth_small true = omega arith
worth_small false = omega arith

worth_is : (b : Bool) → (worth b == 1) ≡ b
worth_is true = refl
worth_is false = refl

flag_is : (k : ℕ) (b : Bool) → flag k b ≡ worth b * 2 ^ k
flag_is k true = omega arith
flag_is k false = omega arith

-- the bit between what is above it and what is below
bit_between : (k high w low word : ℕ) → w < 2 → low < 2 ^ k → word ≡ (high * 2 + w) * 2 ^ k + low → bit_at word k ≡ w
bit_between k high w low word small below is =
    ap (λ x. x / 2 ^ k % 2) is ∙ ap (λ x. x % 2) (div-mul-add (high * 2 + w) (2 ^ k) low below) ∙ mod-mul-add high 2 w small

-- the bit k of the flags is that flag
flag_at : (k high low word : ℕ) (b : Bool) → low < 2 ^ k → word ≡ (high * 2 + worth b) * 2 ^ k + low → (bit_at word k == 1) ≡ b
flag_at k high low word b below is = ap (λ x. x == 1) (bit_between k high (worth b) low word (worth_small b) below is) ∙ worth_is b

-- the flags as numbers
abbrev word_of : ℕ → ℕ → ℕ → ℕ → ℕ → ℕ → ℕ → ℕ → ℕ → ℕ → ℕ
word_of qr opcode aa tc rd ra z ad cd rcode =
    qr * 2 ^ 15 + opcode * 2 ^ 11 + aa * 2 ^ 10 + tc * 2 ^ 9 + rd * 2 ^ 8 + ra * 2 ^ 7 + z * 2 ^ 6 + ad * 2 ^ 5 + cd * 2 ^ 4 + rcode

word_is : (h : Header) → flags_word h ≡ word_of (worth h.qr) h.opcode (worth h.aa) (worth h.tc) (worth h.rd) (worth h.ra) (worth h.z) (worth h.ad) (worth h.cd) h.rcode
word_is h =
    omega (arith, flag_is 15 h.qr, flag_is 10 h.aa, flag_is 9 h.tc, flag_is 8 h.rd, flag_is 7 h.ra, flag_is 6 h.z, flag_is 5 h.ad, flag_is 4 h.cd)

module _ (h : Header) (opcode : h.opcode < 16) (rcode : h.rcode < 16) where
  qr_read : (bit_at (flags_word h) 15 == 1) ≡ h.qr
  qr_read = flag_at 15 (0) (h.opcode * 2 ^ 11 + worth h.aa * 2 ^ 10 + worth h.tc * 2 ^ 9 + worth h.rd * 2 ^ 8 + worth h.ra * 2 ^ 7 + worth h.z * 2 ^ 6 + worth h.ad * 2 ^ 5 + worth h.cd * 2 ^ 4 + h.rcode) (flags_word h) h.qr (omega (arith, worth_small h.qr, worth_small h.aa, worth_small h.tc, worth_small h.rd, worth_small h.ra, worth_small h.z, worth_small h.ad, worth_small h.cd)) (omega (arith, word_is h))

  aa_read : (bit_at (flags_word h) 10 == 1) ≡ h.aa
  aa_read = flag_at 10 (worth h.qr * 2 ^ 4 + h.opcode) (worth h.tc * 2 ^ 9 + worth h.rd * 2 ^ 8 + worth h.ra * 2 ^ 7 + worth h.z * 2 ^ 6 + worth h.ad * 2 ^ 5 + worth h.cd * 2 ^ 4 + h.rcode) (flags_word h) h.aa (omega (arith, worth_small h.qr, worth_small h.aa, worth_small h.tc, worth_small h.rd, worth_small h.ra, worth_small h.z, worth_small h.ad, worth_small h.cd)) (omega (arith, word_is h))

  tc_read : (bit_at (flags_word h) 9 == 1) ≡ h.tc
  tc_read = flag_at 9 (worth h.qr * 2 ^ 5 + h.opcode * 2 ^ 1 + worth h.aa) (worth h.rd * 2 ^ 8 + worth h.ra * 2 ^ 7 + worth h.z * 2 ^ 6 + worth h.ad * 2 ^ 5 + worth h.cd * 2 ^ 4 + h.rcode) (flags_word h) h.tc (omega (arith, worth_small h.qr, worth_small h.aa, worth_small h.tc, worth_small h.rd, worth_small h.ra, worth_small h.z, worth_small h.ad, worth_small h.cd)) (omega (arith, word_is h))

  rd_read : (bit_at (flags_word h) 8 == 1) ≡ h.rd
  rd_read = flag_at 8 (worth h.qr * 2 ^ 6 + h.opcode * 2 ^ 2 + worth h.aa * 2 ^ 1 + worth h.tc) (worth h.ra * 2 ^ 7 + worth h.z * 2 ^ 6 + worth h.ad * 2 ^ 5 + worth h.cd * 2 ^ 4 + h.rcode) (flags_word h) h.rd (omega (arith, worth_small h.qr, worth_small h.aa, worth_small h.tc, worth_small h.rd, worth_small h.ra, worth_small h.z, worth_small h.ad, worth_small h.cd)) (omega (arith, word_is h))

  ra_read : (bit_at (flags_word h) 7 == 1) ≡ h.ra
  ra_read = flag_at 7 (worth h.qr * 2 ^ 7 + h.opcode * 2 ^ 3 + worth h.aa * 2 ^ 2 + worth h.tc * 2 ^ 1 + worth h.rd) (worth h.z * 2 ^ 6 + worth h.ad * 2 ^ 5 + worth h.cd * 2 ^ 4 + h.rcode) (flags_word h) h.ra (omega (arith, worth_small h.qr, worth_small h.aa, worth_small h.tc, worth_small h.rd, worth_small h.ra, worth_small h.z, worth_small h.ad, worth_small h.cd)) (omega (arith, word_is h))

  z_read : (bit_at (flags_word h) 6 == 1) ≡ h.z
  z_read = flag_at 6 (worth h.qr * 2 ^ 8 + h.opcode * 2 ^ 4 + worth h.aa * 2 ^ 3 + worth h.tc * 2 ^ 2 + worth h.rd * 2 ^ 1 + worth h.ra) (worth h.ad * 2 ^ 5 + worth h.cd * 2 ^ 4 + h.rcode) (flags_word h) h.z (omega (arith, worth_small h.qr, worth_small h.aa, worth_small h.tc, worth_small h.rd, worth_small h.ra, worth_small h.z, worth_small h.ad, worth_small h.cd)) (omega (arith, word_is h))

  ad_read : (bit_at (flags_word h) 5 == 1) ≡ h.ad
  ad_read = flag_at 5 (worth h.qr * 2 ^ 9 + h.opcode * 2 ^ 5 + worth h.aa * 2 ^ 4 + worth h.tc * 2 ^ 3 + worth h.rd * 2 ^ 2 + worth h.ra * 2 ^ 1 + worth h.z) (worth h.cd * 2 ^ 4 + h.rcode) (flags_word h) h.ad (omega (arith, worth_small h.qr, worth_small h.aa, worth_small h.tc, worth_small h.rd, worth_small h.ra, worth_small h.z, worth_small h.ad, worth_small h.cd)) (omega (arith, word_is h))

  cd_read : (bit_at (flags_word h) 4 == 1) ≡ h.cd
  cd_read = flag_at 4 (worth h.qr * 2 ^ 10 + h.opcode * 2 ^ 6 + worth h.aa * 2 ^ 5 + worth h.tc * 2 ^ 4 + worth h.rd * 2 ^ 3 + worth h.ra * 2 ^ 2 + worth h.z * 2 ^ 1 + worth h.ad) (h.rcode) (flags_word h) h.cd (omega (arith, worth_small h.qr, worth_small h.aa, worth_small h.tc, worth_small h.rd, worth_small h.ra, worth_small h.z, worth_small h.ad, worth_small h.cd)) (omega (arith, word_is h))

  opcode_read : flags_word h / 2 ^ 11 % 16 ≡ h.opcode
  opcode_read =
      let low = worth h.aa * 2 ^ 10 + worth h.tc * 2 ^ 9 + worth h.rd * 2 ^ 8 + worth h.ra * 2 ^ 7 + worth h.z * 2 ^ 6 + worth h.ad * 2 ^ 5 + worth h.cd * 2 ^ 4 + h.rcode in
      let below : low < 2 ^ 11 = omega (arith, worth_small h.qr, worth_small h.aa, worth_small h.tc, worth_small h.rd, worth_small h.ra, worth_small h.z, worth_small h.ad, worth_small h.cd) in
      let is : flags_word h ≡ (worth h.qr * 16 + h.opcode) * 2 ^ 11 + low = omega (arith, word_is h) in
      ap (λ x. x / 2 ^ 11 % 16) is ∙ ap (λ x. x % 16) (div-mul-add (worth h.qr * 16 + h.opcode) (2 ^ 11) low below) ∙ mod-mul-add (worth h.qr) 16 h.opcode opcode

  rcode_read : flags_word h % 16 ≡ h.rcode
  rcode_read =
      let high = worth h.qr * 2 ^ 11 + h.opcode * 2 ^ 7 + worth h.aa * 2 ^ 6 + worth h.tc * 2 ^ 5 + worth h.rd * 2 ^ 4 + worth h.ra * 2 ^ 3 + worth h.z * 2 ^ 2 + worth h.ad * 2 ^ 1 + worth h.cd in
      let is : flags_word h ≡ high * 16 + h.rcode = omega (arith, word_is h) in
      ap (λ x. x % 16) is ∙ mod-mul-add high 16 h.rcode rcode

  -- the flags fit two octets
  pub word_small : flags_word h < 2 ^ 16
  word_small = omega (arith, word_is h, worth_small h.qr, worth_small h.aa, worth_small h.tc, worth_small h.rd, worth_small h.ra, worth_small h.z, worth_small h.ad, worth_small h.cd)

  -- the header of an id and the flags
  pub header_of-flags_word : header_of h.id (flags_word h) ≡ h
  header_of-flags_word =
      rw (qr_read, opcode_read, aa_read, tc_read, rd_read, ra_read, z_read, ad_read, cd_read, rcode_read) refl

  -- the header of octets that begin with it
  pub header_in-header_wire : (after : List ℕ) → h.id < 2 ^ 16 → header_in (header_wire h ++ after) ≡ h
  header_in-header_wire after id =
      ap (λ n. header_of n (from_be_bytes w16 (to_be_bytes w16 (flags_word h)))) (from_be_bytes-to_be_bytes_2 h.id id)
      ∙ ap (λ n. header_of h.id n) (from_be_bytes-to_be_bytes_2 (flags_word h) word_small) ∙ header_of-flags_word
