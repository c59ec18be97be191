-- Equality, order and hash of TSIG data, the algorithm's name ASCII case aside (RFC 8945, 4.2), and their laws.
use Rattle.std.specs.Prelude.{◌≡◌, ◌==◌, ◌&&◌, Bool, [], ◌∷◌, ◌++◌, fold, nat_eq, IsTrue, Some, refl}
use Rattle.std.specs.Str.{bytes_eq}
use Rattle.std.specs.Ordering.{nat_cmp, ordering_then, eq_by_cmp}
use Rattle.std.specs.declared.cmp.Ordering.{Ordering}
use Rattle.std.specs.declared.cmp.Ordering.TheVariants.{Equal}
use Rattle.std.specs.Hash.{HashWrites, slice, u8, u16, u64, Alike, same_Alike, on_Alike, and-Alike}
use Rattle.std.specs.Cmp.{IsTotalOrder, IsEquivalence, IsPartialEquivalence, IsPartialOrder, on_total, then_total, both_tied, on_equiv, and_equiv, nat_eq_equiv, nat_cmp_total, unsigned_ties, unsigned_Decides, partial_equiv_from_equiv, partial_order_from_agreeing_total}
use Rattle.std.specs.Cmp.Lexicographic.{slice_cmp, texts_ties, bytes_decides, nat_list_cmp_total, nat_list_eq_equiv}
use Rattle.dns_name.specs.Names.{same_name, canonical_cmp}
use Rattle.dns_name.specs.NameOrder.{same_name_equiv, canonical_total, canonical_ties, name_hash, same_hash}
use Rattle.tsig_rdata.specs.TsigData.{Tsig}

-- the algorithms' names are equal ASCII case aside, all else as it is (RFC 8945, 4.2; RFC 4343, 3)
abbrev pub same_tsig : Tsig → Tsig → Bool
same_tsig a b = same_name a.algorithm b.algorithm && a.time_signed == b.time_signed && a.fudge == b.fudge && bytes_eq a.mac b.mac
    && a.original_id == b.original_id && a.error == b.error && bytes_eq a.other b.other

-- field by field as they are sent: names in canonical order (RFC 4034, 6.1), numbers, octets as strings (RFC 8945, 4.2). This order, whose
-- ties are equal data, is the crate's own, and not that of RFC 4034, 6.3
abbrev pub tsig_cmp : Tsig → Tsig → Ordering
tsig_cmp a b = fold ordering_then Equal (
    canonical_cmp a.algorithm b.algorithm ∷ nat_cmp a.time_signed b.time_signed ∷ nat_cmp a.fudge b.fudge ∷ slice_cmp nat_cmp a.mac b.mac
    ∷ nat_cmp a.original_id b.original_id ∷ nat_cmp a.error b.error ∷ slice_cmp nat_cmp a.other b.other ∷ [])

-- what the data give to a hash: each field, the name in lower case (RFC 8945, 4.2)
abbrev pub tsig_hash : Tsig → HashWrites
tsig_hash t = name_hash t.algorithm ++ u64 t.time_signed ++ u16 t.fudge ++ slice u8 t.mac ++ u16 t.original_id ++ u16 t.error
    ++ slice u8 t.other

-- ---- laws

pub same_tsig_equiv : IsEquivalence same_tsig
same_tsig_equiv =
    and_equiv (and_equiv (and_equiv (and_equiv (and_equiv (and_equiv (on_equiv (λ (t : Tsig). t.algorithm) same_name_equiv)
    (on_equiv (λ (t : Tsig). t.time_signed) nat_eq_equiv))
    (on_equiv (λ (t : Tsig). t.fudge) nat_eq_equiv))
    (on_equiv (λ (t : Tsig). t.mac) nat_list_eq_equiv))
    (on_equiv (λ (t : Tsig). t.original_id) nat_eq_equiv))
    (on_equiv (λ (t : Tsig). t.error) nat_eq_equiv))
    (on_equiv (λ (t : Tsig). t.other) nat_list_eq_equiv)

pub same_tsig_partial : IsPartialEquivalence same_tsig
same_tsig_partial = partial_equiv_from_equiv same_tsig_equiv

pub tsig_total : IsTotalOrder tsig_cmp
tsig_total =
    then_total (then_total (then_total (then_total (then_total (then_total (on_total (λ (t : Tsig). t.algorithm) canonical_total)
    (on_total (λ (t : Tsig). t.time_signed) nat_cmp_total))
    (on_total (λ (t : Tsig). t.fudge) nat_cmp_total))
    (on_total (λ (t : Tsig). t.mac) nat_list_cmp_total))
    (on_total (λ (t : Tsig). t.original_id) nat_cmp_total))
    (on_total (λ (t : Tsig). t.error) nat_cmp_total))
    (on_total (λ (t : Tsig). t.other) nat_list_cmp_total)

pub tsig_ties : (a b : Tsig) → same_tsig a b ≡ eq_by_cmp tsig_cmp a b
tsig_ties a b =
    both_tied _ _ _ _ (both_tied _ _ _ _ (both_tied _ _ _ _ (both_tied _ _ _ _ (both_tied _ _ _ _ (both_tied _ _ _ _ (canonical_ties a.algorithm b.algorithm)
    (unsigned_ties a.time_signed b.time_signed))
    (unsigned_ties a.fudge b.fudge))
    (texts_ties a.mac b.mac))
    (unsigned_ties a.original_id b.original_id))
    (unsigned_ties a.error b.error))
    (texts_ties a.other b.other)

pub tsig_partial_order : IsPartialOrder same_tsig (λ a b. Some (tsig_cmp a b))
tsig_partial_order = partial_order_from_agreeing_total tsig_cmp tsig_total (λ a b. refl) tsig_ties

numbers_alike : Alike nat_eq u64
numbers_alike = same_Alike u64 unsigned_Decides

shorts_alike : Alike nat_eq u16
shorts_alike = same_Alike u16 unsigned_Decides

octets_alike : Alike bytes_eq (slice u8)
octets_alike = same_Alike (slice u8) bytes_decides

names_alike : Alike same_name name_hash
names_alike = record { fed = same_hash }

tsigs_alike : Alike same_tsig tsig_hash
tsigs_alike =
    and-Alike (and-Alike (and-Alike (and-Alike (and-Alike (and-Alike (on_Alike (λ (t : Tsig). t.algorithm) names_alike)
    (on_Alike (λ (t : Tsig). t.time_signed) numbers_alike))
    (on_Alike (λ (t : Tsig). t.fudge) shorts_alike))
    (on_Alike (λ (t : Tsig). t.mac) octets_alike))
    (on_Alike (λ (t : Tsig). t.original_id) shorts_alike))
    (on_Alike (λ (t : Tsig). t.error) shorts_alike))
    (on_Alike (λ (t : Tsig). t.other) octets_alike)

pub same_tsig_hash : (a b : Tsig) → IsTrue (same_tsig a b) → tsig_hash a ≡ tsig_hash b
same_tsig_hash = tsigs_alike.fed
