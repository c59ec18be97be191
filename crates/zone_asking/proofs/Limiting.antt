-- What is left of limits, message by message.
use Rattle.std.proofs.Common.{◌≡◌, ℕ, ◌+◌, ◌≤◌, Bool, true, false, nat_lt, ltb-true, ltb-false, if◌then◌else◌, List, [], ◌∷◌, ◌++◌, length, length-append, sum_by, refl, sym, ap, ◌∙◌, arith, Option, Some, None}
use Rattle.std.proofs.lemmas.List.Sums.{sum_by_push}
use Rattle.zone_asking.specs.declared.limits.Limits.{Limits}
use Rattle.zone_asking.specs.declared.limits.Limit.{Limit}
use Rattle.zone_asking.specs.declared.limits.Limit.TheVariants.{Replies, Octets, Records}
use Rattle.zone_asking.specs.Limiting.{octets_of, records_in, records_of, Within, passed, IsLeft}

pub none_read : (limits : Limits) → IsLeft limits [] limits
none_read limits = record { replies = omega arith; octets = omega arith; records = omega arith }

one_behind : (a b c d x y z : ℕ) → x ≡ a + b → a + c ≡ z → y + d ≡ c → y ≡ b → x + d ≡ z
one_behind a b c d x y z e f g h = omega (arith, e, f, g, h)

pub left_behind : (limits left rest : Limits) (read : List (List ℕ)) (m : List ℕ) → IsLeft limits read left → IsLeft left (m ∷ []) rest → IsLeft limits (read ++ m ∷ []) rest
left_behind limits left rest read m k one = record {
  replies = one_behind (length read) 1 left.replies rest.replies (length (read ++ m ∷ [])) (length (m ∷ [])) limits.replies (length-append read (m ∷ [])) k.replies one.replies refl;
  octets = one_behind (octets_of read) (length m) left.octets rest.octets (octets_of (read ++ m ∷ [])) (octets_of (m ∷ [])) limits.octets (sum_by_push length read m) k.octets one.octets (omega arith);
  records = one_behind (records_of read) (records_in m) left.records rest.records (records_of (read ++ m ∷ [])) (records_of (m ∷ [])) limits.records (sum_by_push records_in read m) k.records one.records (omega arith);
}

pub within : (limits left : Limits) (read : List (List ℕ)) → IsLeft limits read left → Within limits read
within limits left read k = record { replies = omega (arith, k.replies); octets = omega (arith, k.octets); records = omega (arith, k.records) }

-- what passes what is left passes the limits
same_test : (n a x : ℕ) → nat_lt (n + a) (n + x) ≡ nat_lt a x
same_test n a x = by (nat_lt (n + a) (n + x)) (nat_lt a x) refl refl
  where
    by : (b c : Bool) → nat_lt (n + a) (n + x) ≡ b → nat_lt a x ≡ c → b ≡ c
    by true true h k = refl
    by false false h k = refl
    by true false h k = absurd (omega (arith, ltb-true (n + a) (n + x) h, ltb-false a x k))
    by false true h k = absurd (omega (arith, ltb-false (n + a) (n + x) h, ltb-true a x k))

test_left : (n a l x y : ℕ) → n + a ≡ l → y ≡ x → nat_lt l (n + x) ≡ nat_lt a y
test_left n a l x y e h = ap (λ k. nat_lt k (n + x)) (sym e) ∙ same_test n a x ∙ ap (nat_lt a) (sym h)

pub passed_left : (limits left : Limits) (read : List (List ℕ)) (m : List ℕ) → IsLeft limits read left → passed limits read m ≡ passed left [] m
passed_left limits left read m k =
    let replies = test_left (length read) left.replies limits.replies 1 (length {A = List ℕ} [] + 1) k.replies (omega arith) in
    let octets = test_left (octets_of read) left.octets limits.octets (length m) (octets_of [] + length m) k.octets (omega arith) in
    let records = test_left (records_of read) left.records limits.records (records_in m) (records_of [] + records_in m) k.records (omega arith) in
    λ i. if replies i then Some Replies else if octets i then Some Octets else if records i then Some Records else None

-- ---- a limit is passed exactly where the messages aren't within the limits

-- how the three tests come out
abbrev chosen : Bool → Bool → Bool → Option Limit
chosen r o q = if r then Some Replies else if o then Some Octets else if q then Some Records else None

one_more : (before : List (List ℕ)) (m : List ℕ) → (length (before ++ m ∷ []) ≡ length before + 1) × (octets_of (before ++ m ∷ []) ≡ octets_of before + length m) × (records_of (before ++ m ∷ []) ≡ records_of before + records_in m)
one_more before m = (length-append before (m ∷ []), sum_by_push length before m, sum_by_push records_in before m)

pub none_passed : (limits : Limits) (before : List (List ℕ)) (m : List ℕ) → passed limits before m ≡ None → Within limits (before ++ m ∷ [])
none_passed limits before m e =
    by (nat_lt limits.replies (length before + 1)) (nat_lt limits.octets (octets_of before + length m)) (nat_lt limits.records (records_of before + records_in m)) refl refl refl e
  where
    sums : (length (before ++ m ∷ []) ≡ length before + 1) × (octets_of (before ++ m ∷ []) ≡ octets_of before + length m) × (records_of (before ++ m ∷ []) ≡ records_of before + records_in m)
    sums = one_more before m

    by : (r o q : Bool) → nat_lt limits.replies (length before + 1) ≡ r → nat_lt limits.octets (octets_of before + length m) ≡ o → nat_lt limits.records (records_of before + records_in m) ≡ q → chosen r o q ≡ None → Within limits (before ++ m ∷ [])
    by true o q h k l e = absurd (cc e)
    by false true q h k l e = absurd (cc e)
    by false false true h k l e = absurd (cc e)
    by false false false h k l e = record {
      replies = omega (arith, sums.0, ltb-false limits.replies (length before + 1) h);
      octets = omega (arith, sums.1, ltb-false limits.octets (octets_of before + length m) k);
      records = omega (arith, sums.2, ltb-false limits.records (records_of before + records_in m) l);
    }

pub some_passed : (limits : Limits) (before : List (List ℕ)) (m : List ℕ) (which : Limit) → passed limits before m ≡ Some which → Within limits (before ++ m ∷ []) → ⊥
some_passed limits before m which e w =
    by (nat_lt limits.replies (length before + 1)) (nat_lt limits.octets (octets_of before + length m)) (nat_lt limits.records (records_of before + records_in m)) refl refl refl e
  where
    sums : (length (before ++ m ∷ []) ≡ length before + 1) × (octets_of (before ++ m ∷ []) ≡ octets_of before + length m) × (records_of (before ++ m ∷ []) ≡ records_of before + records_in m)
    sums = one_more before m

    by : (r o q : Bool) → nat_lt limits.replies (length before + 1) ≡ r → nat_lt limits.octets (octets_of before + length m) ≡ o → nat_lt limits.records (records_of before + records_in m) ≡ q → chosen r o q ≡ Some which → ⊥
    by true o q h k l e = omega (arith, sums.0, w.replies, ltb-true limits.replies (length before + 1) h)
    by false true q h k l e = omega (arith, sums.1, w.octets, ltb-true limits.octets (octets_of before + length m) k)
    by false false true h k l e = omega (arith, sums.2, w.records, ltb-true limits.records (records_of before + records_in m) l)
    by false false false h k l e = cc e
