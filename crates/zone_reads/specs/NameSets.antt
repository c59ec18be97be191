-- The sets of one name, types ascending, as they are told one after the other.
use Rattle.std.specs.Prelude.{ℕ, Bool, [], ◌∷◌, filter, Option, Some, None, bytes_eq}
use Rattle.std.specs.Cmp.Lexicographic.{pointwise}
use Rattle.std.specs.Ordering.{is_lt}
use Rattle.dns_name.specs.Names.{Name, fold}
use Rattle.zone_model.specs.Version.{RecordSet, Key, Sets, Version, key_cmp}
use Rattle.zone_model.specs.Answer.{sets_of}

-- whether an entry is a name's
abbrev pub is_own : Name → Key × RecordSet → Bool
is_own n e = pointwise bytes_eq e.0.0 (fold n)

-- the entries behind a key
abbrev pub behind : Key → Sets → Sets
behind k sets = filter (λ (e : Key × RecordSet). is_lt (key_cmp k e.0)) sets

-- the sets of a name that are left after one of a type, or all of them
abbrev pub left_of : Version → Name → Option ℕ → Sets
left_of v n None = sets_of v n
left_of v n (Some t) = filter (is_own n) (behind (fold n, t) v.sets)

abbrev pub first_type : Sets → Option ℕ
first_type [] = None
first_type (e ∷ es) = Some e.0.1
