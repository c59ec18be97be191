-- The keys that edits touched, and what that says of two versions.
use Rattle.std.specs.Prelude.{◌≡◌, ◌==◌, ◌&&◌, ◌||◌, Bool, true, false, not, List, filter, fold as fold_list, Option, option_map, IfSome, is_some}
use Rattle.std.specs.List.{list_any}
use Rattle.std.specs.BTreeSet.{insert_key}
use Rattle.std.specs.Map.{keys_of}
use Rattle.dns_name.specs.Names.{Name, under}
use Rattle.dns_numbers.specs.Codes.{type_ns, type_ds}
use Rattle.zone_model.specs.Version.{Key, Sets, Version, key_cmp, has_key, set_in, set_at, below_apex}
use Rattle.zone_versions.specs.Strays.{is_stray_at}

-- whether a key is among these
abbrev pub is_touched : List Key → Key → Bool
is_touched keys k = list_any (has_key k) keys

-- the keys with one more, at its place in the order
abbrev pub noted : List Key → Key → List Key
noted keys k = insert_key key_cmp keys k

-- .. with each of a list
abbrev pub noted_all : List Key → List Key → List Key
noted_all keys more = fold_list noted keys more

-- two maps have the same set, or both none, at each key that isn't among these
pub record Covers (keys : List Key) (a : Sets) (b : Sets) : Type 0 where
  pub same : (k : Key) → is_touched keys k ≡ false → set_in a k ≡ set_in b k

-- what was among the old keys is among the new ones
pub record Keeps (old : List Key) (new : List Key) : Type 0 where
  pub still : (k : Key) → is_touched old k ≡ true → is_touched new k ≡ true

-- .. and where no keys are kept, they may differ at any key
abbrev pub CoversIn : Option (List Key) → Sets → Sets → Type 0
CoversIn kept a b = IfSome kept (λ keys. Covers keys a b)

-- the kept keys with one more, or with each of a list
abbrev pub noted_in : Option (List Key) → Key → Option (List Key)
noted_in kept k = option_map (λ keys. noted keys k) kept

abbrev pub noted_all_in : Option (List Key) → List Key → Option (List Key)
noted_all_in kept more = option_map (λ keys. noted_all keys more) kept

-- the keys of a version's sets at a name and below it
abbrev pub keys_below : Version → Name → List Key
keys_below v n = filter (λ (k : Key). under k.0 n) (keys_of v.sets)

-- the keys of the sets that a commit leaves out (RFC 4035, 2.4)
abbrev pub stray_keys : Version → List Key
stray_keys v = filter (is_stray_at v) (keys_of v.sets)

-- whether a DS set stands without NS at the owner of a key of either type, below the apex
abbrev pub is_stray_beside : Version → Key → Bool
is_stray_beside v k = ((k.1 == type_ns) || (k.1 == type_ds)) && (below_apex v k.0 && is_some (set_at v k.0 type_ds) && not (is_some (set_at v k.0 type_ns)))
