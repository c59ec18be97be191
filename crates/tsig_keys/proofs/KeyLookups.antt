-- Keys that a store finds.
use Rattle.std.proofs.Common.{◌≡◌, Bool, true, List, [], ◌∷◌, refl, ap, ◌∙◌, Option}
use Rattle.std.specs.Prelude.{◌&&◌}
use Rattle.std.specs.Map.{lookup}
use Rattle.std.specs.Option.{option_and_then}
use Rattle.dns_name.specs.Names.{Name, fold, labels_eq, same_name}
use Rattle.tsig_keys.specs.contracts.algorithms.AlgorithmPartialEq.TheImpl as derived
use Rattle.tsig_keys.specs.TsigKeys.{TsigKey}
use Rattle.tsig_keys.specs.Keys.{own_key, map_key, same_algorithm}
use Rattle.tsig_keys.specs.declared.algorithms.Algorithm.{Algorithm}
use Rattle.tsig_keys.specs.declared.algorithms.Algorithm.TheVariants.{Sha1, Sha256, Sha384, Sha512}

-- `==` of two algorithms says whether they are one
alike : (a b : Algorithm) → derived.ghosts.eq a b ≡ same_algorithm a b
alike Sha1 Sha1 = refl
alike Sha1 Sha256 = refl
alike Sha1 Sha384 = refl
alike Sha1 Sha512 = refl
alike Sha256 Sha1 = refl
alike Sha256 Sha256 = refl
alike Sha256 Sha384 = refl
alike Sha256 Sha512 = refl
alike Sha384 Sha1 = refl
alike Sha384 Sha256 = refl
alike Sha384 Sha384 = refl
alike Sha384 Sha512 = refl
alike Sha512 Sha1 = refl
alike Sha512 Sha256 = refl
alike Sha512 Sha384 = refl
alike Sha512 Sha512 = refl

pub equal_algorithms : (a b : Algorithm) → derived.ghosts.eq a b ≡ true → a ≡ b
equal_algorithms Sha1 Sha1 e = refl
equal_algorithms Sha1 Sha256 e = absurd (cc e)
equal_algorithms Sha1 Sha384 e = absurd (cc e)
equal_algorithms Sha1 Sha512 e = absurd (cc e)
equal_algorithms Sha256 Sha1 e = absurd (cc e)
equal_algorithms Sha256 Sha256 e = refl
equal_algorithms Sha256 Sha384 e = absurd (cc e)
equal_algorithms Sha256 Sha512 e = absurd (cc e)
equal_algorithms Sha384 Sha1 e = absurd (cc e)
equal_algorithms Sha384 Sha256 e = absurd (cc e)
equal_algorithms Sha384 Sha384 e = refl
equal_algorithms Sha384 Sha512 e = absurd (cc e)
equal_algorithms Sha512 Sha1 e = absurd (cc e)
equal_algorithms Sha512 Sha256 e = absurd (cc e)
equal_algorithms Sha512 Sha384 e = absurd (cc e)
equal_algorithms Sha512 Sha512 e = refl

-- a look-up by two tests that agree
lookup_alike : {K X : Type 0} (f g : K → Bool) (es : List (K × X)) → ((k : K) → f k ≡ g k) → lookup f es ≡ lookup g es
lookup_alike f g [] same = refl
lookup_alike f g (e ∷ es) same = rw (same e.0, lookup_alike f g es same) refl

-- what a map's look-up finds, is what the store of the map finds where it has the asked name and algorithm itself
pub found_in_map : (given name : Name) (algorithm : Algorithm) (entries : List ((Name × Algorithm) × TsigKey)) (found : Option TsigKey)
    → given ≡ name → found ≡ lookup (λ k. same_name given k.0 && derived.ghosts.eq algorithm k.1) entries
    → option_and_then (λ key. own_key key (fold name) algorithm) found ≡ map_key entries (fold name) algorithm
found_in_map given name algorithm entries found same is =
    let test : Name × Algorithm → Bool = λ k. same_name given k.0 && derived.ghosts.eq algorithm k.1 in
    let asked : Name × Algorithm → Bool = λ k. labels_eq (fold name) (fold k.0) && same_algorithm algorithm k.1 in
    let agree : (k : Name × Algorithm) → test k ≡ asked k = λ k. rw (same, alike algorithm k.1) refl in
    ap (λ (o : Option TsigKey). option_and_then (λ key. own_key key (fold name) algorithm) o) (is ∙ lookup_alike test asked entries agree)
