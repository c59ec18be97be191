-- Sections as joined lists.
use Rattle.std.proofs.Common.{◌≡◌, Bool, true, false, cond, List, [], ◌∷◌, ◌++◌, refl, sym, ap, ◌∙◌}
use Rattle.std.specs.Prelude.{flat_map}
use Rattle.dns_name.specs.Names.{under}
use Rattle.dns_numbers.specs.Codes.{type_a, type_aaaa}
use Rattle.dns_rdata.specs.Records.{Field, Octets, DomainName, Record}
use Rattle.zone_model.specs.Version.{Version}
use Rattle.zone_model.specs.Answer.{addresses_of}
use Rattle.zone_reads.specs.Glue.{addresses_at, sole_name}

pub append_none : {A : Type 0} (xs : List A) → xs ++ [] ≡ xs
append_none {A} [] = refl
append_none {A} (x ∷ xs) = ap (λ ys. x ∷ ys) (append_none xs)

-- where nothing is left of both sets, what is left are the records of the servers
pub loaded : {A B : Type 0} (f : B → List A) (first second x y whole : List A) (server : B) (servers behind : List B) → first ≡ [] → second ≡ [] → servers ≡ server ∷ behind
    → x ++ y ≡ f server → (first ++ second) ++ flat_map f servers ≡ whole → (x ++ y) ++ flat_map f behind ≡ whole
loaded {A} {B} f first second x y whole server servers behind none_first none_second split more left =
    ap (λ z. z ++ flat_map f behind) more
    ∙ sym (ap (flat_map f) split) ∙ sym (ap (λ z. (z ++ second) ++ flat_map f servers) none_first ∙ ap (λ z. ([] ++ z) ++ flat_map f servers) none_second) ∙ left

both : (b : Bool) (xs ys : List Record) → cond b (xs ++ ys) [] ≡ cond b xs [] ++ cond b ys []
both true xs ys = refl
both false xs ys = refl

-- the addresses of a server are its A and then its AAAA records
pub addresses_are : (v : Version) (fields : List Field) → addresses_at v type_a (sole_name fields) ++ addresses_at v type_aaaa (sole_name fields) ≡ addresses_of v fields
addresses_are v [] = refl
addresses_are v (Octets octets ∷ rest) = refl
addresses_are v (DomainName n ∷ []) = sym (both (under n v.apex) _ _)
addresses_are v (DomainName n ∷ (f ∷ rest)) = refl
