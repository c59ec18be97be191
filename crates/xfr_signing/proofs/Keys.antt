-- The key that accepted a request.
use Rattle.std.proofs.Common.{◌≡◌, ℕ, Bool, true, false, cond, not, List, length, Option, Some, None, refl, sym, ap, ◌∙◌}
use Rattle.std.specs.Prelude.{◌&&◌, nat_lt}
use Rattle.std.specs.Map.{lookup}
use Rattle.std.specs.Option.{option_and_then}
use Rattle.std.specs.Cmp.Lexicographic.{pointwise_decides, bytes_decides}
use Rattle.dns_numbers.specs.Codes.{badtrunc, badsig}
use Rattle.dns_name.specs.Names.{Name, fold, labels_eq}
use Rattle.tsig_keys.specs.Keys.{HasNameAnd, own_key, same_algorithm}
use Rattle.tsig_keys.specs.declared.algorithms.Algorithm.{Algorithm}
use Rattle.tsig_keys.specs.declared.algorithms.Algorithm.TheVariants.{Sha1, Sha256, Sha384, Sha512}
use Rattle.tsig_port.specs.Tsig.{TsigKey, Tsig, Signature, signature_of, algorithm_of, digested_message, request_input, is_mac, within_fudge}
use Rattle.tsig_port.specs.Tsig.Signature.{Malformed, Unsigned, Signed}
use Rattle.tsig_port.specs.ServerCheck.{Keys, verdict_on, judged_by, key_for}
use Rattle.tsig_port.specs.ServerCheck.Verdict.{Accepted, Refused, BadTime}
use Rattle.xfr_signing.specs.SignedServing.{AreNamed, KeysGoOn, StoresAreNamed}

accepted_by : (short other late : Bool) (k key : TsigKey) → cond short (Refused badtrunc) (cond other (Refused badsig) (cond late (BadTime k) (Accepted k))) ≡ Accepted key → k ≡ key
accepted_by true other late k key e = cc
accepted_by false true late k key e = cc
accepted_by false false true k key e = cc
accepted_by false false false k key e = cc

judged : (now : ℕ) (message : List ℕ) (start : ℕ) (owner : Name) (t : Tsig) (found : Option TsigKey) (key : TsigKey) → judged_by now message start owner t found ≡ Accepted key → found ≡ Some key
judged now message start owner t None key e = cc
judged now message start owner t (Some k) key e =
    ap (λ x. Some x) (accepted_by (nat_lt (length t.mac) k.min_mac_len) (not (is_mac k (request_input (digested_message start t.original_id message) owner t) t.mac)) (not (within_fudge t now)) k key e)

found_named : (keys : Keys) → AreNamed keys → (owner : Name) (algorithm : Option Algorithm) (key : TsigKey) → key_for keys owner algorithm ≡ Some key → keys (fold key.name) key.algorithm ≡ Some key
found_named keys named owner None key e = cc
found_named keys named owner (Some algorithm) key e =
    let has = named (fold owner) algorithm key e in
    ap (λ n. keys n key.algorithm) has.0 ∙ ap (keys (fold owner)) has.1 ∙ e

known_by : (keys : Keys) → AreNamed keys → (now : ℕ) (message : List ℕ) (signature : Signature) (key : TsigKey) → verdict_on keys now message signature ≡ Accepted key → keys (fold key.name) key.algorithm ≡ Some key
known_by keys named now message Malformed key e = cc
known_by keys named now message Unsigned key e = cc
known_by keys named now message (Signed start owner t) key e =
    found_named keys named owner (algorithm_of t.algorithm) key (judged now message start owner t (key_for keys owner (algorithm_of t.algorithm)) key e)

pub keys_go_on : {K : Type 0} (the_key : K → TsigKey) (keys : Keys) → KeysGoOn the_key keys
keys_go_on the_key keys named now message key known accepted is = is ∙ known_by keys named now message (signature_of message) key accepted

-- ---- the stores

same_is : (a b : Algorithm) → same_algorithm a b ≡ true → a ≡ b
same_is Sha1 Sha1 e = refl
same_is Sha1 Sha256 e = cc
same_is Sha1 Sha384 e = cc
same_is Sha1 Sha512 e = cc
same_is Sha256 Sha1 e = cc
same_is Sha256 Sha256 e = refl
same_is Sha256 Sha384 e = cc
same_is Sha256 Sha512 e = cc
same_is Sha384 Sha1 e = cc
same_is Sha384 Sha256 e = cc
same_is Sha384 Sha384 e = refl
same_is Sha384 Sha512 e = cc
same_is Sha512 Sha1 e = cc
same_is Sha512 Sha256 e = cc
same_is Sha512 Sha384 e = cc
same_is Sha512 Sha512 e = refl

own_by : (key : TsigKey) (name : Name) (algorithm : Algorithm) (found : TsigKey) (one same : Bool) → same_algorithm algorithm key.algorithm ≡ one → labels_eq name (fold key.name) ≡ same
    → cond (one && same) (Some key) None ≡ Some found → HasNameAnd found name algorithm
own_by key name algorithm found true true one same e =
    let is : key ≡ found = cc in (
      ap (λ k. fold k.name) (sym is) ∙ sym ((pointwise_decides bytes_decides name (fold key.name)).0 same),
      ap (λ k. k.algorithm) (sym is) ∙ sym (same_is algorithm key.algorithm one),
    )
own_by key name algorithm found true false one same e = cc
own_by key name algorithm found false same one alike e = cc

own_named : (key : TsigKey) → AreNamed (own_key key)
own_named key name algorithm found e = own_by key name algorithm found (same_algorithm algorithm key.algorithm) (labels_eq name (fold key.name)) refl refl e

map_by : (name : Name) (algorithm : Algorithm) (kept : Option TsigKey) (found : TsigKey) → option_and_then (λ key. own_key key name algorithm) kept ≡ Some found → HasNameAnd found name algorithm
map_by name algorithm None found e = cc
map_by name algorithm (Some key) found e = own_named key name algorithm found e

pub stores_are_named : StoresAreNamed
stores_are_named = (own_named, λ entries name algorithm found e. map_by name algorithm (lookup (λ k. labels_eq name (fold k.0) && same_algorithm algorithm k.1) entries) found e)
