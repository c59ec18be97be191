-- What a zone cut answers.
use Rattle.std.proofs.Common.{◌≡◌, ℕ, ◌==◌, Bool, true, false, ◌&&◌, cond, refl, sym, ap, ◌∙◌, true≢false, Option, Some, None, is_some, unwrap_or}
use Rattle.std.specs.Prelude.{[]}
use Rattle.dns_name.specs.Names.{Name, fold, same_name}
use Rattle.dns_numbers.specs.Codes.{type_ns, type_ds}
use Rattle.zone_model.specs.Version.{RecordSet, Version, set_at, below_apex, is_cut}
use Rattle.zone_model.specs.Answer.{Answer, at_cut, set_or_no_data}
use Rattle.zone_model.specs.Answer.Answer.{Referral}

pub and_false : (b : Bool) → (b && false) ≡ false
and_false true = refl
and_false false = refl

pub cut_refers : (v : Version) (n : Name) (t : ℕ) (c : Name) (servers : RecordSet) (signer : Option RecordSet) → (same_name n c && (t == type_ds)) ≡ false
    → Some servers ≡ set_at v c type_ns → signer ≡ set_at v c type_ds → Referral (fold c) servers signer ≡ at_cut v n t c
cut_refers v n t c servers signer other s d =
    ap (λ x. Referral (fold c) (unwrap_or x (record { ttl = 0; items = [] })) signer) s
    ∙ ap (λ x. Referral (fold c) (unwrap_or (set_at v c type_ns) (record { ttl = 0; items = [] })) x) d
    ∙ ap (λ b. cond b (set_or_no_data type_ds (set_at v c type_ds)) (Referral (fold c) (unwrap_or (set_at v c type_ns) (record { ttl = 0; items = [] })) (set_at v c type_ds))) (sym other)

-- a cut has servers
pub no_servers : (v : Version) (c : Name) → is_cut v c ≡ true → None ≡ set_at v c type_ns → ⊥
no_servers v c h none = true≢false (sym h ∙ ap (λ o. below_apex v c && is_some o) (sym none) ∙ and_false (below_apex v c))
