-- Steps of the server's side of a signed exchange.
use Rattle.std.proofs.Common.{◌≡◌, ℕ, Bool, true, false, List, [], ◌∷◌, ◌++◌, refl, sym, ap, ◌∙◌, subst, Option, Some, None}
use Rattle.std.specs.Prelude.{◌↔◌, IsTrue}
use Rattle.std.specs.List.{last_or}
use Rattle.tsig_port.specs.Tsig.{TsigKey, Tsig, with_len, answer_tsig}
use Rattle.tsig_port.specs.HmacState.{HoldsHmac}
use Rattle.tsig_keys.specs.declared.digests.Hmac.{Hmac}
use Rattle.tsig_port.specs.Signers.{later_tsig}
use Rattle.tsig_port.specs.States.{digested_before}

-- the last of some items, and one after them
pub last_of-append : {A : Type 0} (o : Option A) (xs : List A) (x : A) → last_or o (xs ++ x ∷ []) ≡ Some x
last_of-append o [] x = refl
last_of-append o (y ∷ xs) x = last_of-append (Some y) xs x

pub not_none : {A : Type 0} (xs : List A) (x : A) → (xs ++ x ∷ []) ≡ [] → false ≡ true
not_none [] x e = absurd (cc e)
not_none (y ∷ xs) x e = absurd (cc e)

later_by : (key : TsigKey) (request_mac : List ℕ) (prior : List ℕ) (message : List ℕ) (now fudge : ℕ)
    → later_tsig key (digested_before request_mac (Some prior)) message now fudge ≡ answer_tsig key request_mac (Some prior) message now fudge
later_by key request_mac prior message now fudge = refl

some_last : {A : Type 0} (xs : List A) (x : A) → (y : A) × (last_or None (x ∷ xs) ≡ Some y)
some_last [] x = (x, refl)
some_last (z ∷ xs) x = some_last xs z

-- the TSIG of a later answer
pub later_is : (first : Bool) (key : TsigKey) (request_mac : List ℕ) (macs : List (List ℕ)) (message : List ℕ) (now fudge : ℕ) → first ≡ false
    → (IsTrue first ↔ (macs ≡ []))
    → later_tsig key (digested_before request_mac (last_or None macs)) message now fudge ≡ answer_tsig key request_mac (last_or None macs) message now fudge
later_is false key request_mac [] message now fudge e is = absurd (cc (is.1 refl))
later_is false key request_mac (m ∷ ms) message now fudge e is =
    let (prior, last) = some_last ms m in
    rw last (later_by key request_mac prior message now fudge)
later_is true key request_mac macs message now fudge e is = absurd (cc e)

-- the MAC under way after a signed answer
pub next_chained : (key k : TsigKey) (context : Hmac) (request_mac : List ℕ) (macs : List (List ℕ)) (mac : List ℕ) (made t : Tsig)
    → k ≡ key → mac ≡ made.mac → made ≡ t → HoldsHmac context k.algorithm k.secret (with_len mac)
    → HoldsHmac context key.algorithm key.secret (digested_before request_mac (last_or None (macs ++ t.mac ∷ [])))
next_chained key k context request_mac macs mac made t same_key read is holds =
    let same : mac ≡ t.mac = read ∙ ap (λ (x : Tsig). x.mac) is in
    let text : with_len mac ≡ digested_before request_mac (last_or None (macs ++ t.mac ∷ [])) =
    ap (λ (x : List ℕ). with_len x) same ∙ ap (λ (x : Option (List ℕ)). digested_before request_mac x) (sym (last_of-append None macs t.mac)) in
    subst (λ (x : List ℕ). HoldsHmac context key.algorithm key.secret x) text
    (subst (λ (x : TsigKey). HoldsHmac context x.algorithm x.secret (with_len mac)) same_key holds)
