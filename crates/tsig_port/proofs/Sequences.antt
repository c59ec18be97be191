-- Steps of a signed exchange.
use Rattle.std.proofs.Common.{◌≡◌, ℕ, Bool, true, false, List, [], ◌∷◌, ◌++◌, refl, sym, ap, ◌∙◌, subst, Option, Some, None}
use Rattle.std.specs.Prelude.{◌↔◌, IsTrue, map}
use Rattle.std.specs.List.{last_or}
use Rattle.std.specs.Option.{option_map_or}
use Rattle.std.proofs.lemmas.List.{map-append, drop-drop}
use Rattle.dns_name.specs.Names.{Name}
use Rattle.dns_wire.specs.Wire.{header_in, without_last_additional}
use Rattle.dns_wire.specs.Numbers.{with_number}
use Rattle.tsig_port.specs.Tsig.{TsigKey, Tsig, Signature, with_len, answer_input, tsig_by, mac_in, without_tsig, signature_of, digested_message}
use Rattle.tsig_port.specs.Tsig.Signature.{Malformed, Unsigned, Signed}
use Rattle.tsig_port.specs.HmacState.{HoldsHmac}
use Rattle.tsig_keys.specs.declared.digests.Hmac.{Hmac}
use Rattle.tsig_port.specs.declared.errors.ValidationError.{ValidationError}
use Rattle.tsig_port.specs.Checked.{prior_mac, signed_fault, unsigned_fault, answer_fault, fault_by, taken_message, taken_by}
use Rattle.tsig_port.specs.Signers.{behind_message}
use Rattle.tsig_port.specs.States.{digested_before, bare_fault}
use Rattle.tsig_port.proofs.Answering.{last_of-append}

-- the prior MAC after a message
some_prior : (m : List ℕ) (ms : List (List ℕ)) → (mac : List ℕ) × (prior_mac (m ∷ ms) ≡ Some mac)
some_prior m [] = (mac_in m, refl)
some_prior m (x ∷ ms) = some_prior x ms

pub prior_after : (taken : List (List ℕ)) (m : List ℕ) → prior_mac (taken ++ m ∷ []) ≡ Some (mac_in m)
prior_after taken m = ap (λ macs. last_or None macs) (map-append mac_in taken (m ∷ [])) ∙ last_of-append None (map mac_in taken) (mac_in m)

-- what was digested before an answer, its message and what follows that are what is digested for it
pub answer_taken : (first : Bool) (request_mac : List ℕ) (taken : List (List ℕ)) (message : List ℕ) (owner : Name) (t : Tsig) → (IsTrue first ↔ (taken ≡ []))
    → digested_before request_mac (prior_mac taken) ++ message ++ behind_message first owner t ≡ answer_input request_mac (prior_mac taken) message owner t
answer_taken true request_mac [] message owner t is = refl
answer_taken false request_mac [] message owner t is = absurd (cc (is.1 refl))
answer_taken true request_mac (m ∷ ms) message owner t is = absurd (cc (is.0 refl))
answer_taken false request_mac (m ∷ ms) message owner t is =
    let (mac, last) = some_prior m ms in
    rw last refl

-- the original id and ARCOUNT one less
pub taken_away : (m : List ℕ) (id : ℕ) → without_last_additional (with_number 0 m id) ≡ without_tsig id m
taken_away m id = rw (drop-drop 8 2 m, drop-drop 10 2 m) refl

-- ---- the client's step

-- the fault of a signed answer, from the state before it and what the MAC under way has taken
pub answer_judged : (key k : TsigKey) (request_mac : List ℕ) (now : ℕ) (taken : List (List ℕ)) (m r : List ℕ) (start : ℕ) (owner : Name) (t : Tsig)
    (rcode : ℕ) (context : Hmac) (first : Bool) (fault : Option ValidationError)
    → k ≡ key → r ≡ m → rcode ≡ (header_in r).rcode → signature_of r ≡ Signed start owner t
    → (IsTrue first ↔ (taken ≡ []))
    → HoldsHmac context key.algorithm key.secret (digested_before request_mac (prior_mac taken) ++ digested_message start t.original_id r ++ behind_message first owner t)
    → ((input : List ℕ) → HoldsHmac context k.algorithm k.secret input → fault ≡ signed_fault k now rcode input owner t)
    → answer_fault key request_mac now taken m ≡ fault
answer_judged key k request_mac now taken m r start owner t rcode context first fault same_key same_message same_rcode signed is holds judged =
    let input = answer_input request_mac (prior_mac taken) (digested_message start t.original_id r) owner t in
    let all : HoldsHmac context key.algorithm key.secret input =
    subst (λ (x : List ℕ). HoldsHmac context key.algorithm key.secret x) (answer_taken first request_mac taken (digested_message start t.original_id r) owner t is) holds in
    let by_key : HoldsHmac context k.algorithm k.secret input = subst (λ (x : TsigKey). HoldsHmac context x.algorithm x.secret input) (sym same_key) all in
    let found : fault ≡ signed_fault key now (header_in r).rcode input owner t =
    judged input by_key ∙ ap (λ (x : TsigKey). signed_fault x now rcode input owner t) same_key ∙ ap (λ (n : ℕ). signed_fault key now n input owner t) same_rcode in
    ap (λ (x : List ℕ). answer_fault key request_mac now taken x) (sym same_message)
    ∙ ap (λ (s : Signature). fault_by key request_mac now taken r s) signed
    ∙ sym found

-- a message that loses its TSIG
pub answer_loses : (m r : List ℕ) (start id : ℕ) (owner : Name) (t : Tsig) → r ≡ m → signature_of r ≡ Signed start owner t → id ≡ t.original_id
    → without_last_additional (with_number 0 m id) ≡ taken_message m
answer_loses m r start id owner t same signed is =
    let by_m : signature_of m ≡ Signed start owner t = subst (λ (x : List ℕ). signature_of x ≡ Signed start owner t) same signed in
    taken_away m id ∙ ap (λ (n : ℕ). without_tsig n m) is ∙ ap (λ (s : Signature). taken_by m s) (sym by_m)

-- the MAC that is under way after a signed answer
pub answer_chained : (key k : TsigKey) (context : Hmac) (request_mac : List ℕ) (taken : List (List ℕ)) (m r mac : List ℕ) (start : ℕ) (owner : Name) (t : Tsig)
    → k ≡ key → r ≡ m → signature_of r ≡ Signed start owner t → mac ≡ t.mac → HoldsHmac context k.algorithm k.secret (with_len mac)
    → HoldsHmac context key.algorithm key.secret (digested_before request_mac (prior_mac (taken ++ m ∷ [])))
answer_chained key k context request_mac taken m r mac start owner t same_key same signed is holds =
    let by_m : signature_of m ≡ Signed start owner t = subst (λ (x : List ℕ). signature_of x ≡ Signed start owner t) same signed in
    let its_mac : mac_in m ≡ mac = ap (λ (s : Signature). option_map_or (λ t. t.mac) (tsig_by s) []) by_m ∙ sym is in
    let prior : prior_mac (taken ++ m ∷ []) ≡ Some mac = prior_after taken m ∙ ap (λ (x : List ℕ). Some x) its_mac in
    let text : with_len mac ≡ digested_before request_mac (prior_mac (taken ++ m ∷ [])) = ap (λ (x : Option (List ℕ)). digested_before request_mac x) (sym prior) in
    subst (λ (x : List ℕ). HoldsHmac context key.algorithm key.secret x) text
    (subst (λ (x : TsigKey). HoldsHmac context x.algorithm x.secret (with_len mac)) same_key holds)

pub not_nothing : (taken : List (List ℕ)) (m : List ℕ) → (taken ++ m ∷ []) ≡ [] → false ≡ true
not_nothing [] m e = absurd (cc e)
not_nothing (x ∷ taken) m e = absurd (cc e)

-- ---- the client's step at an answer without a TSIG

-- the fault of one, from the state before it
bare_is : (taken : List (List ℕ)) (first : Bool) → (IsTrue first ↔ (taken ≡ [])) → bare_fault first Unsigned ≡ Some (unsigned_fault taken)
bare_is [] true is = refl
bare_is [] false is = absurd (cc (is.1 refl))
bare_is (x ∷ taken) true is = absurd (cc (is.0 refl))
bare_is (x ∷ taken) false is = refl

refused_by : (key : TsigKey) (request_mac : List ℕ) (now : ℕ) (taken : List (List ℕ)) (m : List ℕ) (s : Signature) (first : Bool) (e : ValidationError)
    → (IsTrue first ↔ (taken ≡ [])) → bare_fault first s ≡ Some e → fault_by key request_mac now taken m s ≡ Some e
refused_by key request_mac now taken m Malformed true e is fault = fault
refused_by key request_mac now taken m Malformed false e is fault = fault
refused_by key request_mac now taken m Unsigned first e is fault = sym (bare_is taken first is) ∙ fault
refused_by key request_mac now taken m (Signed start owner t) true e is fault = absurd (cc fault)
refused_by key request_mac now taken m (Signed start owner t) false e is fault = absurd (cc fault)

pub bare_refused : (key : TsigKey) (request_mac : List ℕ) (now : ℕ) (taken : List (List ℕ)) (m r : List ℕ) (first : Bool) (e : ValidationError)
    → r ≡ m → (IsTrue first ↔ (taken ≡ [])) → bare_fault first (signature_of r) ≡ Some e → answer_fault key request_mac now taken m ≡ Some e
bare_refused key request_mac now taken m r first e same is fault =
    ap (λ (x : List ℕ). answer_fault key request_mac now taken x) (sym same) ∙ refused_by key request_mac now taken r (signature_of r) first e is fault
