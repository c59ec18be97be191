-- Answers that are taken one by one, each judged after those before it (RFC 8945, 5.3.1 and 5.4).
use Rattle.std.specs.Prelude.{◌≡◌, ◌↔◌, ℕ, List, [], ◌∷◌, ◌++◌, Some, None}
use Rattle.tsig_port.specs.Tsig.{TsigKey, mac_in}
use Rattle.tsig_port.specs.Checked.{answer_fault, passing, first_fault, checked, check_fault}
use Rattle.tsig_port.specs.declared.errors.ValidationError.{ValidationError}

-- each of the answers passes every test after those before it
abbrev pub EachPasses : TsigKey → List ℕ → ℕ → List (List ℕ) → Type 0
EachPasses key request_mac now taken = (before after : List (List ℕ)) (message : List ℕ) → taken ≡ before ++ message ∷ after
    → answer_fault key request_mac now before message ≡ None

-- so do no answers, and one more that passes after them
abbrev pub PassesOneMore : Type 0
PassesOneMore = (key : TsigKey) (request_mac : List ℕ) (now : ℕ) (taken : List (List ℕ)) (message : List ℕ) → EachPasses key request_mac now taken
    → answer_fault key request_mac now taken message ≡ None → EachPasses key request_mac now (taken ++ message ∷ [])

-- such answers are checked, and no others
abbrev pub EachIsChecked : Type 0
EachIsChecked = (key : TsigKey) (request : List ℕ) (now : ℕ) (taken : List (List ℕ))
    → EachPasses key (mac_in request) now taken ↔ (checked key request now taken ≡ taken)

-- such answers are without a fault, and no others
abbrev pub EachIsFaultless : Type 0
EachIsFaultless = (key : TsigKey) (request : List ℕ) (now : ℕ) (taken : List (List ℕ))
    → EachPasses key (mac_in request) now taken ↔ (check_fault key request now taken ≡ None)

-- the fault of the first answer that is refused is the fault, whatever follows
abbrev pub RefusalIsTheFault : Type 0
RefusalIsTheFault = (key : TsigKey) (request : List ℕ) (now : ℕ) (taken more : List (List ℕ)) (message : List ℕ) (e : ValidationError)
    → EachPasses key (mac_in request) now taken → answer_fault key (mac_in request) now taken message ≡ Some e
    → check_fault key request now (taken ++ message ∷ more) ≡ Some e

-- and those before it are all that is checked
abbrev pub RefusalEndsTheChecked : Type 0
RefusalEndsTheChecked = (key : TsigKey) (request : List ℕ) (now : ℕ) (taken more : List (List ℕ)) (message : List ℕ) (e : ValidationError)
    → EachPasses key (mac_in request) now taken → answer_fault key (mac_in request) now taken message ≡ Some e
    → checked key request now (taken ++ message ∷ more) ≡ taken

-- a fault is that of the answer after the checked ones
abbrev pub FaultIsARefusal : Type 0
FaultIsARefusal = (key : TsigKey) (request : List ℕ) (now : ℕ) (answers : List (List ℕ)) (e : ValidationError) → check_fault key request now answers ≡ Some e
    → (message : List ℕ) × ((more : List (List ℕ)) × ((answers ≡ checked key request now answers ++ message ∷ more)
    × (answer_fault key (mac_in request) now (checked key request now answers) message ≡ Some e)))

-- checked answers stay checked where more follow, which are judged after them
abbrev pub PrefixStays : Type 0
PrefixStays = (key : TsigKey) (request : List ℕ) (now : ℕ) (taken more : List (List ℕ)) → EachPasses key (mac_in request) now taken
    → checked key request now (taken ++ more) ≡ taken ++ passing (answer_fault key (mac_in request) now) taken more

-- and the fault is that of those which follow
abbrev pub PrefixIsFaultless : Type 0
PrefixIsFaultless = (key : TsigKey) (request : List ℕ) (now : ℕ) (taken more : List (List ℕ)) → EachPasses key (mac_in request) now taken
    → check_fault key request now (taken ++ more) ≡ first_fault (answer_fault key (mac_in request) now) taken more

-- what is checked of any answers passes one by one
abbrev pub CheckedPasses : Type 0
CheckedPasses = (key : TsigKey) (request : List ℕ) (now : ℕ) (answers : List (List ℕ)) → EachPasses key (mac_in request) now (checked key request now answers)
