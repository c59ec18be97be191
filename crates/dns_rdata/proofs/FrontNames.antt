-- Octets that begin with a name as it is sent, label by label.
use Rattle.std.proofs.Common.{◌≡◌, ℕ, List, [], ◌∷◌, ◌++◌, Option, None, Some, sym, ap, ◌∙◌, flat_map, MatchOption}
use Rattle.std.proofs.lemmas.List.{append_assoc, append_cancel_left}
use Rattle.dns_name.specs.Names.{Name, label_wire, name_wire}
use Rattle.dns_rdata.proofs.Fronts.{BeginsNot}

-- what is left of the octets begins with the labels left exactly where the octets begin with the name, and the same stands after them
abbrev pub Leaves : List ℕ → Name → List ℕ → Name → Type 0
Leaves octets name rest labels = (r : List ℕ) → (octets ≡ name_wire name ++ r → rest ≡ name_wire labels ++ r) × (rest ≡ name_wire labels ++ r → octets ≡ name_wire name ++ r)

pub at_first : (octets : List ℕ) (name : Name) → Leaves octets name octets name
at_first octets name r = (λ e. e, λ e. e)

first_apart : (l : List ℕ) (ls : Name) (r : List ℕ) → name_wire (l ∷ ls) ++ r ≡ label_wire l ++ (name_wire ls ++ r)
first_apart l ls r =
    ap (λ x. x ++ r) (append_assoc (label_wire l) (flat_map label_wire ls) (0 ∷ []))
    ∙ append_assoc (label_wire l) (name_wire ls) r

-- one label more
pub behind_label : (octets : List ℕ) (name : Name) (rest : List ℕ) (l : List ℕ) (ls : Name) (after : List ℕ)
    → Leaves octets name rest (l ∷ ls) → rest ≡ label_wire l ++ after → Leaves octets name after ls
behind_label octets name rest l ls after h e r = (
  λ f. append_cancel_left (label_wire l) after (name_wire ls ++ r) (sym e ∙ (h r).0 f ∙ first_apart l ls r),
  λ f. (h r).1 (e ∙ ap (λ x. label_wire l ++ x) f ∙ sym (first_apart l ls r)),
)

-- the next label isn't there
pub label_absent : (octets : List ℕ) (name : Name) (rest : List ℕ) (l : List ℕ) (ls : Name)
    → Leaves octets name rest (l ∷ ls) → BeginsNot (label_wire l) rest → BeginsNot (name_wire name) octets
label_absent octets name rest l ls h absent r e = absent (name_wire ls ++ r) ((h r).0 e ∙ first_apart l ls r)

-- behind the last label stands the root exactly where the name stands at the beginning
pub with_root : {T : Type 0} (now : T → List ℕ) (octets : List ℕ) (name : Name) (rest : List ℕ) (o : Option T) → Leaves octets name rest []
    → MatchOption o ((r : List ℕ) → rest ≡ (0 ∷ []) ++ r → ⊥) (λ t. rest ≡ (0 ∷ []) ++ now t)
    → MatchOption o ((r : List ℕ) → octets ≡ name_wire name ++ r → ⊥) (λ t. octets ≡ name_wire name ++ now t)
with_root now octets name rest None h found = λ r e. found r ((h r).0 e)
with_root now octets name rest (Some t) h found = (h (now t)).1 found
