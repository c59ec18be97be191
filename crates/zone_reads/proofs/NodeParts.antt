-- The nodes below a name, and what a name is by its sets.
use Rattle.std.proofs.Common.{◌≡◌, ℕ, ◌≤◌, ◌==◌, Bool, true, false, ◌&&◌, if◌then◌else◌, List, [], ◌∷◌, length, refl, sym, ap, ◌∙◌, true≢false, Option, Some, None, option_map, is_some, unwrap_or, IsTrue, eqb-true}
use Rattle.std.specs.Prelude.{nat_lt}
use Rattle.std.specs.List.{list_all}
use Rattle.std.proofs.lemmas.Bool.{le-ltb}
use Rattle.dns_name.specs.Names.{Name, name_wire, is_label, is_name}
use Rattle.dns_numbers.specs.Codes.{type_ns, type_cname, type_ds}
use Rattle.zone_model.specs.Version.{RecordSet, Version, set_at, below_apex, exists, is_cut}
use Rattle.zone_model.specs.Answer.{alias_at}
use Rattle.zone_values.specs.TypedSets.{TypedSet}
use Rattle.zone_values.specs.TypedEntries.{typed}
use Rattle.zone_reads.specs.Parts.{Part, part, node_named, child_of, SpecialAt, special_at, cut_of_sets, cut_in, cut_at}
use Rattle.zone_reads.specs.Parts.SpecialAt.{CutAt, CnameAt}

-- ---- nodes

pub node_there : (v : Version) (n : Name) → IsTrue (is_name n) → true ≡ exists v n → Some (part v n) ≡ node_named v n
node_there v n named here = sym (λ i. if named i && sym here i then Some (part v n) else None)

no_more : (b : Bool) → (b && false) ≡ false
no_more true = refl
no_more false = refl

pub node_absent : (v : Version) (n : Name) → false ≡ exists v n → None ≡ node_named v n
node_absent v n none = sym (ap (λ b. if is_name n && b then Some (part v n) else None) (sym none) ∙ ap (λ b. if b then Some (part v n) else None) (no_more (is_name n)))

no_name : (v : Version) (n : Name) → is_name n ≡ false → None ≡ node_named v n
no_name v n h = sym (ap (λ b. if b && exists v n then Some (part v n) else None) h)

-- the root's label names none
pub root_child : (p : Part) (l : List ℕ) → true ≡ (length l == 0) → None ≡ child_of p l
root_child p l h = no_name p.version (l ∷ p.name) (ap (λ b. (b && list_all is_label p.name) && nat_lt (length (name_wire (l ∷ p.name))) 256) empty)
  where
    empty : is_label l ≡ false
    empty = ap (λ k. nat_lt 0 k && nat_lt k 64 && list_all (λ c. nat_lt c 256) l) (eqb-true (length l) 0 (sym h))

-- .. nor does one for which there is no room
pub long_child : (p : Part) (l : List ℕ) → 256 ≤ length (name_wire (l ∷ p.name)) → None ≡ child_of p l
long_child p l h = no_name p.version (l ∷ p.name) (ap (λ b. list_all is_label (l ∷ p.name) && b) (le-ltb (length (name_wire (l ∷ p.name))) 256 h) ∙ no_more (list_all is_label (l ∷ p.name)))

-- ---- what a name is by its sets

abbrev pub no_set : RecordSet
no_set = record { ttl = 0; items = [] }

abbrev pub signer_at : Version → Name → Option TypedSet
signer_at v n = option_map (typed type_ds) (set_at v n type_ds)

abbrev pub alias_told : RecordSet → SpecialAt
alias_told s = CnameAt (typed type_cname s)

-- of these answers to whether it is below the apex and which NS set it has
abbrev pub told_by : Version → Name → Bool → Option RecordSet → Option SpecialAt
told_by v n below servers =
    if below && is_some servers then Some (CutAt (typed type_ns (unwrap_or servers no_set)) (signer_at v n)) else option_map alias_told (if below then set_at v n type_cname else None)

pub nothing_special : (v : Version) (n : Name) → false ≡ below_apex v n → None ≡ special_at v n
nothing_special v n h = ap (λ b. told_by v n b (set_at v n type_ns)) h

pub cut_is : (v : Version) (n : Name) (ns : TypedSet) (ds : Option TypedSet) → below_apex v n ≡ true → Some ns ≡ option_map (typed type_ns) (set_at v n type_ns)
    → ds ≡ option_map (typed type_ds) (set_at v n type_ds) → Some (CutAt ns ds) ≡ special_at v n
cut_is v n ns ds h s d = by (set_at v n type_ns) refl s
  where
    by : (o : Option RecordSet) → o ≡ set_at v n type_ns → Some ns ≡ option_map (typed type_ns) o → Some (CutAt ns ds) ≡ special_at v n
    by None e g = absurd (true≢false (ap is_some g))
    by (Some servers) e g = (λ i. Some (CutAt (ap (λ o. unwrap_or o ns) g i) (d i))) ∙ (λ i. told_by v n (sym h i) (e i))

pub alias_is : (v : Version) (n : Name) (target : Option TypedSet) → below_apex v n ≡ true → None ≡ option_map (typed type_ns) (set_at v n type_ns)
    → target ≡ option_map (typed type_cname) (set_at v n type_cname) → option_map CnameAt target ≡ special_at v n
alias_is v n target h s t = by (set_at v n type_ns) refl s
  where
    told : (o : Option RecordSet) → option_map CnameAt (option_map (typed type_cname) o) ≡ option_map alias_told o
    told None = refl
    told (Some x) = refl

    by : (o : Option RecordSet) → o ≡ set_at v n type_ns → None ≡ option_map (typed type_ns) o → option_map CnameAt target ≡ special_at v n
    by None e g = ap (option_map CnameAt) t ∙ told (set_at v n type_cname) ∙ (λ i. told_by v n (sym h i) (e i))
    by (Some servers) e g = absurd (true≢false (sym (ap is_some g)))

-- the zone cut that it is by them is the one that stands there
pub cut_told : (v : Version) (n : Name) → cut_in v n (special_at v n) ≡ cut_at v n
cut_told v n = by (is_cut v n) (alias_at v n)
  where
    by : (b : Bool) (o : Option RecordSet) → cut_in v n (if b then Some (CutAt (typed type_ns (unwrap_or (set_at v n type_ns) no_set)) (signer_at v n)) else option_map alias_told o)
        ≡ (if b then Some (cut_of_sets v n (typed type_ns (unwrap_or (set_at v n type_ns) no_set)) (signer_at v n)) else None)
    by true o = refl
    by false None = refl
    by false (Some s) = refl
