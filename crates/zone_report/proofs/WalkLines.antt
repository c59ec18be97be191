-- The lines of a set, item by item.
use Rattle.std.specs.Prelude.{◌≡◌, ℕ, List, [], ◌∷◌, ◌++◌, All, flat_map, map, codes, refl}
use Rattle.std.proofs.Common.{sym, ap, ◌∙◌, subst}
use Rattle.std.proofs.lemmas.List.{append_assoc}
use Rattle.std.proofs.lemmas.List.Elements.{All-head, All-tail}
use Rattle.dns_rdata.specs.Records.{Field, record_wire}
use Rattle.zone_model.specs.Version.{Version}
use Rattle.zone_model.specs.Walk.{Stop}
use Rattle.zone_report.specs.Lines.{stop_lines, record_line, flag_word}
use Rattle.zone_report.specs.Lines.{item_line, set_record}

lines_of_items : (class : ℕ) (s : Stop) (ds : List (List Field))
    → flat_map (record_line record_wire (codes "rr" ∷ flag_word record_wire s.below_cut ∷ [])) (map (set_record class s) ds) ≡ flat_map (item_line class s) ds
lines_of_items class s [] = refl
lines_of_items class s (d ∷ ds) = ap (λ more. item_line class s d ++ more) (lines_of_items class s ds)

pub stop_lines_of_items : (v : Version) (s : Stop) → stop_lines record_wire v s ≡ flat_map (item_line v.class s) s.contents.items
stop_lines_of_items v s = lines_of_items v.class s s.contents.items

-- the first of the data is of the set's type, and so are the others
pub typed_rest : {X : Type 0} (t : X → ℕ) (rtype : ℕ) (xs behind : List X) (x : X) → xs ≡ x ∷ behind → All (λ d. t d ≡ rtype) xs
    → (t x ≡ rtype) × All (λ d. t d ≡ rtype) behind
typed_rest t rtype xs behind x split types =
    let all = subst (All (λ d. t d ≡ rtype)) split types in
    (All-head (λ d. t d ≡ rtype) x behind all, All-tail (λ d. t d ≡ rtype) x behind all)

-- the line of the first, and then those of the others
pub one_line : {X : Type 0} (f : X → List Field) (l : List Field → List ℕ) (xs behind : List X) (x : X) (out more all : List ℕ) → xs ≡ x ∷ behind
    → out ++ flat_map l (map f xs) ≡ all → more ≡ out ++ l (f x) → more ++ flat_map l (map f behind) ≡ all
one_line f l xs behind x out more all split so_far is =
    ap (λ o. o ++ flat_map l (map f behind)) is ∙ append_assoc out (l (f x)) (flat_map l (map f behind)) ∙ ap (λ ys. out ++ flat_map l (map f ys)) (sym split) ∙ so_far
