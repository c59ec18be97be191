use Rattle.std.proofs.Common.{◌≤◌, ◌<◌, ◌+◌, ◌++◌, ◌∷◌, List, ℕ, length, sym, subst, ◌∙◌, arith}
use Rattle.name_keys.proofs.Spelling.{went_well, spells_itself}
use Rattle.name_keys.proofs.key.append_label.Goals as goal

pub append_label-requires : goal.append_label-requires
append_label-requires c =
    let same = spells_itself c.args.piece.now (sym c.contains.ensures.value ∙ c.if-contains.false) in
    subst (λ (l : List ℕ). length l ≤ 63) same c.requires.label

pub returns-else-contains : goal.returns-else-contains
returns-else-contains c =
    let same = spells_itself c.args.piece.now (sym c.contains.ensures.value ∙ c.if-contains.false) in
    let room = subst (λ (l : List ℕ). length c.args.wire.now + length l < 255) same c.requires.room in
    let put = went_well c.append_label.result c.append_label.ensures.ok c.append_label.ensures.full (λ full. omega (arith, full, room)) in
    put ∙ (λ i. c.args.wire.now ++ length (sym same i) ∷ sym same i)
