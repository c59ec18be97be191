use Rattle.std.proofs.Common.{◌≡◌, [], true, sym, subst, ◌∙◌, eqb-true}
use Rattle.dns_name.specs.Names.{Name, under}
use Rattle.zone_records.proofs.Opened.{root_of_length, under_root}
use Rattle.zone_records.proofs.opening_sets.has_below.Goals as goal

-- The root has all names below it.
pub returns-then-compose_len-eq1 : goal.returns-then-compose_len-eq1
returns-then-compose_len-eq1 c one n below =
    let root : c.apex.result.now ≡ [] = root_of_length c.apex.result.now (sym c.compose_len.ensures.len ∙ eqb-true c.compose_len.result 1 one) in
    subst (λ (m : Name). under n m ≡ true) (sym (sym c.apex.ensures ∙ root)) (under_root n)

-- It is the same name.
pub returns-else-compose_len-eq1 : goal.returns-else-compose_len-eq1
returns-else-compose_len-eq1 c same n below =
    subst (λ (m : Name). under n m ≡ true) (sym (sym c.apex-else-compose_len-eq1.ensures ∙ c.is_spelled_so.ensures same)) below
