use Rattle.std.proofs.Common.{◌≡◌, ℕ, ◌≤◌, ◌/◌, ◌++◌, length, insert, take, drop, sym, ap, ◌∙◌, arith}
use Rattle.std.specs.Arc.{arc_value}
use Rattle.paged_map.proofs.PageEdits.{halves_low, halves_high, front_only}
use Rattle.paged_map.proofs.edits.halves.Goals as goal

pub returns-then-at-half-clause-all : goal.returns-then-at-half-clause-all
returns-then-at-half-clause-all g c =
    let p = c.args.page.now in
    let e = arc_value c.args.entry in
    let half : ℕ = c.len-half.result / 2 in
    let len : c.len-half.result ≡ length p = c.len-half.ensures in
    let fits : half ≤ length p = omega (arith, len) in
    ap (λ l. l ++ arc_value c.in_ok-high.high) (c.in_ok-part_with.ensures ∙ ap (λ l. insert l c.args.at e) (ap (λ n. take half p ++ drop n p) c.len.ensures ∙ front_only p half))
    ∙ ap (λ l. insert (take half p) c.args.at e ++ l) c.in_ok-high.ensures ∙ halves_low p half c.args.at e c.if-at-half.true fits

pub returns-clause-all : goal.returns-clause-all
returns-clause-all g c =
    let p = c.args.page.now in
    let e = arc_value c.args.entry in
    let half : ℕ = c.len-half.result / 2 in
    let past : half ≤ c.args.at = omega (arith, c.if-at-half.false) in
    ap (λ l. l ++ arc_value c.in_ok-part_with-2.field-0) (c.in_ok-low.ensures ∙ ap (λ n. take half p ++ drop n p) c.len-2.ensures ∙ front_only p half)
    ∙ ap (λ l. take half p ++ l) c.in_ok-part_with-2.ensures ∙ halves_high p half c.args.at e past c.requires.at
