use Rattle.std.proofs.Common.{◌≡◌, ℕ, List, [], ◌∷◌, ◌++◌, subst, ap, ◌∙◌}
use Rattle.dns_name.specs.Names.{name_wire, fold}
use Rattle.tsig_port.specs.Tsig.{variables, timers, with_len}
use Rattle.tsig_port.specs.HmacState.{HoldsHmac}
use Rattle.tsig_port.proofs.Taking.{variables_taken}
use Rattle.tsig_port.proofs.signature.update_variables.Goals as goal

pub returns : goal.returns
returns g c = λ a k t h.
    let tsig = c.args.tsig.now in
    let owner = g.M.Labelled.labels c.args.owner.now in
    let first : c.as_slice.result.now ≡ name_wire (fold owner) = c.as_slice.ensures.wire ∙ ap name_wire c.to_canonical-owner.ensures in
    let second : c.as_slice-2.result.now ≡ name_wire (fold tsig.algorithm) =
    c.as_slice-2.ensures.wire ∙ ap name_wire (c.to_canonical-algorithm.ensures ∙ ap fold c.algorithm.ensures) in
    let same : t ++ c.as_slice.result.now ++ (0 ∷ 255 ∷ 0 ∷ 0 ∷ 0 ∷ 0 ∷ []) ++ c.as_slice-2.result.now ++ timers tsig ++ c.to_be_bytes.result
    ++ with_len c.other.result.now ≡ t ++ variables owner tsig =
    rw (c.to_be_bytes.ensures, c.error.ensures, c.other.ensures.other) (variables_taken t _ _ owner tsig first second) in
    subst (λ (x : List ℕ). HoldsHmac c.update_counted.new.context a k x) same
    (c.update_counted.ensures a k _ (c.update-4.ensures a k _ (c.update_timers.ensures a k _ (c.update-3.ensures a k _ (c.update-2.ensures a k _ (c.update.ensures a k t h))))))
