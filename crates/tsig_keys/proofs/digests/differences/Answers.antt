use Rattle.std.proofs.Common.{◌<◌, ◌≤◌, ◌∙◌, sym, length, arith}
use Rattle.tsig_keys.proofs.Comparing.{joined_more, all_joined}
use Rattle.tsig_keys.proofs.digests.differences.Goals as goal

pub loop-i-preserved : goal.loop-i-preserved
loop-i-preserved c =
    let one : c.loop-i.i < length c.args.octets.now = omega (arith, c.loop-i-test.true) in
    let other : c.loop-i.i < length c.args.others.now = omega (arith, one, c.requires) in
    joined_more c.args.octets.now c.args.others.now c.loop-i.i c.loop-i.joined one other ∙ c.loop-i.invariant

pub returns : goal.returns
returns c =
    let one : length c.args.octets.now ≤ c.loop-i.i = omega (arith, c.loop-i-test.false, c.loop-i.auto.i-end) in
    let other : length c.args.others.now ≤ c.loop-i.i = omega (arith, one, c.requires) in
    sym (all_joined c.args.octets.now c.args.others.now c.loop-i.i c.loop-i.joined one other) ∙ c.loop-i.invariant
