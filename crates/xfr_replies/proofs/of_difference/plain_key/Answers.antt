use Rattle.std.proofs.Common.{Bor, Option, subst, sym, ◌∙◌}
use Rattle.std.specs.Prelude.{option_copied}
use Rattle.zone_model.specs.Version.{Key}
use Rattle.xfr_replies.specs.Steps.{SkipsSoas}
use Rattle.xfr_replies.proofs.Skipping.{Passed, passed_none, passed_more, passed_soas, passed_all}
use Rattle.xfr_replies.proofs.of_difference.plain_key.Goals as goal

pub keys-init : goal.keys-init
keys-init c rest h = passed_none c.args.sets.now rest (option_copied c.args.first) h

pub keys-preserved : goal.keys-preserved
keys-preserved c rest h =
    let soa = sym c.is_soa_key.ensures ∙ c.if-not-is_soa_key.false in
    let passed = subst (λ (o : Option (Bor Key)). Passed c.args.sets.now rest (option_copied o)) c.in-Some.is (c.keys.invariant rest h) in
    passed_more c.args.sets.now rest c.in-Some.key.now (option_copied c.key_behind-next.result) soa c.key_behind-next.ensures passed

pub returns-then-not-is_soa_key : goal.returns-then-not-is_soa_key
returns-then-not-is_soa_key c rest h =
    let plain = sym c.is_soa_key.ensures ∙ c.if-not-is_soa_key.true in
    let passed = subst (λ (o : Option (Bor Key)). Passed c.args.sets.now rest (option_copied o)) c.in-Some.is (c.keys.invariant rest h) in
    subst (λ (o : Option (Bor Key)). SkipsSoas c.args.sets.now rest (option_copied o)) (sym c.in-Some.is) (passed_soas c.args.sets.now rest c.in-Some.key.now plain passed)

pub returns : goal.returns
returns c rest h = passed_all c.args.sets.now rest (subst (λ (o : Option (Bor Key)). Passed c.args.sets.now rest (option_copied o)) c.in_default.is (c.keys.invariant rest h))
