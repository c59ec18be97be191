use Rattle.std.proofs.Common.{◌≡◌, ◌<◌, ◌^◌, drop}
use Rattle.std.specs.Prelude.{Some}
use Rattle.zone_script.specs.ScriptLines as scripts
use Rattle.zone_script.specs.Digits.{below}
use Rattle.zone_script.proofs.numbers.with_digits_u64.Given as goal

abbrev pub invariant-loop-octet : goal.invariant-loop-octet
invariant-loop-octet l = record {
  value : below (2 ^ 64) (scripts.more_digits (Some l.number) (drop l.octet-index l.more)) ≡ below (2 ^ 64) (scripts.more_digits (Some l.so_far) l.more);
  within : l.number < 2 ^ 64;
}
