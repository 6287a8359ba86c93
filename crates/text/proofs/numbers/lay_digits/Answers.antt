use Rattle.std.proofs.Common.{◌≡◌, ◌-◌, suc, arith}
use Rattle.text.proofs.Digits.{one_shown}
use Rattle.text.proofs.numbers.lay_digits.Goals as goal

pub loop-at-preserved : goal.loop-at-preserved
loop-at-preserved c =
    let e : c.loop-at.at ≡ suc (c.loop-at.at - 1) = omega arith in
    one_shown _ _ _ _ _ (rw e at c.loop-at.invariant)
