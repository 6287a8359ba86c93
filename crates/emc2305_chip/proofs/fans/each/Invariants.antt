use Rattle.std.proofs.Common.{◌≡◌}
use Rattle.laws.specs.Lists.{first_moved}
use Rattle.emc2305_fan.specs.declared.Fan.{Fan}
use Rattle.emc2305_chip.proofs.fans.each.Given as goal

-- the fans gone through have moved
abbrev pub invariant-loop-i : goal.invariant-loop-i
invariant-loop-i g l = (m : Fan → Fan) → ((x y : Fan) → goal.F-post g l.change x y → y ≡ m x) → l.fans ≡ first_moved l.i m l.fn.fans
