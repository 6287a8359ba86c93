use Rattle.std.proofs.Common.{◌≡◌, min}
use Rattle.emc2305_chip.specs.Fans.{any_busy}
use Rattle.emc2305_chip.proofs.fans.any_busy.Given as goal

-- what holds of the places gone through that the part has
abbrev pub invariant-loop-i : goal.invariant-loop-i
invariant-loop-i l = l.on ≡ any_busy l.fan-items (min l.i l.n)
