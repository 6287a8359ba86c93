use Rattle.std.proofs.Common.{◌≡◌, min}
use Rattle.emc2305_chip.specs.Fans.{interrupting}
use Rattle.emc2305_chip.proofs.fans.interrupting.Given as goal

-- what holds of the places gone through that the part has
abbrev pub invariant-loop-i : goal.invariant-loop-i
invariant-loop-i l = l.on ≡ interrupting l.enable l.fan-items (min l.i l.n)
