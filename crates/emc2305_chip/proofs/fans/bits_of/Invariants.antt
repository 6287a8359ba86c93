use Rattle.std.proofs.Common.{◌≡◌, min}
use Rattle.emc2305_chip.specs.Fans.{bits_of}
use Rattle.emc2305_chip.proofs.fans.bits_of.Given as goal

-- the byte of the places gone through that the part has
abbrev pub invariant-loop-i : goal.invariant-loop-i
invariant-loop-i l = l.byte ≡ bits_of l.bit l.fan-items (min l.i l.n)
