use Rattle.std.proofs.Common.{◌≡◌}
use Rattle.laws.specs.Repeat.{repeated}
use Rattle.emc2305_chip.specs.Ticks.{chip_ticked}
use Rattle.emc2305_chip.proofs.Chip.ticks.Given as goal

-- the ticks that are left bring the chip to where all of them bring the first one
abbrev pub invariant-loop-left : goal.invariant-loop-left
invariant-loop-left l = repeated l.left chip_ticked l.chip ≡ repeated l.count chip_ticked l.fn.self

abbrev pub decreases-loop-left : goal.decreases-loop-left
decreases-loop-left l = l.left
