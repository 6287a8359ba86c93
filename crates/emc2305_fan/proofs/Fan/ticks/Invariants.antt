use Rattle.std.proofs.Common.{◌≡◌}
use Rattle.laws.specs.Repeat.{repeated}
use Rattle.emc2305_fan.specs.Tick.{ticked}
use Rattle.emc2305_fan.proofs.Fan.ticks.Given as goal

-- the fan after the ticks passed
abbrev pub invariant-loop-passed : goal.invariant-loop-passed
invariant-loop-passed l = l.fan ≡ repeated l.passed ticked l.fn.self
