-- What touches the watch but ticks: a stored write to a fan or to 20h, and a transfer.
use Rattle.std.specs.Prelude.{Bool, cond, ℕ}
use Rattle.emc2305_fan.specs.Registers.{bit}
use Rattle.emc2305_fan.specs.Stored.{programs}
use Rattle.emc2305_watchdog.specs.Watch.{fed, programmed, configured}
use Rattle.emc2305_chip.specs.declared.Chip.{Chip}
use Rattle.emc2305_chip.specs.State.{with_watch}

-- where a fan is programmed, the power-up watch ends
abbrev pub programmed_if : Bool → Chip → Chip
programmed_if flag c = with_watch (cond flag (programmed c.watch) c.watch) c

-- a stored write that programs a fan ends the power-up watch
abbrev pub programmed_by : ℕ → ℕ → Chip → Chip
programmed_by offset byte c = programmed_if (programs offset byte) c

-- a stored write to 20h starts or ends the continuous watch by its bit 5, WD_EN
abbrev pub configured_by : ℕ → Chip → Chip
configured_by byte c = with_watch (configured (bit 5 byte) c.watch) c

-- in continuous, each transfer taken sets the count to 0
abbrev pub fed_chip : Chip → Chip
fed_chip c = with_watch (fed c.watch) c
