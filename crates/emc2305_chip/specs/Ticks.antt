-- Ticks of the chip.
use Rattle.std.specs.Prelude.{true, cond, ℕ}
use Rattle.laws.specs.Lists.{first_moved}
use Rattle.laws.specs.Repeat.{repeated}
use Rattle.emc2305_fan.specs.Tick.{ticked}
use Rattle.emc2305_fan.specs.Tach.{fired}
use Rattle.emc2305_watchdog.specs.Watch.{fires, watch_ticked}
use Rattle.emc2305_chip.specs.declared.Chip.{Chip}
use Rattle.emc2305_chip.specs.State.{fan_count, with_fans, with_expired, with_watch}

-- the watchdog fires: WATCH set, and every fan that the chip has gets what a firing gives it
unfoldable pub all_fired : Chip → Chip
all_fired c = with_expired true (with_fans (first_moved (fan_count c) fired c.fans) c)

-- a tick in which it does not fire: each fan that the chip has takes one of its own, and none waits for another
unfoldable pub all_ticked : Chip → Chip
all_ticked c = with_fans (first_moved (fan_count c) ticked c.fans) c

-- in a tick the watchdog acts first; if it fires the fans don't move in it
unfoldable pub chip_ticked : Chip → Chip
chip_ticked c = with_watch (watch_ticked c.watch) (cond (fires c.watch) (all_fired c) (all_ticked c))

-- each of them takes n ticks of its own
abbrev pub all_ticks : ℕ → Chip → Chip
all_ticks n c = with_fans (first_moved (fan_count c) (repeated n ticked) c.fans) c
