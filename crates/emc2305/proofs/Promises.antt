-- The promises of a step (specs/Promises.antt) that no other file here proves.
use mathlib.Core.Path.{refl}
use Rattle.laws.proofs.Repeat.{repeated_add}
use Rattle.emc2305_watchdog.specs.declared.Watch.{Watch}
use Rattle.emc2305_chip.specs.declared.Chip.{Chip}
use Rattle.emc2305_chip.specs.Watching.{fed_chip}
use Rattle.emc2305_chip.specs.Registers.{at_defaults}
use Rattle.emc2305_chip.specs.Ticks.{chip_ticked}
use Rattle.emc2305.specs.Step.{taken, reply_to}
use Rattle.emc2305.specs.Promises.{TickByTick, WatchAfter, TakenTransfer}
use Rattle.emc2305.proofs.ReadKeeps.{read_keeps}

pub tick_by_tick : TickByTick
unfolding taken
tick_by_tick c log m n = repeated_add m n chip_ticked c

abbrev watch : Chip → Watch
watch c = c.watch

pub watch_after : WatchAfter
unfolding taken at_defaults
watch_after c log = (
  λ address. refl,
  λ address fans. refl,
  λ fan count. refl,
  λ fan drive. refl,
  λ to place n. read_keeps watch _ (fed_chip c) (λ d p. refl) (λ d. refl) (λ d which. refl),
)

pub taken_transfer : TakenTransfer
unfolding taken reply_to
taken_transfer c log to place n = (refl, refl, refl)
