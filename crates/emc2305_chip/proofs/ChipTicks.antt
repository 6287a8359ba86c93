-- A fan's part in n ticks of the chip.
use mathlib.Core.Path.{◌≡◌, refl, ap, ◌∙◌}
use Prim.Native.Nat.{ℕ, zero, suc, ◌<◌}
use lib.ListN.{length}
use Rattle.laws.specs.Repeat.{repeated}
use Rattle.emc2305_fan.specs.Tick.{ticked}
use Rattle.emc2305_watchdog.specs.declared.Watch.TheVariants.{Off}
use Rattle.emc2305_chip.specs.declared.Chip.{Chip}
use Rattle.emc2305_chip.specs.State.{fan_count}
use Rattle.emc2305_chip.specs.Fans.{fan_at}
use Rattle.emc2305_chip.specs.Ticks.{chip_ticked}
use Rattle.emc2305_chip.specs.Promises.{FanTicks}
use Rattle.emc2305_chip.proofs.Moves.{ticks_count, ticks_part}
use Rattle.emc2305_chip.proofs.Watches.{one_tick}

-- with the watch off
module _ (c : Chip) (off : c.watch ≡ Off) where
  off_after : (n : ℕ) → (repeated n chip_ticked c).watch ≡ Off
  unfolding repeated
  off_after zero = off
  off_after (suc n) = (one_tick (repeated n chip_ticked c)).0 ∙ rw (off_after n)

  fan_after : (i n : ℕ) → i < fan_count c → i < length c.fans → fan_at (repeated n chip_ticked c).fans i ≡ repeated n ticked (fan_at c.fans i)
  unfolding repeated
  fan_after i zero k h = refl
  fan_after i (suc n) k h =
      let d = repeated n chip_ticked c in
      (one_tick d).2 i (rw (ticks_part n c) k) (rw (ticks_count n c) h) ∙ rw (off_after n) (ap ticked (fan_after i n k h))

pub fan_ticks : FanTicks
fan_ticks c i n off k h = (fan_after c off i n k h, off_after c off n)
