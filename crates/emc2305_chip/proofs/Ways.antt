-- One law for each way through a function of the chip.
use mathlib.Core.Path.{◌≡◌, sym, ap}
use mathlib.Core.Bool.{Bool, true, false, cond}
use mathlib.Core.List.{List}
use Prim.Native.Nat.{ℕ, ◌≤◌}
use native.Mathlib.Omega.{arith}
use lib.Dec.{eqb}
use lib.ListN.{length, get_or-eq_default}
use Rattle.laws.proofs.Tests.{by_test}
use Rattle.emc2305_fan.specs.declared.Fan.{Fan}
use Rattle.emc2305_fan.specs.Registers.{bit, undefined, shown}
use Rattle.emc2305_watchdog.specs.Watch.{fires, watch_ticked}
use Rattle.emc2305_chip.specs.declared.Chip.{Chip}
use Rattle.emc2305_chip.specs.State.{fan_count, with_watch}
use Rattle.emc2305_chip.specs.Fans.{no_fan, fan_at, interrupting}
use Rattle.emc2305_chip.specs.Registers.{alert_line, register_at, stores_at, stored_of, written_at}
use Rattle.emc2305_chip.specs.Ticks.{all_fired, all_ticked, chip_ticked}

-- past the fans no register shows anything
pub no_register : (fans : List Fan) (i offset : ℕ) → length fans ≤ i → 0 ≡ shown (fan_at fans i) offset
unfolding shown
no_register fans i offset h =
    rw (get_or-eq_default fans no_fan {n = i} h) (by_test (undefined offset) (λ t. rw t) (λ t. rw t (by_test (eqb offset 0) (λ u. rw u) (λ u. rw u))))

-- a flag is at most its weight
pub flag_small : (b : Bool) (w x : ℕ) → x ≡ cond b w 0 → x ≤ w
flag_small true w x e = omega arith
flag_small false w x e = omega arith

module _ (c : Chip) where
  -- the alert line
  pub masked : bit 7 c.configuration ≡ true → false ≡ alert_line c
  unfolding alert_line
  masked e = rw e

  pub alert_watch : bit 7 c.configuration ≡ false → c.expired ≡ true → true ≡ alert_line c
  unfolding alert_line
  alert_watch e h = rw (e, h)

  pub alert_fans : bit 7 c.configuration ≡ false → c.expired ≡ false → interrupting c.enable c.fans (fan_count c) ≡ alert_line c
  unfolding alert_line
  alert_fans e h = rw (e, h)

  -- a tick
  pub tick_fires : fires c.watch ≡ true → with_watch (watch_ticked c.watch) (all_fired c) ≡ chip_ticked c
  unfolding chip_ticked
  tick_fires e = ap (λ (t : Bool). with_watch (watch_ticked c.watch) (cond t (all_fired c) (all_ticked c))) (sym e)

  pub tick_goes : fires c.watch ≡ false → with_watch (watch_ticked c.watch) (all_ticked c) ≡ chip_ticked c
  unfolding chip_ticked
  tick_goes e = ap (λ (t : Bool). with_watch (watch_ticked c.watch) (cond t (all_fired c) (all_ticked c))) (sym e)

  -- a write
  module _ (address : ℕ) where
    pub writes : (byte : ℕ) → stores_at c address ≡ true → stored_of (register_at c address) byte c ≡ written_at address byte c
    unfolding written_at
    writes byte e = ap (λ (t : Bool). cond t (stored_of (register_at c address) byte c) c) (sym e)

    pub writes_nothing : (byte : ℕ) → stores_at c address ≡ false → c ≡ written_at address byte c
    unfolding written_at
    writes_nothing byte e = ap (λ (t : Bool). cond t (stored_of (register_at c address) byte c) c) (sym e)
