-- What is promised of a watch.
use Rattle.std.specs.Prelude.{◌≡◌, true, false, ℕ, ◌+◌, ◌<◌}
use Rattle.emc2305_watchdog.specs.declared.Watch.{Watch}
use Rattle.emc2305_watchdog.specs.declared.Watch.TheVariants.{Continuous}
use Rattle.emc2305_watchdog.specs.Watch.{is_off, in_power_up, fires, watch_ticked, fed, quiet_ticks, watch_on}

-- each of the quiet ticks makes the watch count one more and does not make it fire
abbrev pub QuietTicks : Type 0
QuietTicks =
    (n k : ℕ) (w : Watch) → k < quiet_ticks n w → (fires (watch_on k w) ≡ false) × (watch_ticked (watch_on k w) ≡ watch_on (k + 1) w)

-- the tick after the quiet ones makes it fire
abbrev pub FiresNext : Type 0
FiresNext = (n : ℕ) (w : Watch) → quiet_ticks n w < n → fires (watch_on (quiet_ticks n w) w) ≡ true

-- a transfer taken sets the count of the continuous watch to 0 and leaves every other watch
abbrev pub Feeding : Type 0
Feeding =
    (w : Watch)
    → (in_power_up w ≡ true → fed w ≡ w)
    × (is_off w ≡ true → fed w ≡ w)
    × ((count : ℕ) → fed (Continuous count) ≡ Continuous 0)
