-- The watchdog: which watch runs, and how many ticks it has counted.
use Rattle.std.specs.Prelude.{Bool, true, false, cond, ℕ, ◌+◌, ◌-◌, min, leb}
use Rattle.emc2305_watchdog.specs.declared.Watch.{Watch}
use Rattle.emc2305_watchdog.specs.declared.Watch.TheVariants.{Off, PowerUp, Continuous}
use Rattle.emc2305_watchdog.specs.declared.Quiet.{Quiet}

-- no watch runs
abbrev pub is_off : Watch → Bool
is_off Off = true
is_off (PowerUp count) = false
is_off (Continuous count) = false

-- the power-up watch runs
abbrev pub in_power_up : Watch → Bool
in_power_up Off = false
in_power_up (PowerUp count) = true
in_power_up (Continuous count) = false

-- one more tick is the 320th, or past it
abbrev pub reached : ℕ → Bool
reached count = leb 320 (count + 1)

-- the next tick makes it fire
abbrev pub fires : Watch → Bool
fires Off = false
fires (PowerUp count) = reached count
fires (Continuous count) = reached count

-- a tick; where it fires, power-up watch ends and continuous counts again from 0
abbrev pub watch_ticked : Watch → Watch
watch_ticked Off = Off
watch_ticked (PowerUp count) = cond (reached count) Off (PowerUp (count + 1))
watch_ticked (Continuous count) = cond (reached count) (Continuous 0) (Continuous (count + 1))

-- in continuous, each transfer taken sets the count to 0
abbrev pub fed : Watch → Watch
fed Off = Off
fed (PowerUp count) = PowerUp count
fed (Continuous count) = Continuous 0

-- what ends the power-up watch leaves the others
abbrev pub programmed : Watch → Watch
programmed Off = Off
programmed (PowerUp count) = Off
programmed (Continuous count) = Continuous count

-- with WD_EN 0 a stored write to 20h ends continuous only
abbrev pub continuous_ended : Watch → Watch
continuous_ended Off = Off
continuous_ended (PowerUp count) = PowerUp count
continuous_ended (Continuous count) = Off

-- with WD_EN 1 it starts continuous watch at 0, in place of whichever ran
abbrev pub configured : Bool → Watch → Watch
configured enabled watch = cond enabled (Continuous 0) (continuous_ended watch)

-- the ticks that a watch with this count lets pass before the one that makes it fire
abbrev pub ticks_left : ℕ → ℕ
ticks_left count = 319 - count

-- of the next n ticks, those before the one that makes it fire
abbrev pub quiet_ticks : ℕ → Watch → ℕ
quiet_ticks n Off = n
quiet_ticks n (PowerUp count) = min n (ticks_left count)
quiet_ticks n (Continuous count) = min n (ticks_left count)

-- the same watch n ticks on, none of which makes it fire
abbrev pub watch_on : ℕ → Watch → Watch
watch_on n Off = Off
watch_on n (PowerUp count) = PowerUp (count + n)
watch_on n (Continuous count) = Continuous (count + n)

-- of the next n ticks those before the one that makes it fire, and the watch after them
abbrev pub quietly : ℕ → Watch → Quiet
quietly n watch = record { ticks = quiet_ticks n watch; watch = watch_on (quiet_ticks n watch) watch }
