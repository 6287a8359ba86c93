-- The ticks before a watch fires.
use mathlib.Core.Path.{◌≡◌, refl, ap}
use mathlib.Core.Bool.{true, false, cond}
use Prim.Native.Nat.{ℕ, ◌+◌, ◌-◌, ◌≤◌, ◌<◌, min}
use native.Mathlib.Omega.{arith}
use borrow.Author.Tests.{leb-false, le-leb, lt-leb}
use Rattle.emc2305_watchdog.specs.declared.Watch.{Watch}
use Rattle.emc2305_watchdog.specs.declared.Watch.TheVariants.{Off, PowerUp, Continuous}
use Rattle.emc2305_watchdog.specs.Watch.{reached, fires, quiet_ticks, watch_on}
use Rattle.emc2305_watchdog.specs.Promises.{QuietTicks, FiresNext}

-- a count of less than 319 goes on
goes_on : (n k count : ℕ) → k < min n (319 - count) → reached (count + k) ≡ false
goes_on n k count h = lt-leb 320 (count + k + 1) (omega arith)

-- the next count
counts : (next : ℕ → Watch) (n k count : ℕ) (other : Watch) → k < min n (319 - count)
    → cond (reached (count + k)) other (next (count + k + 1)) ≡ next (count + (k + 1))
counts next n k count other h = rw (goes_on n k count h) (ap next (omega arith))

pub quiet_ticks_lem : QuietTicks
quiet_ticks_lem n k Off h = (refl, refl)
quiet_ticks_lem n k (PowerUp count) h = (goes_on n k count h, counts PowerUp n k count Off h)
quiet_ticks_lem n k (Continuous count) h = (goes_on n k count h, counts Continuous n k count (Continuous 0) h)

-- where fewer than n are quiet, the next is the 320th or past it
full : (n count : ℕ) → min n (319 - count) < n → reached (count + min n (319 - count)) ≡ true
full n count h = le-leb 320 (count + min n (319 - count) + 1) (omega arith)

pub fires_next : FiresNext
fires_next n Off h = absurd (omega arith)
fires_next n (PowerUp count) h = full n count h
fires_next n (Continuous count) h = full n count h

-- they are of the n; where the next tick does not make it fire there is one
pub quiet_within : (n : ℕ) (w : Watch) → quiet_ticks n w ≤ n
quiet_within n Off = omega arith
quiet_within n (PowerUp count) = omega arith
quiet_within n (Continuous count) = omega arith

pub some_quiet : (n : ℕ) (w : Watch) → fires w ≡ false → 1 ≤ n → 1 ≤ quiet_ticks n w
some_quiet n Off e h = h
some_quiet n (PowerUp count) e h = let g = leb-false 320 (count + 1) e in omega arith
some_quiet n (Continuous count) e h = let g = leb-false 320 (count + 1) e in omega arith

-- no tick
pub watch_on_none : (w : Watch) → watch_on 0 w ≡ w
watch_on_none Off = refl
watch_on_none (PowerUp count) = ap PowerUp (omega arith)
watch_on_none (Continuous count) = ap Continuous (omega arith)
