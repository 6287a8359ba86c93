-- Ticks under ramp control.
use mathlib.Core.Path.{◌≡◌, refl, ap, ◌∙◌}
use mathlib.Core.Bool.{true, false}
use Prim.Native.Nat.{ℕ, zero, suc}
use Rattle.laws.specs.Repeat.{repeated}
use Rattle.laws.proofs.Repeat.{repeated_through}
use Rattle.laws.proofs.Tests.{or_left, or_right}
use Rattle.ramps.specs.declared.Ramp.{Ramp}
use Rattle.ramps.specs.Ramp.{counted}
use Rattle.ramps.proofs.Ticks.{counted_ticks}
use Rattle.emc2305_fan.specs.declared.Fan.{Fan}
use Rattle.emc2305_fan.specs.Drive.{goal, under_ramp, step, period}
use Rattle.emc2305_fan.specs.Ramp.{ramp_of, with_ramp}
use Rattle.emc2305_fan.specs.Tick.{updated, ticked, busy}
use Rattle.emc2305_fan.specs.Promises.{RampTicks, PastPeriod}
use Rattle.emc2305_fan.proofs.Steps.{acts, clock_ticked_is, ticks_ramp, ticks_still}

module _ (f : Fan) (ramp : under_ramp f ≡ true) (still : f.spin.running ≡ false) where
  -- a tick is counted, wherever the ramp stands
  counts : (r : Ramp) → ticked (with_ramp r f) ≡ with_ramp (counted (goal f) (step f) (period f) r) f
  unfolding under_ramp goal
  counts r = ticks_ramp (with_ramp r f) still ramp ∙ clock_ticked_is (with_ramp r f)

  -- so n ticks are n of its ramp
  pub ramp_alone : (n : ℕ) → repeated n ticked f ≡ with_ramp (repeated n (counted (goal f) (step f) (period f)) (ramp_of f)) f
  ramp_alone n = repeated_through (λ (r : Ramp). with_ramp r f) n (counted (goal f) (step f) (period f)) ticked (ramp_of f) counts

pub ramp_ticks : RampTicks
ramp_ticks n f ramp still h =
    ramp_alone f ramp still n ∙ ap (λ (r : Ramp). with_ramp r f) (counted_ticks n (goal f) (step f) (period f) (ramp_of f) h)

pub past_period : PastPeriod
unfolding updated
past_period f ramp still h = ticks_ramp f still ramp ∙ acts f h

-- out of spin-up and without ramp control a fan stays as it is
pub still_ticks_lem : (n : ℕ) (f : Fan) → f.spin.running ≡ false → under_ramp f ≡ false → repeated n ticked f ≡ f
unfolding repeated
still_ticks_lem zero f e r = refl
still_ticks_lem (suc n) f e r = ap ticked (still_ticks_lem n f e r) ∙ ticks_still f e r

-- so does one that is not busy
pub idle : (n : ℕ) (f : Fan) → busy f ≡ false → repeated n ticked f ≡ f
idle n f h =
    still_ticks_lem n f (or_left f.spin.running (under_ramp f) h) (or_right f.spin.running (under_ramp f) h)
