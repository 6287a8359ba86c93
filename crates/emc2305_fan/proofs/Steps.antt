-- Ticks, stored writes and samples, one law for each way.
use mathlib.Core.Path.{◌≡◌, ap, ◌∙◌}
use mathlib.Core.Bool.{Bool, true, false, cond}
use Prim.Native.Nat.{ℕ, ◌+◌, ◌≤◌, ◌<◌}
use lib.Dec.{leb}
use borrow.Author.Tests.{le-leb, lt-leb, eq-eqb, ne_eqb}
use Rattle.laws.proofs.Tests.{by_test}
use Rattle.ramps.specs.Ramp.{counted}
use Rattle.emc2305_fan.specs.declared.Fan.{Fan}
use Rattle.emc2305_fan.specs.State.{with_drive}
use Rattle.emc2305_fan.specs.Registers.{closed_loop, stores}
use Rattle.emc2305_fan.specs.Drive.{goal, under_ramp, step, period}
use Rattle.emc2305_fan.specs.Ramp.{ramp_of, with_ramp}
use Rattle.emc2305_fan.specs.Spin.{in_spin, spin_on, started, ended, too_slow, spin_over, spin_tick}
use Rattle.emc2305_fan.specs.Tick.{updated, clock_ticked, ticked}
use Rattle.emc2305_fan.specs.Stored.{put, wish_taken, clock_set, spin_held, spin_starts, drive_set, settled, written}
use Rattle.emc2305_fan.specs.Tach.{judged, judged_stall}

-- at or past the period it acts
pub acts : (f : Fan) → period f ≤ f.clock + 1 → clock_ticked f ≡ updated f
unfolding clock_ticked
acts f h = rw (le-leb (period f) (f.clock + 1) h)

-- a counted tick is one of the ramp
pub clock_ticked_is : (f : Fan) → clock_ticked f ≡ with_ramp (counted (goal f) (step f) (period f) (ramp_of f)) f
unfolding clock_ticked updated counted
clock_ticked_is f = by_test (leb (period f) (f.clock + 1)) (λ t. rw t) (λ t. rw t)

-- a spin-up goes on before its last tick
pub spins_on : (f : Fan) → f.spin.ticks + 1 < f.spin.length → spin_tick f ≡ in_spin (spin_on 1 f.spin) f
unfolding spin_tick
spins_on f h = rw (lt-leb f.spin.length (f.spin.ticks + 1) h)

-- at or past its last it is over
pub spins_out : (f : Fan) → f.spin.length ≤ f.spin.ticks + 1 → spin_tick f ≡ spin_over f
unfolding spin_tick
spins_out f h = rw (le-leb f.spin.length (f.spin.ticks + 1) h)

-- a tick in spin-up
pub ticks_spin : (f : Fan) → f.spin.running ≡ true → ticked f ≡ spin_tick f
unfolding ticked
ticks_spin f e = ap (λ (t : Bool). cond t (spin_tick f) (cond (under_ramp f) (clock_ticked f) f)) e

-- a tick out of spin-up
ticks_out : (f : Fan) → f.spin.running ≡ false → ticked f ≡ cond (under_ramp f) (clock_ticked f) f
unfolding ticked
ticks_out f e = ap (λ (t : Bool). cond t (spin_tick f) (cond (under_ramp f) (clock_ticked f) f)) e

pub ticks_ramp : (f : Fan) → f.spin.running ≡ false → under_ramp f ≡ true → ticked f ≡ clock_ticked f
ticks_ramp f e r = ticks_out f e ∙ ap (λ (t : Bool). cond t (clock_ticked f) f) r

pub ticks_still : (f : Fan) → f.spin.running ≡ false → under_ramp f ≡ false → ticked f ≡ f
ticks_still f e r = ticks_out f e ∙ ap (λ (t : Bool). cond t (clock_ticked f) f) r

-- a stored write in spin-up, and out of it
pub settles_spin : (f : Fan) → f.spin.running ≡ true → settled f ≡ spin_held f
unfolding settled
settles_spin f e = ap (λ (t : Bool). cond t (spin_held f) (drive_set f)) e

pub settles_out : (f : Fan) → f.spin.running ≡ false → settled f ≡ drive_set f
unfolding settled
settles_out f e = ap (λ (t : Bool). cond t (spin_held f) (drive_set f)) e

-- in spin-up a stored write with goal 0 ends it, any other does nothing
pub held_ends : (f : Fan) → goal f ≡ 0 → spin_held f ≡ ended 0 f
held_ends f e = rw (eq-eqb (goal f) 0 e)

pub held_on : (f : Fan) → (goal f ≡ 0 → ⊥) → spin_held f ≡ f
held_on f h = rw (ne_eqb (goal f) 0 h)

-- out of spin-up it starts one, or lets the ramp go on, or sets the drive
pub sets_start : (f : Fan) → spin_starts f ≡ true → drive_set f ≡ started f
sets_start f e = rw e

pub sets_ramp : (f : Fan) → spin_starts f ≡ false → under_ramp f ≡ true → drive_set f ≡ f
sets_ramp f e r = rw (e, r)

pub sets_goal : (f : Fan) → spin_starts f ≡ false → under_ramp f ≡ false → drive_set f ≡ with_drive (goal f) f
sets_goal f e r = rw (e, r)

-- a write that is stored
pub writes : (o b : ℕ) (f : Fan) → stores f o ≡ true
    → written o b f ≡ settled (clock_set o (wish_taken (closed_loop f) (put o b f)))
unfolding written
writes o b f e = rw e

-- a sample that is not slow is no stall
pub healthy : (w : Bool) (f : Fan) → too_slow f ≡ false → judged_stall w f ≡ f
healthy w f s = by_test (judged w f) (λ t. rw (t, s)) (λ t. rw t)
