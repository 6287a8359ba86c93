-- Ticks and settling, one law for each way.
use mathlib.Core.Path.{◌≡◌, ap, ◌∙◌}
use mathlib.Core.Bool.{Bool, true, false, cond, and-false}
use Prim.Native.Nat.{ℕ, ◌-◌, ◌≤◌, ◌<◌}
use native.Mathlib.Omega.{arith}
use lib.Dec.{ltb, eqb}
use borrow.Author.Tests.{le-leb, lt-leb, le-ltb, lt-ltb, eq-eqb, ne_eqb, ltb-true, ltb-false}
use Rattle.laws.proofs.Tests.{by_test}
use Rattle.emc2300_duty.specs.declared.Registers.{Registers}
use Rattle.emc2300_duty.specs.declared.Asked.{Asked}
use Rattle.emc2300_duty.specs.declared.Asked.TheVariants.{Duty}
use Rattle.emc2300_duty.specs.Duty.{goal_of}
use Rattle.emc2300_output.specs.declared.Output.{Output}
use Rattle.emc2300_output.specs.State.{placed, in_spin, with_left}
use Rattle.emc2300_output.specs.Ramp.{ramp_control}
use Rattle.emc2300_output.specs.Settling.{spin_length, started, spin_held, starts, duty_set, settled}
use Rattle.emc2300_output.specs.Tick.{clock_ticked, spin_ticked, ticked}

-- in a spin-up ticks are left, out of one none
pub some_left : (o : Output) → in_spin o ≡ true → 1 ≤ o.left
some_left o e = ltb-true 0 o.left e

pub none_left : (o : Output) → in_spin o ≡ false → o.left ≡ 0
none_left o e = let h : o.left ≤ 0 = ltb-false 0 o.left e in omega arith

pub in_spin_lem : (o : Output) → 1 ≤ o.left → in_spin o ≡ true
in_spin_lem o h = lt-ltb 0 o.left h

pub out_of_spin : (o : Output) → o.left ≤ 0 → in_spin o ≡ false
out_of_spin o h = le-ltb 0 o.left h

-- a spin-up goes on before its last tick, and ends with it or past it
pub spins_on : (goal : ℕ) (o : Output) → 1 < o.left → spin_ticked goal o ≡ with_left (o.left - 1) o
unfolding spin_ticked
spins_on goal o h = rw (lt-leb o.left 1 h)

pub spins_out : (goal : ℕ) (o : Output) → o.left ≤ 1 → spin_ticked goal o ≡ placed goal
unfolding spin_ticked
spins_out goal o h = rw (le-leb o.left 1 h)

-- a tick in a spin-up, under ramp control, and otherwise
pub ticks_spin : (r : Registers) (q : Asked) (o : Output) → in_spin o ≡ true → ticked r q o ≡ spin_ticked (goal_of q) o
unfolding ticked
ticks_spin r q o e = ap (λ (t : Bool). cond t (spin_ticked (goal_of q) o) (cond (ramp_control r q) (clock_ticked r q o) o)) e

ticks_out : (r : Registers) (q : Asked) (o : Output) → in_spin o ≡ false → ticked r q o ≡ cond (ramp_control r q) (clock_ticked r q o) o
unfolding ticked
ticks_out r q o e = ap (λ (t : Bool). cond t (spin_ticked (goal_of q) o) (cond (ramp_control r q) (clock_ticked r q o) o)) e

pub ticks_ramp : (r : Registers) (q : Asked) (o : Output) → in_spin o ≡ false → ramp_control r q ≡ true → ticked r q o ≡ clock_ticked r q o
ticks_ramp r q o e c = ticks_out r q o e ∙ ap (λ (t : Bool). cond t (clock_ticked r q o) o) c

pub ticks_still : (r : Registers) (q : Asked) (o : Output) → in_spin o ≡ false → ramp_control r q ≡ false → ticked r q o ≡ o
ticks_still r q o e c = ticks_out r q o e ∙ ap (λ (t : Bool). cond t (clock_ticked r q o) o) c

-- settling in a spin-up, and out of one
pub settles_spin : (r : Registers) (goal : ℕ) (o : Output) → in_spin o ≡ true → settled r (Duty goal) o ≡ spin_held goal o
unfolding settled
settles_spin r goal o e =
    ap (λ (t : Bool). cond t (spin_held goal o) (duty_set (spin_length r) (ramp_control r (Duty goal)) goal o)) e

pub settles_out : (r : Registers) (goal : ℕ) (o : Output) → in_spin o ≡ false
    → settled r (Duty goal) o ≡ duty_set (spin_length r) (ramp_control r (Duty goal)) goal o
unfolding settled
settles_out r goal o e =
    ap (λ (t : Bool). cond t (spin_held goal o) (duty_set (spin_length r) (ramp_control r (Duty goal)) goal o)) e

-- in a spin-up goal 0 ends it, any other goal does nothing
pub held_ends : (goal : ℕ) (o : Output) → goal ≡ 0 → spin_held goal o ≡ placed 0
held_ends goal o e = rw (eq-eqb goal 0 e)

pub held_on : (goal : ℕ) (o : Output) → (goal ≡ 0 → ⊥) → spin_held goal o ≡ o
held_on goal o h = rw (ne_eqb goal 0 h)

-- from standstill a spin-up starts, where there is a goal
pub sets_start : (length goal : ℕ) (ramped : Bool) (o : Output) → o.duty ≡ 0 → 1 ≤ goal → duty_set length ramped goal o ≡ started length goal
unfolding duty_set
sets_start length goal ramped o e h = rw (eq-eqb o.duty 0 e, lt-ltb 0 goal h)

-- elsewhere the ramp goes on, or the duty is the goal
pub sets_ramp : (length goal : ℕ) (o : Output) → starts goal o ≡ false → duty_set length true goal o ≡ o
unfolding duty_set
sets_ramp length goal o e = rw e

pub sets_goal : (length goal : ℕ) (o : Output) → starts goal o ≡ false → duty_set length false goal o ≡ placed goal
unfolding duty_set
sets_goal length goal o e = rw e

-- a duty above 0, or goal 0, is no standstill
pub no_start : (goal : ℕ) (o : Output) → (1 ≤ goal → 1 ≤ o.duty) → starts goal o ≡ false
no_start goal o h =
    by_test (ltb 0 goal)
    (λ t.
    let d : 1 ≤ o.duty = h (ltb-true 0 goal t) in
    rw (ne_eqb o.duty 0 (λ e. omega arith)))
    (λ f. rw (f, and-false (eqb o.duty 0)))

-- a spin-up of no ticks ends at once
pub starts_at_once : (length goal : ℕ) → length ≡ 0 → started length goal ≡ placed goal
unfolding started
starts_at_once length goal e = rw (eq-eqb length 0 e)

pub starts_on : (length goal : ℕ) → (length ≡ 0 → ⊥) → started length goal ≡ record { duty = 0; clock = 0; left = length }
unfolding started
starts_on length goal h = rw (ne_eqb length 0 h)
