-- Ticks: of a spin-up, under ramp control, and otherwise.
use mathlib.Core.Path.{◌≡◌, refl, sym, ap, ◌∙◌}
use mathlib.Core.Bool.{true, false, true≢false}
use Prim.Native.Nat.{ℕ, zero, suc, ◌+◌, ◌-◌, ◌/◌, ◌%◌, ◌≤◌, ◌<◌}
use native.Mathlib.Omega.{arith}
use native.Mathlib.Nat.{one-mul, add-zero, div-one}
use lib.Dec.{leb}
use borrow.Author.Tests.{leb-true, leb-false}
use Rattle.laws.specs.Repeat.{repeated}
use Rattle.laws.proofs.Repeat.{last_step, first_steps, repeated_through}
use Rattle.laws.proofs.Tests.{by_test, and_left, and_right}
use Rattle.ramps.specs.declared.Ramp.{Ramp}
use Rattle.ramps.specs.Ramp.{distance, moved, counted}
use Rattle.ramps.specs.Promises.{updates_to}
use Rattle.ramps.proofs.Ticks as ramp
use Rattle.emc2300_duty.specs.declared.Registers.{Registers}
use Rattle.emc2300_duty.specs.declared.Asked.{Asked}
use Rattle.emc2300_duty.specs.Duty.{goal_of}
use Rattle.emc2300_output.specs.declared.Output.{Output}
use Rattle.emc2300_output.specs.State.{placed, in_spin, with_left, ramp_of, with_ramp}
use Rattle.emc2300_output.specs.Ramp.{rate_of, ramp_control}
use Rattle.emc2300_output.specs.Tick.{ticked}
use Rattle.emc2300_output.specs.Promises.{RampTicks, ArrivalTick, PastRate, StillTicks, SpinTicks, LastTick}
use Rattle.emc2300_output.proofs.Steps.{some_left, in_spin_lem, spins_on, spins_out, ticks_spin, ticks_ramp, ticks_still}

module _ (r : Registers) (q : Asked) where
  -- a tick is counted, wherever the ramp stands
  counts : (o : Output) → ramp_control r q ≡ true → in_spin o ≡ false → (x : Ramp)
      → ticked r q (with_ramp x o) ≡ with_ramp (counted (goal_of q) 1 (rate_of r) x) o
  counts o control still x = ticks_ramp r q (with_ramp x o) still control

  -- n ticks are those of the ramp
  pub ramp_alone : (n : ℕ) (o : Output) → ramp_control r q ≡ true → in_spin o ≡ false
      → repeated n (ticked r q) o ≡ with_ramp (repeated n (counted (goal_of q) 1 (rate_of r)) (ramp_of o)) o
  ramp_alone n o control still =
      repeated_through (λ (x : Ramp). with_ramp x o) n (counted (goal_of q) 1 (rate_of r)) (ticked r q) (ramp_of o) (counts o control still)

  -- out of a spin-up none starts
  out_stays : (n : ℕ) (o : Output) → in_spin o ≡ false → in_spin (repeated n (ticked r q) o) ≡ false
  unfolding repeated
  out_stays zero o e = e
  out_stays (suc n) o e =
      let p = repeated n (ticked r q) o in
      let still = out_stays n o e in
      by_test (ramp_control r q) (λ t. rw (ticks_ramp r q p still t) still) (λ t. rw (ticks_still r q p still t) still)

  -- n ticks of a spin-up before its last
  spun : (n : ℕ) (o : Output) → n < o.left → repeated n (ticked r q) o ≡ with_left (o.left - n) o
  unfolding repeated
  spun zero o h = let e : o.left ≡ o.left - 0 = omega arith in ap (λ (k : ℕ). with_left k o) e
  spun (suc n) o h =
      let p = with_left (o.left - n) o in
      let e : o.left - n - 1 ≡ o.left - suc n = omega arith in
      ap (ticked r q) (spun n o (omega arith))
      ∙ ticks_spin r q p (in_spin_lem p (omega arith))
      ∙ spins_on (goal_of q) p (omega arith)
      ∙ ap (λ (k : ℕ). with_left k o) e

  -- and all of them
  spun_out : (o : Output) → 1 ≤ o.left → repeated o.left (ticked r q) o ≡ placed (goal_of q)
  spun_out o h =
      let p = with_left (o.left - (o.left - 1)) o in
      last_step o.left (ticked r q) o h
      ∙ ap (ticked r q) (spun (o.left - 1) o (omega arith))
      ∙ ticks_spin r q p (in_spin_lem p (omega arith))
      ∙ spins_out (goal_of q) p (omega arith)

  -- n ticks with a spin-up's last among them: the goal, and the ticks that are over
  pub spun_past : (n : ℕ) (o : Output) → 1 ≤ o.left → o.left ≤ n
      → repeated n (ticked r q) o ≡ repeated (n - o.left) (ticked r q) (placed (goal_of q))
  spun_past n o h l =
      sym (first_steps o.left n (ticked r q) o l) ∙ ap (repeated (n - o.left) (ticked r q)) (spun_out o h)

pub ramp_ticks : RampTicks
ramp_ticks n r q o control still h =
    let g = goal_of q in
    let u = rate_of r in
    ramp_alone r q n o control still
    ∙ ap (λ (x : Ramp). with_ramp x o) (ramp.counted_ticks n g 1 u (ramp_of o) h)
    ∙ ap (λ (k : ℕ). with_ramp (record { drive = moved o.duty g k; clock = (o.clock + n) % u }) o) (one-mul ((o.clock + n) / u))

pub arrival_tick : ArrivalTick
arrival_tick n r q o control still h =
    let g = goal_of q in
    let u = rate_of r in
    let e : updates_to o.duty g 1 ≡ distance o.duty g = div-one (distance o.duty g + 0) ∙ add-zero (distance o.duty g) in
    rw (ramp_alone r q n o control still, ← e) (ramp.arrival_tick n g 1 u (ramp_of o) h (omega arith))

pub past_rate : PastRate
past_rate r q o control still h =
    ticks_ramp r q o still control ∙ ap (λ (x : Ramp). with_ramp x o) (ramp.past_period (goal_of q) 1 (rate_of r) (ramp_of o) h)

pub still_ticks_lem : StillTicks
unfolding repeated
still_ticks_lem zero r q o control still = refl
still_ticks_lem (suc n) r q o control still =
    ap (ticked r q) (still_ticks_lem n r q o control still) ∙ ticks_still r q o still control

pub spin_ticks : SpinTicks
spin_ticks n r q o = (spun r q n o, λ h e. rw e (spun_out r q o h))

pub last_tick_lem : LastTick
last_tick_lem n r q o = (
  λ e.
      let s = and_left (in_spin o) (leb o.left n) e in
      let l = leb-true o.left n (and_right (in_spin o) (leb o.left n) e) in
      (s, rw (spun_past r q n o (some_left o s) l) (out_stays r q (n - o.left) (placed (goal_of q)) refl)),
  λ (s, over).
      by_test (leb o.left n) (λ l. rw (s, l))
      (λ f.
      let l : n < o.left = leb-false o.left n f in
      let p = with_left (o.left - n) o in
      absurd (true≢false (sym (in_spin_lem p (omega arith)) ∙ ap in_spin (sym (spun r q n o l)) ∙ over))),
)
