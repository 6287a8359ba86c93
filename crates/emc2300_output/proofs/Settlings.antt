-- Settling: at once, from standstill, and again.
use mathlib.Core.Path.{◌≡◌, refl, sym, ap, ◌∙◌}
use mathlib.Core.Bool.{true, false, and-false}
use Prim.Native.Nat.{ℕ, zero, suc, ◌+◌, ◌-◌, ◌≤◌, ◌<◌}
use native.Mathlib.Omega.{arith}
use lib.Dec.{leb, ltb, eqb}
use borrow.Author.Tests.{leb-true, leb-false, eqb-true, eqb-false, ltb-true}
use Rattle.laws.specs.Bits.{bit}
use Rattle.laws.specs.Repeat.{repeated}
use Rattle.laws.proofs.Tests.{by_test, and_right}
use Rattle.ramps.specs.declared.Ramp.{Ramp}
use Rattle.ramps.specs.Ramp.{moved, counted}
use Rattle.ramps.proofs.Moves.{up, down}
use Rattle.ramps.proofs.Ticks as ramp
use Rattle.emc2300_duty.specs.declared.Registers.{Registers}
use Rattle.emc2300_duty.specs.declared.Asked.{Asked}
use Rattle.emc2300_duty.specs.declared.Asked.TheVariants.{Full, Off, Duty}
use Rattle.emc2300_duty.specs.Duty.{goal_of}
use Rattle.emc2300_output.specs.declared.Output.{Output}
use Rattle.emc2300_output.specs.State.{placed, in_spin, with_left, ramp_of}
use Rattle.emc2300_output.specs.Ramp.{rate_of, ramp_control}
use Rattle.emc2300_output.specs.Settling.{spin_length, started, spin_held, starts, duty_set, settled}
use Rattle.emc2300_output.specs.Tick.{ticked, spun_up}
use Rattle.emc2300_output.specs.Promises.{FromStandstill, AtOnce, ZeroAtOnce, SettledOnce, StaysSettled, NotStanding}
use Rattle.emc2300_output.proofs.Steps.{some_left, none_left, in_spin_lem, spins_on, spins_out, ticks_spin, ticks_ramp, ticks_still, settles_spin, settles_out, held_ends, held_on, sets_start, sets_ramp, sets_goal, no_start, starts_at_once, starts_on}
use Rattle.emc2300_output.proofs.Passing.{spin_ticks}

-- full and off ask for no duty
no_duty : (r : Registers) → (ramp_control r Full ≡ false) × (ramp_control r Off ≡ false)
unfolding ramp_control
no_duty r = (refl, refl)

pub at_once : AtOnce
unfolding settled
at_once r o = (refl, refl)

-- an output at its goal, out of a spin-up, is settled
placed_settled : (r : Registers) (q : Asked) → settled r q (placed (goal_of q)) ≡ placed (goal_of q)
unfolding settled
placed_settled r Full = refl
placed_settled r Off = refl
placed_settled r (Duty g) =
    let l = spin_length r in
    let e = no_start g (placed g) (λ h. h) in
    by_test (ramp_control r (Duty g)) (λ t. rw t (sets_ramp l g (placed g) e)) (λ t. rw t (sets_goal l g (placed g) e))

-- a start, where there is a goal, is settled
started_settled : (r : Registers) (g : ℕ) → 1 ≤ g → settled r (Duty g) (started (spin_length r) g) ≡ started (spin_length r) g
started_settled r g h =
    let l = spin_length r in
    by_test (eqb l 0) (λ t. rw (starts_at_once l g (eqb-true l 0 t)) (placed_settled r (Duty g)))
    (λ f.
    let some : l ≡ 0 → ⊥ = eqb-false l 0 f in
    let o : Output = record { duty = 0; clock = 0; left = l } in
    rw (starts_on l g some)
    (settles_spin r g o (in_spin_lem o (omega (arith, some))) ∙ held_on g o (λ e. omega arith)))

-- settled, out of a spin-up and asked for a duty above 0: it does not stand
not_zero : (r : Registers) (g : ℕ) (o : Output) → settled r (Duty g) o ≡ o → in_spin o ≡ false → 1 ≤ g → 1 ≤ o.duty
not_zero r g o e still h =
    let l = spin_length r in
    by_test (eqb o.duty 0)
    (λ t.
    let s : started l g ≡ o = sym (sets_start l g (ramp_control r (Duty g)) o (eqb-true o.duty 0 t) h) ∙ sym (settles_out r g o still) ∙ e in
    by_test (eqb l 0)
    (λ z.
    let p : placed g ≡ o = sym (starts_at_once l g (eqb-true l 0 z)) ∙ s in
    let d : g ≡ o.duty = ap (λ (x : Output). x.duty) p in
    omega (arith, d, h))
    (λ z.
    let p : record { duty = 0; clock = 0; left = l } ≡ o = sym (starts_on l g (eqb-false l 0 z)) ∙ s in
    let d : l ≡ o.left = ap (λ (x : Output). x.left) p in
    absurd (eqb-false l 0 z (d ∙ none_left o still))))
    (λ f. omega (arith, eqb-false o.duty 0 f))

pub not_standing : NotStanding
unfolding settled
not_standing r Full o e still h = let d : 255 ≡ o.duty = ap (λ (x : Output). x.duty) e in omega (arith, d)
not_standing r Off o e still h = absurd (omega arith)
not_standing r (Duty g) o e still h = not_zero r g o e still h

-- a duty above 0 does not come to 0 on its way to one above 0
moved_some : (d g : ℕ) → 1 ≤ d → 1 ≤ g → 1 ≤ moved d g 1
moved_some d g h k =
    by_test (leb d g) (λ t. rw (up d g 1 (leb-true d g t)) (omega arith))
    (λ f. let l : g < d = leb-false d g f in rw (down d g 1 (omega arith)) (omega arith))

counted_some : (g u : ℕ) (x : Ramp) → 1 ≤ x.drive → 1 ≤ g → 1 ≤ (counted g 1 u x).drive
counted_some g u x h k =
    by_test (leb u (x.clock + 1)) (λ t. rw (ramp.past_period g 1 u x (leb-true u (x.clock + 1) t)) (moved_some x.drive g h k))
    (λ f. rw (ramp.waits g 1 u x (leb-false u (x.clock + 1) f)) h)

-- a settled output in a spin-up has a goal
goal_there : (r : Registers) (g : ℕ) (o : Output) → settled r (Duty g) o ≡ o → in_spin o ≡ true → 1 ≤ g
goal_there r g o e spin =
    by_test (eqb g 0)
    (λ t.
    let p : placed 0 ≡ o = sym (held_ends g o (eqb-true g 0 t)) ∙ sym (settles_spin r g o spin) ∙ e in
    let d : 0 ≡ o.left = ap (λ (x : Output). x.left) p in
    omega (arith, d, some_left o spin))
    (λ f. omega (arith, eqb-false g 0 f))

-- one tick leaves a settled output settled: in a spin-up, under ramp control, otherwise
spin_tick_settled : (r : Registers) (g : ℕ) (o : Output) → settled r (Duty g) o ≡ o → in_spin o ≡ true
    → settled r (Duty g) (ticked r (Duty g) o) ≡ ticked r (Duty g) o
spin_tick_settled r g o e spin =
    let h = goal_there r g o e spin in
    rw (ticks_spin r (Duty g) o spin)
    (by_test (leb o.left 1) (λ t. rw (spins_out g o (leb-true o.left 1 t)) (placed_settled r (Duty g)))
    (λ f.
    let l : 1 < o.left = leb-false o.left 1 f in
    let p = with_left (o.left - 1) o in
    rw (spins_on g o l) (settles_spin r g p (in_spin_lem p (omega arith)) ∙ held_on g p (λ z. omega arith))))

ramp_tick_settled : (r : Registers) (g : ℕ) (o : Output) → settled r (Duty g) o ≡ o → in_spin o ≡ false → ramp_control r (Duty g) ≡ true
    → settled r (Duty g) (ticked r (Duty g) o) ≡ ticked r (Duty g) o
ramp_tick_settled r g o e still control =
    let p = ticked r (Duty g) o in
    let t = ticks_ramp r (Duty g) o still control in
    let out : in_spin p ≡ false = ap in_spin t ∙ still in
    let some : 1 ≤ g → 1 ≤ p.duty = λ h. rw t (counted_some g (rate_of r) (ramp_of o) (not_zero r g o e still h) h) in
    settles_out r g p out ∙ rw control (sets_ramp (spin_length r) g p (no_start g p some))

tick_settled : (r : Registers) (q : Asked) (o : Output) → settled r q o ≡ o → settled r q (ticked r q o) ≡ ticked r q o
unfolding settled
tick_settled r Full o e = rw (← e) (sym (ticks_still r Full (placed 255) refl (no_duty r).0))
tick_settled r Off o e = rw (← e) (sym (ticks_still r Off (placed 0) refl (no_duty r).1))
tick_settled r (Duty g) o e =
    by_test (in_spin o) (spin_tick_settled r g o e)
    (λ still.
    by_test (ramp_control r (Duty g)) (ramp_tick_settled r g o e still)
    (λ f. rw (ticks_still r (Duty g) o still f) e))

ticks_settled : (n : ℕ) (r : Registers) (q : Asked) (o : Output) → settled r q o ≡ o
    → settled r q (repeated n (ticked r q) o) ≡ repeated n (ticked r q) o
unfolding repeated
ticks_settled zero r q o e = e
ticks_settled (suc n) r q o e = tick_settled r q (repeated n (ticked r q) o) (ticks_settled n r q o e)

spun_settled : (r : Registers) (q : Asked) (o : Output) → settled r q o ≡ o → settled r q (spun_up q o) ≡ spun_up q o
unfolding spun_up
spun_settled r q o e = by_test (in_spin o) (λ t. rw t (placed_settled r q)) (λ t. rw t e)

pub stays_settled : StaysSettled
stays_settled n r q o e = (ticks_settled n r q o e, spun_settled r q o e)

-- settling a duty, once and again
held_settled : (r : Registers) (g : ℕ) (o : Output) → in_spin o ≡ true → settled r (Duty g) (spin_held g o) ≡ spin_held g o
held_settled r g o spin =
    by_test (eqb g 0) (λ t. let z = eqb-true g 0 t in rw (held_ends g o z) (rw z (placed_settled r (Duty 0))))
    (λ f. let h = held_on g o (eqb-false g 0 f) in rw h (settles_spin r g o spin ∙ h))

set_settled : (r : Registers) (g : ℕ) (o : Output) → in_spin o ≡ false
    → let p : Output = duty_set (spin_length r) (ramp_control r (Duty g)) g o in settled r (Duty g) p ≡ p
unfolding duty_set
set_settled r g o still =
    by_test (starts g o)
    (λ t. rw t (started_settled r g (ltb-true 0 g (and_right (eqb o.duty 0) (ltb 0 g) t))))
    (λ f.
    by_test (ramp_control r (Duty g)) (λ t. rw (f, t) (settles_out r g o still ∙ rw t (sets_ramp (spin_length r) g o f)))
    (λ t. rw (f, t) (placed_settled r (Duty g))))

pub settled_once : SettledOnce
unfolding settled
settled_once r Full o = refl
settled_once r Off o = refl
settled_once r (Duty g) o =
    by_test (in_spin o) (λ t. rw t (held_settled r g o t)) (λ t. rw t (set_settled r g o t))

pub zero_at_once_lem : ZeroAtOnce
unfolding ramp_control
zero_at_once_lem r o =
    let held : in_spin o ≡ true → settled r (Duty 0) o ≡ placed 0 = λ t. settles_spin r 0 o t ∙ held_ends 0 o refl in (
      λ z.
          by_test (in_spin o) held
          (λ f.
          let c : ramp_control r (Duty 0) ≡ false = rw z (and-false (bit 3 r.ramp)) in
          settles_out r 0 o f ∙ rw c (sets_goal (spin_length r) 0 o (no_start 0 o (λ h. absurd (omega arith))))),
      held,
    )

pub from_standstill : FromStandstill
unfolding repeated
from_standstill n g r o still stands some =
    let l = spin_length r in
    let q : Asked = Duty g in
    let begins : settled r q o ≡ started l g = settles_out r g o still ∙ sets_start l g (ramp_control r q) o stands some in
    rw begins
    (by_test (eqb l 0)
    (λ t.
    let z = eqb-true l 0 t in
    (λ h. absurd (omega (arith, h, z)), rw (starts_at_once l g z, z) refl))
    (λ f.
    let z = eqb-false l 0 f in
    let s : Output = record { duty = 0; clock = 0; left = l } in
    let p = spin_ticks n r q s in
    let all = spin_ticks l r q s in
    rw (starts_on l g z) (p.0, all.1 (omega (arith, z)) refl)))
