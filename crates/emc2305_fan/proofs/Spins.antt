-- Ticks in spin-up, and its end.
use mathlib.Core.Path.{◌≡◌, refl, ap, ◌∙◌}
use mathlib.Core.Bool.{true, and-false, or-true, or-false}
use Prim.Native.Nat.{ℕ, zero, suc, ◌+◌, ◌-◌, ◌/◌, ◌≤◌, ◌<◌}
use native.Mathlib.Omega.{arith}
use native.Mathlib.Nat.{add-zero, add-suc}
use native.Mathlib.Numerals.{add-one}
use lib.Dec.{eqb}
use borrow.Author.Tests.{lt-ltb, le-ltb}
use Rattle.laws.specs.Repeat.{repeated}
use Rattle.laws.proofs.Repeat.{last_step}
use Rattle.laws.proofs.Tests.{by_test}
use Rattle.emc2305_fan.specs.declared.Fan.{Fan}
use Rattle.emc2305_fan.specs.Registers.{target_high}
use Rattle.emc2305_fan.specs.Drive.{goal, under_ramp}
use Rattle.emc2305_fan.specs.Spin.{spin_length, spin_kick, spin_new, spin_on, spin_drive, in_spin, started, too_slow, spin_failed, spin_over}
use Rattle.emc2305_fan.specs.Tick.{ticked}
use Rattle.emc2305_fan.specs.Promises.{SpinTicks, SpinDrives, LastDirect, LastClosed, SpunDirect, SpunClosed, drive_after, spun_up}
use Rattle.emc2305_fan.proofs.TableRules.{length_some}
use Rattle.emc2305_fan.proofs.Steps.{ticks_spin, spins_on, spins_out}

pub spin_ticks : SpinTicks
unfolding repeated
spin_ticks zero s f run h = rw (add-zero s.ticks)
spin_ticks (suc n) s f run h =
    ap ticked (spin_ticks n s f run (omega arith))
    ∙ ticks_spin (in_spin (spin_on n s) f) run
    ∙ spins_on (in_spin (spin_on n s) f) (omega arith)
    ∙ rw (add-one (s.ticks + n), add-suc s.ticks n)

-- the drive of the spin-up that has just started, n ticks on
drive_then : (n : ℕ) (f : Fan) → n < spin_length f → drive_after (started f) n ≡ spin_drive (spin_on n (spin_new f))
unfolding started
drive_then n f h = ap (λ (g : Fan). g.drive) (spin_ticks n (spin_new f) f refl (omega arith))

pub spin_drives : SpinDrives
unfolding spin_drive
spin_drives n f h = (
  λ kick early. drive_then n f h ∙ rw (kick, lt-ltb (0 + n) (spin_length f / 4) (omega arith)),
  λ late. drive_then n f h ∙ rw (le-ltb (0 + n) (spin_length f / 4) (omega arith), and-false (spin_kick f)),
  λ kick. drive_then n f h ∙ rw kick,
)

-- the last tick, or one past it
last : (f : Fan) → f.spin.running ≡ true → f.spin.length ≤ f.spin.ticks + 1 → ticked f ≡ spin_over f
last f run h = ticks_spin f run ∙ spins_out f h

pub last_direct : LastDirect
unfolding spin_over spin_failed too_slow under_ramp goal
last_direct f run h direct =
    last f run h
    ∙ by_test (too_slow f) (λ t. rw (t, direct, or-true f.failed)) (λ t. rw (t, direct, or-false f.failed))

pub last_closed : LastClosed
unfolding spin_over spin_failed too_slow under_ramp goal started
last_closed f run h closed = (
  λ slow. last f run h ∙ rw (slow, closed),
  λ fast. last f run h ∙ rw (fast, closed) (by_test (eqb (target_high f) 0xFF) (λ t. rw t) (λ t. rw t)),
)

-- the fan before the last tick of a spin-up, with nothing since its start
abbrev before_last : Fan → Fan
before_last f = in_spin (spin_on (spin_length f - 1) (spin_new f)) f

to_last : (f : Fan) → spun_up f ≡ ticked (before_last f)
unfolding started
to_last f =
    let h = length_some f in
    last_step (spin_length f) ticked (started f) h
    ∙ ap ticked (spin_ticks (spin_length f - 1) (spin_new f) f refl (omega arith))

pub spun_direct : SpunDirect
unfolding too_slow
spun_direct f direct = to_last f ∙ last_direct (before_last f) refl (omega (arith, length_some f)) direct

pub spun_closed : SpunClosed
unfolding too_slow started
spun_closed f closed =
    let l = last_closed (before_last f) refl (omega (arith, length_some f)) closed in
    (λ slow. to_last f ∙ l.0 slow, λ fast. to_last f ∙ l.1 fast)
