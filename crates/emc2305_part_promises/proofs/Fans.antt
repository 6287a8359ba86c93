-- Fans alike, and what keeps them so: a move of all, and another state of one that both have; what an undriven fan shows in 25h, 26h and the alert line.
use mathlib.Core.Path.{◌≡◌, refl, sym, ap, subst, ◌∙◌}
use mathlib.Core.Bool.{Bool, true, false, cond, and-false, or-false}
use mathlib.Core.List.{List}
use Prim.Native.Nat.{ℕ, zero, suc, ◌+◌, ◌-◌, ◌≤◌, ◌<◌}
use native.Mathlib.Omega.{arith}
use native.Mathlib.Nat.{add-zero, add-suc}
use lib.Dec.{leb, eqb}
use lib.ListN.{set, length-set}
use lib.Seq.{get_or-set_same, get_or-set_other}
use borrow.Author.Tests.{eqb-true, eqb-false}
use Rattle.laws.specs.Lists.{first_moved}
use Rattle.laws.proofs.Lists.{moved_at, length_moved}
use Rattle.laws.proofs.Tests.{by_test}
use Rattle.emc2305_fan.specs.declared.Bit.{Bit}
use Rattle.emc2305_fan.specs.declared.Bit.TheVariants.{Stall, Spin}
use Rattle.emc2305_fan.specs.declared.Fan.{Fan}
use Rattle.emc2305_fan.specs.Drive.{under_ramp, period}
use Rattle.emc2305_fan.specs.Spin.{spin_tick}
use Rattle.emc2305_fan.specs.Tick.{updated, clock_ticked, ticked}
use Rattle.emc2305_fan.specs.Tach.{fired}
use Rattle.emc2305_fan.specs.Status.{standing, stuck, bit_read}
use Rattle.emc2305_chip.specs.Fans.{no_fan, fan_at, bits_of, interrupting}
use Rattle.emc2305_part_promises.specs.Alike.{Undriven, FansAlike}

-- an undriven fan stays one over a tick, the watchdog's firing, a read of 25h or 26h
undriven_clock : (f : Fan) → Undriven f → Undriven (clock_ticked f)
unfolding clock_ticked updated
undriven_clock f u = by_test (leb (period f) (f.clock + 1)) (λ p. rw p u) (λ p. rw p u)

either_undriven : (t : Bool) (f g : Fan) → Undriven f → Undriven g → Undriven (cond t f g)
either_undriven true f g u v = u
either_undriven false f g u v = v

pub undriven_ticked : (f : Fan) → Undriven f → Undriven (ticked f)
unfolding ticked
undriven_ticked f u =
    subst (λ (running : Bool). Undriven (cond running (spin_tick f) (cond (under_ramp f) (clock_ticked f) f))) (sym u.2)
    (either_undriven (under_ramp f) (clock_ticked f) f (undriven_clock f u) u)

pub undriven_fired : (f : Fan) → Undriven f → Undriven (fired f)
unfolding fired
undriven_fired f u = (u.0, u.1, refl)

pub undriven_read : (which : Bit) (f : Fan) → Undriven f → Undriven (bit_read which f)
unfolding bit_read
undriven_read Stall f u = by_test (stuck f) (λ t. rw t u) (λ t. rw t (refl, u.1, u.2))
undriven_read Spin f u = by_test (stuck f) (λ t. rw t u) (λ t. rw t (u.0, refl, u.2))

undriven_stands : (which : Bit) (f : Fan) → Undriven f → standing which f ≡ false
undriven_stands Stall f u = u.0
undriven_stands Spin f u = u.1

module _ (count : ℕ) (few : count ≤ 5) (fans five : List Fan) (alike : FansAlike count fans five) where
  -- a move of every fan that there is
  pub moved_alike : (move : Fan → Fan) → ((f : Fan) → Undriven f → Undriven (move f)) → FansAlike count (first_moved count move fans) (first_moved 5 move five)
  moved_alike move keep = (
    length_moved count move fans ∙ alike.0,
    length_moved 5 move five ∙ alike.1,
    λ i h.
        moved_at count move fans i no_fan h (omega (arith, alike.0)) ∙ ap move (alike.2 i h)
        ∙ sym (moved_at 5 move five i no_fan (omega arith) (omega (arith, alike.1))),
    λ i h l. rw (moved_at 5 move five i no_fan l (omega (arith, alike.1))) (keep (fan_at five i) (alike.3 i h l)),
  )

  -- another state of a fan that both have
  pub set_alike : (k : ℕ) (f g : Fan) → k < count → f ≡ g → FansAlike count (set fans k f) (set five k g)
  set_alike k f g h e = (
    length-set fans k f ∙ alike.0,
    length-set five k g ∙ alike.1,
    λ i l.
        by_test (eqb i k)
        (λ t.
        rw (eqb-true i k t)
        (get_or-set_same fans k f no_fan (omega (arith, alike.0)) ∙ e ∙ sym (get_or-set_same five k g no_fan (omega (arith, alike.1)))))
        (λ t.
        let other = eqb-false i k t in
        get_or-set_other fans k i f no_fan other ∙ alike.2 i l ∙ sym (get_or-set_other five k i g no_fan other)),
    λ i l m. rw (get_or-set_other five k i g no_fan (λ same. omega arith)) (alike.3 i l m),
  )

  -- the bits of 25h and 26h
  bits_first : (which : Bit) (n : ℕ) → n ≤ count → bits_of which fans n ≡ bits_of which five n
  unfolding bits_of
  bits_first which zero h = refl
  bits_first which (suc n) h = rw (bits_first which n (omega arith), alike.2 n (omega arith))

  bits_past : (which : Bit) (n : ℕ) → count + n ≤ 5 → bits_of which five (count + n) ≡ bits_of which five count
  unfolding bits_of
  bits_past which zero h = rw (add-zero count)
  bits_past which (suc n) h =
      rw (
        add-suc count n,
        bits_past which n (omega arith),
        undriven_stands which (fan_at five (count + n)) (alike.3 (count + n) (omega arith) (omega arith)),
        add-zero (bits_of which five count),
      )

  all_five : count + (5 - count) ≡ 5
  all_five = omega arith

  pub bits_alike : (which : Bit) → bits_of which fans count ≡ bits_of which five 5
  bits_alike which =
      bits_first which count (omega arith) ∙ sym (bits_past which (5 - count) (omega arith)) ∙ ap (bits_of which five) all_five

  -- and what interrupts
  interrupts_first : (enable n : ℕ) → n ≤ count → interrupting enable fans n ≡ interrupting enable five n
  unfolding interrupting
  interrupts_first enable zero h = refl
  interrupts_first enable (suc n) h = rw (interrupts_first enable n (omega arith), alike.2 n (omega arith))

  interrupts_past : (enable n : ℕ) → count + n ≤ 5 → interrupting enable five (count + n) ≡ interrupting enable five count
  unfolding interrupting
  interrupts_past enable zero h = rw (add-zero count)
  interrupts_past enable (suc n) h =
      let u : Undriven (fan_at five (count + n)) = alike.3 (count + n) (omega arith) (omega arith) in
      rw (add-suc count n, interrupts_past enable n (omega arith), u.0, u.1, and-false _, or-false _)

  pub interrupts_alike : (enable : ℕ) → interrupting enable fans count ≡ interrupting enable five 5
  interrupts_alike enable =
      interrupts_first enable count (omega arith) ∙ sym (interrupts_past enable (5 - count) (omega arith)) ∙ ap (interrupting enable five) all_five
