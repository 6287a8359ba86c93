-- Ticks taken together.
use mathlib.Core.Path.{◌≡◌, refl, sym, ap, ◌∙◌}
use mathlib.Core.Bool.{Bool, true, false, ◌&&◌, ◌||◌, or-false}
use mathlib.Core.List.{List}
use Prim.Native.Nat.{ℕ, zero, suc, min, ◌+◌, ◌-◌, ◌≤◌, ◌<◌}
use native.Mathlib.Omega.{arith}
use native.Mathlib.Numerals.{add-one}
use lib.Dec.{ltb, eqb}
use borrow.Author.Tests.{eqb-true, eqb-false}
use Rattle.laws.specs.Repeat.{repeated}
use Rattle.laws.proofs.Repeat.{first_steps}
use Rattle.laws.specs.Lists.{first_moved}
use Rattle.laws.proofs.Lists.{moved_still, moved_moved}
use Rattle.laws.proofs.Tests.{by_test, or_left, or_right}
use Rattle.emc2305_fan.specs.declared.Fan.{Fan}
use Rattle.emc2305_fan.specs.Tick.{ticked, busy}
use Rattle.emc2305_fan.proofs.Ticks.{idle}
use Rattle.emc2305_watchdog.specs.declared.Watch.{Watch}
use Rattle.emc2305_watchdog.specs.declared.Quiet.{Quiet}
use Rattle.emc2305_watchdog.specs.Watch.{fires, watch_ticked, quiet_ticks, watch_on, quietly}
use Rattle.emc2305_watchdog.proofs.QuietTicks.{quiet_ticks_lem, quiet_within, watch_on_none}
use Rattle.emc2305_chip.specs.declared.Chip.{Chip}
use Rattle.emc2305_chip.specs.State.{fan_count, with_fans, with_watch}
use Rattle.emc2305_chip.specs.Fans.{no_fan, fan_at, any_busy}
use Rattle.emc2305_chip.specs.Ticks.{all_fired, all_ticked, chip_ticked, all_ticks}
use Rattle.emc2305_chip.proofs.Ways.{tick_fires, tick_goes}
use Rattle.emc2305_chip.proofs.Bits.{within_count, past_count}

-- one place more
pub busy_next : (fans : List Fan) (n i : ℕ) (on x : Bool) → on ≡ any_busy fans (min i n) → x ≡ busy (fan_at fans i)
    → (on || (ltb i n && x)) ≡ any_busy fans (min (i + 1) n)
unfolding any_busy
busy_next fans n i on x sofar e =
    by_test (ltb i n) (λ t. rw (sofar, t, e, (within_count n i t).0, (within_count n i t).1))
    (λ t. rw (sofar, t, past_count n i t, or-false (any_busy fans (min i n))))

-- where none of the first k is busy
none_busy : (fans : List Fan) (k i : ℕ) → any_busy fans k ≡ false → i < k → busy (fan_at fans i) ≡ false
unfolding any_busy
none_busy fans zero i e h = absurd (omega arith)
none_busy fans (suc k) i e h =
    by_test (eqb i k) (λ t. rw (eqb-true i k t) (or_right (any_busy fans k) (busy (fan_at fans k)) e))
    (λ t. none_busy fans k i (or_left (any_busy fans k) (busy (fan_at fans k)) e) (omega (arith, eqb-false i k t)))

module _ (n : ℕ) (c : Chip) where
  -- so n ticks change nothing
  pub all_idle : any_busy c.fans (fan_count c) ≡ false → c ≡ all_ticks n c
  all_idle e =
      ap (λ (l : List Fan). with_fans l c)
      (sym (moved_still (fan_count c) (repeated n ticked) c.fans no_fan (λ i k l. idle n (fan_at c.fans i) (none_busy c.fans (fan_count c) i e k))))

  -- k of the quiet ticks
  after : (k : ℕ) → k ≤ quiet_ticks n c.watch → repeated k chip_ticked c ≡ with_watch (watch_on k c.watch) (all_ticks k c)
  unfolding repeated all_ticked
  after zero h =
      let e : watch_on 0 c.watch ≡ c.watch = watch_on_none c.watch in
      let f : first_moved (fan_count c) (repeated 0 ticked) c.fans ≡ c.fans = moved_still (fan_count c) (repeated 0 ticked) c.fans no_fan (λ i k l. refl) in
      sym (ap (λ (w : Watch). with_watch w (all_ticks 0 c)) e ∙ ap (λ (l : List Fan). with_fans l c) f)
  after (suc k) h =
      let q = quiet_ticks_lem n k c.watch h in
      let d : Chip = with_watch (watch_on k c.watch) (all_ticks k c) in
      ap chip_ticked (after k (omega arith)) ∙ sym (tick_goes d q.0) ∙ rw (q.1, moved_moved (fan_count c) ticked (repeated k ticked) c.fans, add-one k)

  -- n ticks where the first makes the watchdog fire
  pub fires_first : (d e : Chip) (w : Watch) → 1 ≤ n → fires c.watch ≡ true → e ≡ all_fired c → w ≡ watch_ticked c.watch → d ≡ with_watch w e
      → repeated (n - 1) chip_ticked d ≡ repeated n chip_ticked c
  unfolding repeated
  fires_first d e w h t p q r =
      ap (repeated (n - 1) chip_ticked) (r ∙ rw (p, q) (tick_fires c t)) ∙ first_steps 1 n chip_ticked c h

  -- and where it does not: those before the one that does are taken first
  module _ (q : Quiet) (known : q ≡ quietly n c.watch) where
    pub quiet_first : (d e : Chip) → e ≡ all_ticks q.ticks c → d ≡ with_watch q.watch e
        → repeated (n - q.ticks) chip_ticked d ≡ repeated n chip_ticked c
    quiet_first d e p r =
        let k = quiet_ticks n c.watch in
        let g : d ≡ repeated k chip_ticked c = r ∙ rw (p, known) (sym (after k (omega arith))) in
        rw (g, known) (first_steps k n chip_ticked c (quiet_within n c.watch))
