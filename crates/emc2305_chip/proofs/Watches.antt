-- The watchdog in the chip: a tick, each write.
use mathlib.Core.Path.{◌≡◌, refl, sym, ap, ◌∙◌}
use mathlib.Core.Bool.{false, cond}
use Prim.Native.Nat.{ℕ, ◌+◌, ◌*◌, ◌<◌}
use native.Mathlib.Omega.{arith}
use borrow.Author.Tests.{eqb-false, ne_eqb}
use Rattle.laws.proofs.Lists.{moved_at, moved_past}
use Rattle.laws.proofs.Tests.{by_test}
use Rattle.emc2305_parts.proofs.Counts.{few_fans}
use Rattle.emc2305_fan.specs.Stored.{programs}
use Rattle.emc2305_watchdog.specs.declared.Watch.{Watch}
use Rattle.emc2305_watchdog.specs.Watch.{fires, programmed}
use Rattle.emc2305_chip.specs.declared.Chip.{Chip}
use Rattle.emc2305_chip.specs.declared.Own.{Own}
use Rattle.emc2305_chip.specs.declared.Own.TheVariants.{Configuration, Status, StallStatus, SpinStatus, DriveFailStatus, Enable, Output, Lock, Identity}
use Rattle.emc2305_chip.specs.declared.Register.{Register}
use Rattle.emc2305_chip.specs.declared.Register.TheVariants.{OfFan, OfChip, Undefined}
use Rattle.emc2305_chip.specs.State.{fan_count}
use Rattle.emc2305_chip.specs.Map.{register_of, is_of_fan}
use Rattle.emc2305_chip.specs.Fans.{no_fan}
use Rattle.emc2305_chip.specs.Registers.{register_at, fan_stored, own_stored, stored_of}
use Rattle.emc2305_chip.specs.Ticks.{all_fired, all_ticked, chip_ticked}
use Rattle.emc2305_chip.specs.Promises.{OneTick, WatchWrites}
use Rattle.emc2305_chip.proofs.Maps.{At, Placed, by_register, fan_map}
use Rattle.emc2305_chip.proofs.Ways.{writes}
use Rattle.emc2305_chip.proofs.Moves.{written_keeps}

pub one_tick : OneTick
unfolding chip_ticked all_fired all_ticked
one_tick c = (
  refl,
  by_test (fires c.watch) (λ t. rw t) (λ t. rw t),
  λ i k h.
      by_test (fires c.watch) (λ t. rw t (moved_at (fan_count c) _ c.fans i no_fan k h)) (λ t. rw t (moved_at (fan_count c) _ c.fans i no_fan k h)),
  λ i k. by_test (fires c.watch) (λ t. rw t (moved_past (fan_count c) _ c.fans i no_fan k)) (λ t. rw t (moved_past (fan_count c) _ c.fans i no_fan k)),
)

abbrev watch : Chip → Watch
watch c = c.watch

module _ (c : Chip) (byte : ℕ) where
  -- a stored write to a fan's register
  fan_stored_lem : (a i offset : ℕ) → a ≡ 0x30 + (0x10 * i + offset) → i < fan_count c → offset < 16
      → (stored_of (register_at c a) byte c).watch ≡ cond (programs offset byte) (programmed c.watch) c.watch
  unfolding fan_stored
  fan_stored_lem a i offset e h l = rw (e, (fan_map (fan_count c) i offset (omega (arith, few_fans c.part)) l).0 h)

  -- and to a register of no fan that is not 20h
  abbrev Apart : Register → Type 0
  Apart r = ((i : ℕ) → is_of_fan i r ≡ false) → (stored_of r byte c).watch ≡ c.watch

  own_apart : (a : ℕ) → (a ≡ 0x20 → ⊥) → (own : Own) → At own a → (own_stored own byte c).watch ≡ c.watch
  own_apart a n Configuration p = absurd (n p)
  own_apart a n Status p = refl
  own_apart a n StallStatus p = refl
  own_apart a n SpinStatus p = refl
  own_apart a n DriveFailStatus p = refl
  own_apart a n Enable p = refl
  own_apart a n (Output i) p = refl
  own_apart a n Lock p = refl
  own_apart a n (Identity i) p = refl

  apart : (a : ℕ) → (a ≡ 0x20 → ⊥) → (register : Register) → Placed (fan_count c) a register → Apart register
  apart a n (OfFan i offset) p e = absurd (eqb-false i i (e i) refl)
  apart a n (OfChip own) p e = own_apart a n own p
  apart a n Undefined p e = refl

pub watch_writes : WatchWrites
unfolding register_of
watch_writes c byte = (
  λ i h t. ap watch (sym (writes c _ byte t)) ∙ fan_stored_lem c byte (0x30 + 0x10 * i) i 0x0 (omega arith) h (omega arith),
  λ i h t. ap watch (sym (writes c _ byte t)) ∙ fan_stored_lem c byte (0x32 + 0x10 * i) i 0x2 (omega arith) h (omega arith),
  λ t. ap watch (sym (writes c 0x20 byte t)),
  λ i offset h l n m.
      written_keeps watch _ byte c (λ t. fan_stored_lem c byte _ i offset refl h l ∙ rw (ne_eqb offset 0x0 n, ne_eqb offset 0x2 m)),
  λ address e n. written_keeps watch address byte c (λ t. by_register (Apart c byte) (fan_count c) address (apart c byte address n) e),
)
