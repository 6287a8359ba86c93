-- What a read, a write and a tick keep, of any part of the chip that they are asked for.
use mathlib.Core.Path.{◌≡◌, refl, ap, ◌∙◌}
use mathlib.Core.Bool.{Bool, true, false, cond}
use Prim.Native.Nat.{ℕ}
use lib.ListN.{length, set}
use Rattle.laws.specs.Lists.{first_moved}
use Rattle.laws.specs.Repeat.{repeated}
use Rattle.laws.proofs.Lists.{length_moved}
use Rattle.laws.proofs.Repeat.{repeated_keeps}
use Rattle.laws.proofs.Tests.{by_test}
use Rattle.emc2305_parts.specs.declared.Part.{Part}
use Rattle.emc2305_fan.specs.declared.Bit.{Bit}
use Rattle.emc2305_fan.specs.declared.Bit.TheVariants.{Stall, Spin}
use Rattle.emc2305_fan.specs.declared.Fan.{Fan}
use Rattle.emc2305_fan.specs.Tick.{ticked}
use Rattle.emc2305_fan.specs.Tach.{fired}
use Rattle.emc2305_fan.specs.Status.{bit_read}
use Rattle.emc2305_watchdog.specs.Watch.{fires}
use Rattle.emc2305_chip.specs.declared.Chip.{Chip}
use Rattle.emc2305_chip.specs.declared.Own.{Own}
use Rattle.emc2305_chip.specs.declared.Own.TheVariants.{Configuration, Status, StallStatus, SpinStatus, DriveFailStatus, Enable, Output, Lock, Identity}
use Rattle.emc2305_chip.specs.declared.Register.{Register}
use Rattle.emc2305_chip.specs.declared.Register.TheVariants.{OfFan, OfChip, Undefined}
use Rattle.emc2305_chip.specs.State.{fan_count, with_fans, with_enable, with_outputs, with_lock, with_expired}
use Rattle.emc2305_chip.specs.Registers.{own_cleared, cleared_of, cleared_at, register_at, stores_at, own_stored, stored_of, fan_stored, written_at}
use Rattle.emc2305_chip.specs.Ticks.{all_fired, all_ticked, chip_ticked}

module _ {B : Type 0} (v : Chip → B) where
  -- a read, of each register
  own_cleared_keeps : (c : Chip) → v (with_expired false c) ≡ v c → ((which : Bit) → v (with_fans (first_moved (fan_count c) (bit_read which) c.fans) c) ≡ v c)
      → (own : Own) → v (own_cleared own c) ≡ v c
  own_cleared_keeps c e f Configuration = refl
  own_cleared_keeps c e f Status = e
  own_cleared_keeps c e f StallStatus = f Stall
  own_cleared_keeps c e f SpinStatus = f Spin
  own_cleared_keeps c e f DriveFailStatus = refl
  own_cleared_keeps c e f Enable = refl
  own_cleared_keeps c e f (Output i) = refl
  own_cleared_keeps c e f Lock = refl
  own_cleared_keeps c e f (Identity i) = refl

  pub cleared_keeps : (c : Chip) → v (with_expired false c) ≡ v c → ((which : Bit) → v (with_fans (first_moved (fan_count c) (bit_read which) c.fans) c) ≡ v c)
      → (register : Register) → v (cleared_of register c) ≡ v c
  cleared_keeps c e f (OfFan i offset) = refl
  cleared_keeps c e f (OfChip own) = own_cleared_keeps c e f own
  cleared_keeps c e f Undefined = refl

  -- a stored write, of each register that passes a test
  pub own_stored_keeps : (passes : Register → Bool) (byte : ℕ) (c : Chip)
      → (passes (OfChip Configuration) ≡ true → v (own_stored Configuration byte c) ≡ v c) → v (with_enable byte c) ≡ v c
      → ((i : ℕ) → v (with_outputs (set c.outputs i byte) c) ≡ v c) → (passes (OfChip Lock) ≡ true → v (with_lock byte c) ≡ v c)
      → (own : Own) → passes (OfChip own) ≡ true → v (own_stored own byte c) ≡ v c
  own_stored_keeps passes byte c h e o l Configuration t = h t
  own_stored_keeps passes byte c h e o l Status t = refl
  own_stored_keeps passes byte c h e o l StallStatus t = refl
  own_stored_keeps passes byte c h e o l SpinStatus t = refl
  own_stored_keeps passes byte c h e o l DriveFailStatus t = refl
  own_stored_keeps passes byte c h e o l Enable t = e
  own_stored_keeps passes byte c h e o l (Output i) t = o i
  own_stored_keeps passes byte c h e o l Lock t = l t
  own_stored_keeps passes byte c h e o l (Identity i) t = refl

  pub stored_keeps : (passes : Register → Bool) (byte : ℕ) (c : Chip)
      → (passes (OfChip Configuration) ≡ true → v (own_stored Configuration byte c) ≡ v c) → v (with_enable byte c) ≡ v c
      → ((i : ℕ) → v (with_outputs (set c.outputs i byte) c) ≡ v c)
      → ((i offset : ℕ) → passes (OfFan i offset) ≡ true → v (fan_stored i offset byte c) ≡ v c)
      → (passes (OfChip Lock) ≡ true → v (with_lock byte c) ≡ v c)
      → (register : Register) → passes register ≡ true → v (stored_of register byte c) ≡ v c
  stored_keeps passes byte c h e o f l (OfFan i offset) t = f i offset t
  stored_keeps passes byte c h e o f l (OfChip own) t = own_stored_keeps passes byte c h e o l own t
  stored_keeps passes byte c h e o f l Undefined t = refl

  -- a write, where it keeps what it stores
  pub written_keeps : (address byte : ℕ) (c : Chip) → (stores_at c address ≡ true → v (stored_of (register_at c address) byte c) ≡ v c)
      → v (written_at address byte c) ≡ v c
  unfolding written_at
  written_keeps address byte c h = by_test (stores_at c address) (λ t. rw t (h t)) (λ t. rw t)

-- a read and a write keep the part
pub cleared_part : (address : ℕ) (c : Chip) → (cleared_at address c).part ≡ c.part
unfolding cleared_at
cleared_part address c = cleared_keeps (λ (d : Chip). d.part) c refl (λ which. refl) (register_at c address)

pub written_part : (address byte : ℕ) (c : Chip) → (written_at address byte c).part ≡ c.part
unfolding fan_stored
written_part address byte c =
    let part : Chip → Part = λ d. d.part in
    written_keeps part address byte c
    (λ t. stored_keeps part (λ (r : Register). true) byte c (λ u. refl) refl (λ i. refl) (λ i offset u. refl) (λ u. refl) (register_at c address) refl)

-- a tick moves all fans that the chip has alike
abbrev pub tick_move : Chip → Fan → Fan
tick_move c = cond (fires c.watch) fired ticked

pub tick_fans : (c : Chip) → (chip_ticked c).fans ≡ first_moved (fan_count c) (tick_move c) c.fans
unfolding chip_ticked all_fired all_ticked
tick_fans c = by_test (fires c.watch) (λ t. rw t) (λ t. rw t)

-- it keeps their number, and so do n ticks
pub ticks_count : (n : ℕ) (c : Chip) → length (repeated n chip_ticked c).fans ≡ length c.fans
ticks_count n c =
    repeated_keeps (λ (d : Chip). length d.fans) n chip_ticked c (λ d. ap length (tick_fans d) ∙ length_moved (fan_count d) (tick_move d) d.fans)

-- and 20h and EFh, and the part
pub tick_rest : (c : Chip) → ((chip_ticked c).configuration ≡ c.configuration) × ((chip_ticked c).lock ≡ c.lock) × ((chip_ticked c).part ≡ c.part)
unfolding chip_ticked all_fired all_ticked
tick_rest c = by_test (fires c.watch) (λ t. (rw t, rw t, rw t)) (λ t. (rw t, rw t, rw t))

pub ticks_part : (n : ℕ) (c : Chip) → (repeated n chip_ticked c).part ≡ c.part
ticks_part n c = repeated_keeps (λ (d : Chip). d.part) n chip_ticked c (λ d. (tick_rest d).2)
