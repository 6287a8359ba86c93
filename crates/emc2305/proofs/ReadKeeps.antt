-- What a read keeps, of any part of the chip that it is asked for.
use mathlib.Core.Path.{◌≡◌, ◌∙◌}
use mathlib.Core.Bool.{false}
use Prim.Native.Nat.{ℕ}
use Rattle.laws.specs.Lists.{first_moved}
use Rattle.laws.proofs.Repeat.{repeated_keeps}
use Rattle.emc2305_fan.specs.declared.Bit.{Bit}
use Rattle.emc2305_fan.specs.Status.{bit_read}
use Rattle.emc2305_chip.specs.declared.Chip.{Chip}
use Rattle.emc2305_chip.specs.State.{fan_count, with_fans, with_pointer, with_expired}
use Rattle.emc2305_chip.specs.Registers.{register_at, cleared_at}
use Rattle.emc2305_chip.proofs.Moves.{cleared_keeps}
use Rattle.emc2305.specs.Transfers.{passed, byte_read, read_out}

module _ {B : Type 0} (v : Chip → B) where
  pub passed_keeps : (n : ℕ) (c : Chip) → ((p : ℕ) → v (with_pointer p c) ≡ v c) → v (passed n c) ≡ v c
  passed_keeps n c h = h _

  -- a read of n bytes
  pub read_keeps : (n : ℕ) (c : Chip) → ((d : Chip) (p : ℕ) → v (with_pointer p d) ≡ v d) → ((d : Chip) → v (with_expired false d) ≡ v d)
      → ((d : Chip) (which : Bit) → v (with_fans (first_moved (fan_count d) (bit_read which) d.fans) d) ≡ v d) → v (read_out n c) ≡ v c
  unfolding byte_read cleared_at
  read_keeps n c p e f =
      repeated_keeps v n (byte_read n) c (λ d. passed_keeps n (cleared_at d.pointer d) (p _) ∙ cleared_keeps v d (e d) (f d) (register_at d d.pointer))
