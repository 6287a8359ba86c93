-- What reaches a fan by the bytes of a transfer (specs/Alone.antt).
use mathlib.Core.Path.{◌≡◌, refl, sym, ap, ◌∙◌}
use mathlib.Core.Bool.{true, false, cond, and-true, and-false}
use mathlib.Core.List.{List, [], ◌∷◌, ◌++◌}
use Prim.Native.Nat.{ℕ, zero, suc, ◌%◌}
use native.Mathlib.Omega.{arith}
use lib.Dec.{eqb}
use lib.ListN.{length}
use borrow.Author.Tests.{eqb-true, eqb-false}
use Rattle.laws.specs.Repeat.{repeated}
use Rattle.laws.proofs.Lists.{moved_at}
use Rattle.laws.proofs.Tests.{by_test}
use Rattle.emc2305_fan.specs.declared.Bit.TheVariants.{Stall, Spin}
use Rattle.emc2305_fan.specs.declared.Fan.{Fan}
use Rattle.emc2305_fan.specs.Status.{bit_read}
use Rattle.emc2305_chip.specs.declared.Chip.{Chip}
use Rattle.emc2305_chip.specs.declared.Own.{Own as OwnRegister}
use Rattle.emc2305_chip.specs.declared.Own.TheVariants.{Configuration, Status, StallStatus, SpinStatus, DriveFailStatus, Enable, Output, Lock, Identity}
use Rattle.emc2305_chip.specs.declared.Register.{Register}
use Rattle.emc2305_chip.specs.declared.Register.TheVariants.{OfFan, OfChip, Undefined}
use Rattle.emc2305_chip.specs.State.{fan_count, with_pointer}
use Rattle.emc2305_chip.specs.Map.{register_of, is_of_fan}
use Rattle.emc2305_chip.specs.Fans.{no_fan}
use Rattle.emc2305_chip.specs.Registers.{on_fan, register_at, fan_stored, stored_of, own_cleared, cleared_of, stores_at, written_at, cleared_at}
use Rattle.emc2305_chip.proofs.Maps.{At, Placed, placed}
use Rattle.emc2305_chip.proofs.Moves.{own_stored_keeps}
use Rattle.emc2305_chip.proofs.Promises.{one_fan}
use Rattle.emc2305.specs.Transfers.{byte_written, in_turn, sent, byte_read}
use Rattle.emc2305.proofs.ReadKeeps.{passed_keeps}
use Rattle.emc2305_promises.specs.Ramp.{fan_of}
use Rattle.emc2305_promises.proofs.Events.{Has, has_byte, has_reads}
use Rattle.emc2305_promises.specs.Alone.{Own, store, move_by, played, of_byte, of_bytes, of_write, of_read, of_reads}

-- some traffic, and then more
pub both : (first second : List Own) (f g last : Fan) → g ≡ played first f → last ≡ played second g → last ≡ played (first ++ second) f
unfolding played
both [] second f g last e d = d ∙ ap (played second) e
both (own ∷ rest) second f g last e d = both rest second (move_by own f) g last e d

module _ (i : ℕ) where
  -- a move of fan k + 1 reaches fan i + 1 where they are the same
  pub one_own : (k : ℕ) (own : Own) (c : Chip) → Has i c
      → fan_of i (on_fan k (move_by own) c) ≡ played (cond (eqb k i) (own ∷ []) []) (fan_of i c)
  unfolding played
  one_own k own c h =
      by_test (eqb k i) (λ t. rw (t, eqb-true k i t) ((one_fan c i (move_by own)).0 h.1))
      (λ t. rw t ((one_fan c k (move_by own)).1 i (λ e. eqb-false k i t (sym e))))

  -- a stored write, whatever stands at the address
  register_own : (a byte : ℕ) (c : Chip) → Has i c → (r : Register) → Placed (fan_count c) a r
      → fan_of i (stored_of r byte c) ≡ played (cond (is_of_fan i r) (store (a % 0x10) byte ∷ []) []) (fan_of i c)
  unfolding fan_stored played
  register_own a byte c h (OfFan k o) p = let same : a % 0x10 ≡ o = omega (arith, p.1, p.2) in rw same (one_own k (store o byte) c h)
  register_own a byte c h (OfChip own) p =
      own_stored_keeps (fan_of i) (λ (r : Register). true) byte c (λ e. refl) refl (λ k. refl) (λ e. refl) own refl
  register_own a byte c h Undefined p = refl

  stored_own : (a byte : ℕ) (c : Chip) → Has i c
      → fan_of i (stored_of (register_at c a) byte c) ≡ played (cond (is_of_fan i (register_at c a)) (store (a % 0x10) byte ∷ []) []) (fan_of i c)
  stored_own a byte c h = register_own a byte c h (register_at c a) (placed (fan_count c) a)

  pub byte_own : (n byte : ℕ) (c : Chip) → Has i c → fan_of i (byte_written n byte c) ≡ played (of_byte i byte c) (fan_of i c)
  unfolding byte_written written_at played
  byte_own n byte c h =
      let p = c.pointer in
      passed_keeps (fan_of i) n (written_at p byte c) (λ q. refl)
      ∙ by_test (stores_at c p) (λ t. rw (t, and-true (is_of_fan i (register_at c p))) (stored_own p byte c h))
      (λ t. rw (t, and-false (is_of_fan i (register_at c p))))

  bytes_own : (n : ℕ) (bytes : List ℕ) (c : Chip) → Has i c → fan_of i (in_turn n bytes c) ≡ played (of_bytes i n bytes c) (fan_of i c)
  unfolding in_turn of_bytes played
  bytes_own n [] c h = refl
  bytes_own n (byte ∷ rest) c h =
      let d = byte_written n byte c in
      both (of_byte i byte c) (of_bytes i n rest d) (fan_of i c) (fan_of i d) _ (byte_own n byte c h)
      (bytes_own n rest d (has_byte i n byte c h))

  pub sent_own : (bytes : List ℕ) (c : Chip) → Has i c → fan_of i (sent bytes c) ≡ played (of_write i bytes c) (fan_of i c)
  unfolding sent of_write played
  sent_own [] c h = refl
  sent_own (pointer ∷ rest) c h = bytes_own (length rest) rest (with_pointer pointer c) h

  -- a read, whatever stands at the address
  own_unread : (a : ℕ) (c : Chip) → (a ≡ 0x25 → ⊥) → (a ≡ 0x26 → ⊥) → (own : OwnRegister) → At own a → fan_of i (own_cleared own c) ≡ fan_of i c
  own_unread a c t u Configuration p = refl
  own_unread a c t u Status p = refl
  own_unread a c t u StallStatus p = absurd (t p)
  own_unread a c t u SpinStatus p = absurd (u p)
  own_unread a c t u DriveFailStatus p = refl
  own_unread a c t u Enable p = refl
  own_unread a c t u (Output k) p = refl
  own_unread a c t u Lock p = refl
  own_unread a c t u (Identity k) p = refl

  unread : (a : ℕ) (c : Chip) → (a ≡ 0x25 → ⊥) → (a ≡ 0x26 → ⊥) → (r : Register) → Placed (fan_count c) a r → fan_of i (cleared_of r c) ≡ fan_of i c
  unread a c t u (OfFan k o) p = refl
  unread a c t u (OfChip own) p = own_unread a c t u own p
  unread a c t u Undefined p = refl

  nothing_read : (a : ℕ) (c : Chip) → eqb a 0x25 ≡ false → eqb a 0x26 ≡ false → fan_of i (cleared_at a c) ≡ played (of_read a) (fan_of i c)
  unfolding cleared_at played
  nothing_read a c t u = rw (t, u) (unread a c (eqb-false a 0x25 t) (eqb-false a 0x26 u) (register_at c a) (placed (fan_count c) a))

  cleared_own : (a : ℕ) (c : Chip) → Has i c → fan_of i (cleared_at a c) ≡ played (of_read a) (fan_of i c)
  unfolding register_of cleared_at played
  cleared_own a c h =
      by_test (eqb a 0x25) (λ t. rw (eqb-true a 0x25 t) (moved_at (fan_count c) (bit_read Stall) c.fans i no_fan h.0 h.1))
      (λ t. by_test (eqb a 0x26) (λ u. rw (eqb-true a 0x26 u) (moved_at (fan_count c) (bit_read Spin) c.fans i no_fan h.0 h.1)) (nothing_read a c t))

  pub read_own : (n : ℕ) (c : Chip) → Has i c → fan_of i (byte_read n c) ≡ played (of_read c.pointer) (fan_of i c)
  unfolding byte_read
  read_own n c h = passed_keeps (fan_of i) n (cleared_at c.pointer c) (λ q. refl) ∙ cleared_own c.pointer c h

  pub reads_own : (n k : ℕ) (c : Chip) → Has i c
      → fan_of i (repeated k (byte_read n) c) ≡ played (of_reads n k c) (fan_of i c)
  unfolding repeated of_reads played
  reads_own n zero c h = refl
  reads_own n (suc k) c h =
      let d = repeated k (byte_read n) c in
      both (of_reads n k c) (of_read d.pointer) (fan_of i c) (fan_of i d) _ (reads_own n k c h) (read_own n d (has_reads i n k c h))
