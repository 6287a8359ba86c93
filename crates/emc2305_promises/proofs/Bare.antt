-- The rest of the chip goes by no fan, but in the power-up watch: any move of the chip is the same on a chip without its fans.
use mathlib.Core.Path.{◌≡◌, refl, sym, ap, ◌∙◌}
use mathlib.Core.Bool.{Bool, true, false, cond, true≢false}
use mathlib.Core.List.{List, [], ◌∷◌}
use Prim.Native.Nat.{ℕ, zero, suc}
use lib.ListN.{length, get_or}
use Rattle.laws.specs.Buffer.{bytes_at}
use Rattle.laws.specs.Repeat.{repeated}
use Rattle.laws.proofs.Lists.{moved_none}
use Rattle.laws.proofs.Tests.{by_test}
use Rattle.eventlog.specs.declared.Event.{Event}
use Rattle.emc2305_fan.specs.declared.Bit.TheVariants.{Stall, Spin}
use Rattle.emc2305_fan.specs.declared.Fan.{Fan}
use Rattle.emc2305_fan.specs.Registers.{bit}
use Rattle.emc2305_fan.specs.Tick.{ticked}
use Rattle.emc2305_fan.specs.Tach.{fired}
use Rattle.emc2305_fan.specs.Status.{bit_read}
use Rattle.emc2305_fan.specs.Stored.{programs}
use Rattle.emc2305_watchdog.specs.declared.Watch.{Watch}
use Rattle.emc2305_watchdog.specs.declared.Watch.TheVariants.{Off, PowerUp, Continuous}
use Rattle.emc2305_watchdog.specs.Watch.{in_power_up, fires, programmed, configured}
use Rattle.emc2305_chip.specs.declared.Chip.{Chip}
use Rattle.emc2305_chip.specs.declared.Register.{Register}
use Rattle.emc2305_chip.specs.declared.Own.{Own}
use Rattle.emc2305_chip.specs.declared.Own.TheVariants.{Configuration, Status, StallStatus, SpinStatus, DriveFailStatus, Enable, Output, Lock, Identity}
use Rattle.emc2305_chip.specs.declared.Register.TheVariants.{OfFan, OfChip, Undefined}
use Rattle.emc2305_chip.specs.State.{fan_count, with_fans, with_pointer}
use Rattle.emc2305_chip.specs.Watching.{fed_chip}
use Rattle.emc2305_chip.specs.Registers.{own_cleared, cleared_of, cleared_at, register_at, own_stores, stores_in, own_stored, stored_of, stores_at, written_at, fan_stored}
use Rattle.emc2305_chip.specs.Ticks.{all_fired, all_ticked, chip_ticked}
use Rattle.emc2305_chip.proofs.Moves.{stored_keeps, written_keeps}
use Rattle.emc2305.specs.Transfers.{passed, byte_written, in_turn, sent, byte_read}
use Rattle.emc2305.specs.Step.{taken}
use Rattle.emc2305.proofs.Effects.{by_effect}
use Rattle.emc2305.proofs.ReadKeeps.{passed_keeps}

abbrev pub bare : Chip → Chip
bare c = with_fans [] c

-- outside the power-up watch a write to a fan's register leaves the watch
unprogrammed : (w : Watch) → in_power_up w ≡ false → programmed w ≡ w
unprogrammed Off e = refl
unprogrammed (PowerUp count) e = absurd (true≢false e)
unprogrammed (Continuous count) e = refl

not_up : (enabled : Bool) (w : Watch) → in_power_up w ≡ false → in_power_up (configured enabled w) ≡ in_power_up w
not_up true w e = sym e
not_up false Off e = refl
not_up false (PowerUp count) e = refl
not_up false (Continuous count) e = refl

-- a test with two ways to the same
same_way : (t : Bool) {x y : Chip} → x ≡ y → cond t x y ≡ y
same_way true e = e
same_way false e = refl

-- a move that may be made with the fans or without
repeated_bare : (n : ℕ) (move : Chip → Chip) (c : Chip) → ((d : Chip) → bare (move d) ≡ move (bare d))
    → bare (repeated n move c) ≡ repeated n move (bare c)
unfolding repeated
repeated_bare zero move c h = refl
repeated_bare (suc n) move c h = h (repeated n move c) ∙ ap move (repeated_bare n move c h)

tick_bare : (c : Chip) → bare (chip_ticked c) ≡ chip_ticked (bare c)
unfolding chip_ticked all_fired all_ticked
tick_bare c = by_test (fires c.watch) (λ t. rw (t, moved_none (fan_count c) fired)) (λ t. rw (t, moved_none (fan_count c) ticked))

passed_bare : (n : ℕ) (c : Chip) → bare (passed n c) ≡ passed n (bare c)
passed_bare n c = refl

own_cleared_bare : (own : Own) (c : Chip) → bare (own_cleared own c) ≡ own_cleared own (bare c)
own_cleared_bare Configuration c = refl
own_cleared_bare Status c = refl
own_cleared_bare StallStatus c = ap (λ (l : List Fan). with_fans l c) (sym (moved_none (fan_count c) (bit_read Stall)))
own_cleared_bare SpinStatus c = ap (λ (l : List Fan). with_fans l c) (sym (moved_none (fan_count c) (bit_read Spin)))
own_cleared_bare DriveFailStatus c = refl
own_cleared_bare Enable c = refl
own_cleared_bare (Output i) c = refl
own_cleared_bare Lock c = refl
own_cleared_bare (Identity i) c = refl

cleared_bare : (register : Register) (c : Chip) → bare (cleared_of register c) ≡ cleared_of register (bare c)
cleared_bare (OfFan i offset) c = refl
cleared_bare (OfChip own) c = own_cleared_bare own c
cleared_bare Undefined c = refl

read_bare : (n : ℕ) (c : Chip) → bare (byte_read n c) ≡ byte_read n (bare c)
unfolding byte_read cleared_at
read_bare n c = passed_bare n (cleared_at c.pointer c) ∙ ap (passed n) (cleared_bare (register_at c c.pointer) c)

pub reads_bare : (n k : ℕ) (c : Chip) → bare (repeated k (byte_read n) c) ≡ repeated k (byte_read n) (bare c)
reads_bare n k c = repeated_bare k (byte_read n) c (read_bare n)

either_way : (t : Bool) (x y : Chip) → bare (cond t x y) ≡ cond t (bare x) (bare y)
either_way true x y = refl
either_way false x y = refl

-- a write, outside the power-up watch
module _ (byte : ℕ) (c : Chip) (up : in_power_up c.watch ≡ false) where
  fan_bare : (i offset : ℕ) → bare (fan_stored i offset byte c) ≡ bare c
  unfolding fan_stored
  fan_bare i offset = by_test (programs offset byte) (λ t. rw (t, unprogrammed c.watch up)) (λ t. rw t)

  stored_bare : (r : Register) → bare (cond (stores_in c r) (stored_of r byte c) c) ≡ cond (stores_in c r) (bare (stored_of r byte c)) (bare c)
  stored_bare r = either_way (stores_in c r) (stored_of r byte c) c

  own_bare : (own : Own) → bare (cond (own_stores c own) (own_stored own byte c) c) ≡ cond (own_stores c own) (own_stored own byte (bare c)) (bare c)
  own_bare Configuration = stored_bare (OfChip Configuration)
  own_bare Status = refl
  own_bare StallStatus = refl
  own_bare SpinStatus = refl
  own_bare DriveFailStatus = refl
  own_bare Enable = stored_bare (OfChip Enable)
  own_bare (Output i) = stored_bare (OfChip (Output i))
  own_bare Lock = stored_bare (OfChip Lock)
  own_bare (Identity i) = refl

  register_bare : (r : Register) → bare (cond (stores_in c r) (stored_of r byte c) c) ≡ cond (stores_in (bare c) r) (stored_of r byte (bare c)) (bare c)
  unfolding fan_stored
  register_bare (OfFan i offset) =
      stored_bare (OfFan i offset) ∙ same_way (stores_in c (OfFan i offset)) (fan_bare i offset)
      ∙ sym (same_way (stores_in (bare c) (OfFan i offset)) (fan_bare i offset))
  register_bare (OfChip own) = own_bare own
  register_bare Undefined = refl

  written_bare : (a : ℕ) → bare (written_at a byte c) ≡ written_at a byte (bare c)
  unfolding written_at stores_at
  written_bare a = register_bare (register_at c a)

  pub byte_bare : (n : ℕ) → bare (byte_written n byte c) ≡ byte_written n byte (bare c)
  unfolding byte_written
  byte_bare n = passed_bare n (written_at c.pointer byte c) ∙ ap (passed n) (written_bare c.pointer)

  -- and it starts none
  pub byte_up : (n : ℕ) → in_power_up (byte_written n byte c).watch ≡ false
  unfolding byte_written fan_stored
  byte_up n =
      let v : Chip → Bool = λ d. in_power_up d.watch in
      passed_keeps v n (written_at c.pointer byte c) (λ p. refl)
      ∙ written_keeps v c.pointer byte c
      (λ t.
      stored_keeps v (λ (r : Register). true) byte c (λ e. not_up (bit 5 byte) c.watch up) refl (λ i. refl)
      (λ i offset e. ap v (fan_bare i offset)) (λ e. refl) (register_at c c.pointer) refl)
      ∙ up

turns_bare : (n : ℕ) (bytes : List ℕ) (c : Chip) → in_power_up c.watch ≡ false → bare (in_turn n bytes c) ≡ in_turn n bytes (bare c)
unfolding in_turn
turns_bare n [] c up = refl
turns_bare n (byte ∷ rest) c up = turns_bare n rest (byte_written n byte c) (byte_up byte c up n) ∙ ap (in_turn n rest) (byte_bare byte c up n)

sent_bare : (bytes : List ℕ) (c : Chip) → in_power_up c.watch ≡ false → bare (sent bytes c) ≡ sent bytes (bare c)
unfolding sent
sent_bare [] c up = refl
sent_bare (pointer ∷ rest) c up = turns_bare (length rest) rest (with_pointer pointer c) up

-- an event that is taken, with the watch off
pub taken_bare : (log : List ℕ) (event : Event) (c : Chip) → c.watch ≡ Off → bare (taken log event c) ≡ bare (taken log event (bare c))
unfolding taken
taken_bare log event c off =
    by_effect (λ (e : Event). bare (taken log e c) ≡ bare (taken log e (bare c))) (λ e on. rw (on.resets log c, on.resets log (bare c)))
    (λ n. repeated_bare n chip_ticked c tick_bare ∙ sym (repeated_bare n chip_ticked (bare c) tick_bare)) (λ fan n. refl) (λ fan drive. refl)
    (λ to place n. let k = get_or log place 0 in reads_bare k k (fed_chip c) ∙ sym (reads_bare k k (fed_chip (bare c))))
    (λ to place n.
    let bytes = bytes_at log place n in
    sent_bare bytes (fed_chip c) (rw off) ∙ sym (sent_bare bytes (fed_chip (bare c)) (rw off)))
    (λ e idle. rw (idle.leaves log c, idle.leaves log (bare c))) event
