-- Ticks, reads and writes keep a chip and a five-fan part alike.
use mathlib.Core.Path.{◌≡◌, refl, sym, ap, subst, ◌∙◌}
use mathlib.Core.Bool.{Bool, true, false, cond}
use mathlib.Core.List.{List, [], ◌∷◌}
use Prim.Native.Nat.{ℕ, zero, suc, ◌≤◌, ◌<◌}
use lib.Dec.{leb}
use lib.ListN.{length}
use borrow.Author.Tests.{leb-false}
use Rattle.laws.specs.Repeat.{repeated}
use Rattle.laws.proofs.Tests.{by_test}
use Rattle.emc2305_parts.specs.Parts.{fans_of}
use Rattle.emc2305_parts.proofs.Counts.{few_fans}
use Rattle.emc2305_fan.specs.declared.Bit.TheVariants.{Stall, Spin}
use Rattle.emc2305_fan.specs.declared.Fan.{Fan}
use Rattle.emc2305_fan.specs.Tach.{fired}
use Rattle.emc2305_fan.specs.Tick.{ticked}
use Rattle.emc2305_fan.specs.Stored.{written, takes}
use Rattle.emc2305_fan.specs.Status.{bit_read}
use Rattle.emc2305_watchdog.specs.Watch.{fires}
use Rattle.emc2305_chip.specs.declared.Chip.{Chip}
use Rattle.emc2305_chip.specs.declared.Own.{Own}
use Rattle.emc2305_chip.specs.declared.Own.TheVariants.{Configuration, Status, StallStatus, SpinStatus, DriveFailStatus, Enable, Output, Lock, Identity}
use Rattle.emc2305_chip.specs.declared.Register.{Register}
use Rattle.emc2305_chip.specs.declared.Register.TheVariants.{OfFan, OfChip, Undefined}
use Rattle.emc2305_chip.specs.State.{fan_count, with_pointer}
use Rattle.emc2305_chip.specs.Map.{register_of}
use Rattle.emc2305_chip.specs.Fans.{fan_at}
use Rattle.emc2305_chip.specs.Watching.{fed_chip}
use Rattle.emc2305_chip.specs.Registers.{on_fan, own_cleared, cleared_of, cleared_at, is_locked, own_stores, stores_in, fan_stored, own_stored, stored_of, stores_at, written_at}
use Rattle.emc2305_chip.specs.Ticks.{all_fired, all_ticked, chip_ticked}
use Rattle.emc2305.specs.Transfers.{passed, byte_written, in_turn, sent, byte_read}
use Rattle.emc2305.proofs.Parts.{byte_part}
use Rattle.emc2305_part_promises.specs.Alike.{five_fan, FansAlike, AsFive, past_fan, of_others, byte_kept, in_turn_kept, sent_kept}
use Rattle.emc2305_part_promises.proofs.Fans.{undriven_ticked, undriven_fired, undriven_read, moved_alike, set_alike}
use Rattle.emc2305_part_promises.proofs.Shown.{kept, register_kept, by_five}

-- either of two, by the same test
either_alike : (t : Bool) (x y x₅ y₅ : Chip) → AsFive x x₅ → AsFive y y₅ → AsFive (cond t x y) (cond t x₅ y₅)
either_alike true x y x₅ y₅ a b = a
either_alike false x y x₅ y₅ a b = b

-- a chip and the five-fan part that is alike
module _ (c : Chip) (five : List Fan) (alike : FansAlike (fan_count c) c.fans five) where
  abbrev few : fan_count c ≤ 5
  few = few_fans c.part

  abbrev d : Chip
  d = five_fan five c

  tick_five : AsFive (chip_ticked c) (chip_ticked d)
  unfolding chip_ticked all_fired all_ticked
  tick_five =
      by_test (fires c.watch) (λ t. rw t (refl, moved_alike (fan_count c) few c.fans five alike fired undriven_fired))
      (λ t. rw t (refl, moved_alike (fan_count c) few c.fans five alike ticked undriven_ticked))

  -- one fan that both have
  pub fan_five : (i : ℕ) (move : Fan → Fan) → i < fan_count c → AsFive (on_fan i move c) (on_fan i move d)
  fan_five i move h =
      (refl, set_alike (fan_count c) few c.fans five alike i (move (fan_at c.fans i)) (move (fan_at five i)) h (ap move (alike.2 i h)))

  -- a read
  own_cleared_five : (own : Own) → AsFive (own_cleared own c) (own_cleared own d)
  own_cleared_five Configuration = (refl, alike)
  own_cleared_five Status = (refl, alike)
  own_cleared_five StallStatus = (refl, moved_alike (fan_count c) few c.fans five alike (bit_read Stall) (undriven_read Stall))
  own_cleared_five SpinStatus = (refl, moved_alike (fan_count c) few c.fans five alike (bit_read Spin) (undriven_read Spin))
  own_cleared_five DriveFailStatus = (refl, alike)
  own_cleared_five Enable = (refl, alike)
  own_cleared_five (Output i) = (refl, alike)
  own_cleared_five Lock = (refl, alike)
  own_cleared_five (Identity i) = (refl, alike)

  register_cleared_five : (r : Register) → AsFive (cleared_of (kept (fan_count c) r) c) (cleared_of r d)
  register_cleared_five (OfFan i offset) = by_test (leb (fan_count c) i) (λ t. rw t (refl, alike)) (λ t. rw t (refl, alike))
  register_cleared_five (OfChip own) = own_cleared_five own
  register_cleared_five Undefined = (refl, alike)

  cleared_five : (a : ℕ) → AsFive (cleared_at a c) (cleared_at a d)
  unfolding cleared_at
  cleared_five a = rw (register_kept (fan_count c) few a) (register_cleared_five (register_of 5 a))

  -- a write to a register that both have
  module _ (byte : ℕ) where
    own_stored_five : (own : Own) → AsFive (own_stored own byte c) (own_stored own byte d)
    own_stored_five Configuration = (refl, alike)
    own_stored_five Status = (refl, alike)
    own_stored_five StallStatus = (refl, alike)
    own_stored_five SpinStatus = (refl, alike)
    own_stored_five DriveFailStatus = (refl, alike)
    own_stored_five Enable = (refl, alike)
    own_stored_five (Output i) = (refl, alike)
    own_stored_five Lock = (refl, alike)
    own_stored_five (Identity i) = (refl, alike)

    fan_stored_five : (i offset : ℕ) → i < fan_count c → AsFive (fan_stored i offset byte c) (fan_stored i offset byte d)
    unfolding fan_stored
    fan_stored_five i offset h = (refl, (fan_five i (written offset byte) h).1)

    register_stored_five : (r : Register) → past_fan (fan_count c) r ≡ false
        → AsFive (cond (stores_in c r) (stored_of r byte c) c) (cond (stores_in d r) (stored_of r byte d) d)
    register_stored_five (OfFan i offset) p =
        let h : i < fan_count c = leb-false (fan_count c) i p in
        subst
        (λ (f : Fan).
        AsFive (cond (takes (is_locked c) f offset) (fan_stored i offset byte c) c)
        (cond (takes (is_locked c) (fan_at five i) offset) (fan_stored i offset byte d) d))
        (sym (alike.2 i h))
        (either_alike (takes (is_locked c) (fan_at five i) offset) (fan_stored i offset byte c) c (fan_stored i offset byte d) d (fan_stored_five i offset h)
        (refl, alike))
    register_stored_five (OfChip own) p = either_alike (own_stores c own) (own_stored own byte c) c (own_stored own byte d) d (own_stored_five own) (refl, alike)
    register_stored_five Undefined p = (refl, alike)

    written_five : (a : ℕ) → of_others (fan_count c) a ≡ false → AsFive (written_at a byte c) (written_at a byte d)
    unfolding written_at stores_at
    written_five a p =
        let same : register_of (fan_count c) a ≡ register_of 5 a = register_kept (fan_count c) few a ∙ rw p in
        subst (λ (r : Register). AsFive (cond (stores_in c r) (stored_of r byte c) c) (written_at a byte d)) (sym same)
        (register_stored_five (register_of 5 a) p)

    -- and to one that only the five-fan part has
    written_absent : (a : ℕ) → of_others (fan_count c) a ≡ true → written_at a byte c ≡ c
    unfolding written_at stores_at
    written_absent a p = let none : register_of (fan_count c) a ≡ Undefined = register_kept (fan_count c) few a ∙ rw p in rw none

-- of any two that are alike
pub tick_alike : (c d : Chip) → AsFive c d → AsFive (chip_ticked c) (chip_ticked d)
tick_alike c = by_five c (λ (d : Chip). AsFive (chip_ticked c) (chip_ticked d)) (tick_five c)

pub passed_alike : (n : ℕ) (c d : Chip) → AsFive c d → AsFive (passed n c) (passed n d)
passed_alike n c = by_five c (λ (d : Chip). AsFive (passed n c) (passed n d)) (λ five alike. (refl, alike))

pub fed_alike : (c d : Chip) → AsFive c d → AsFive (fed_chip c) (fed_chip d)
fed_alike c = by_five c (λ (d : Chip). AsFive (fed_chip c) (fed_chip d)) (λ five alike. (refl, alike))

-- a data byte for a fan past the first so many, and any other
module _ (count n byte : ℕ) (d : Chip) where
  pub kept_other : of_others count d.pointer ≡ true → byte_kept count n byte d ≡ passed n d
  unfolding byte_kept
  kept_other t = rw t

  pub kept_own : of_others count d.pointer ≡ false → byte_kept count n byte d ≡ byte_written n byte d
  unfolding byte_kept
  kept_own t = rw t

byte_five : (n byte : ℕ) (c : Chip) (five : List Fan) → FansAlike (fan_count c) c.fans five
    → AsFive (byte_written n byte c) (byte_kept (fan_count c) n byte (five_fan five c))
unfolding byte_written
byte_five n byte c five alike =
    let count = fan_count c in
    let d = five_fan five c in
    let a = c.pointer in
    by_test (of_others count a)
    (λ t.
    subst (λ (x : Chip). AsFive (byte_written n byte c) x) (sym (kept_other count n byte d t))
    (subst (λ (x : Chip). AsFive (passed n x) (passed n d)) (sym (written_absent c five alike byte a t)) (refl, alike)))
    (λ t.
    subst (λ (x : Chip). AsFive (byte_written n byte c) x) (sym (kept_own count n byte d t))
    (passed_alike n (written_at a byte c) (written_at a byte d) (written_five c five alike byte a t)))

pub byte_alike : (n byte : ℕ) (c d : Chip) → AsFive c d → AsFive (byte_written n byte c) (byte_kept (fan_count c) n byte d)
byte_alike n byte c = by_five c (λ (d : Chip). AsFive (byte_written n byte c) (byte_kept (fan_count c) n byte d)) (byte_five n byte c)

turns_alike : (n : ℕ) (bytes : List ℕ) (c d : Chip) → AsFive c d → AsFive (in_turn n bytes c) (in_turn_kept (fan_count c) n bytes d)
unfolding in_turn in_turn_kept
turns_alike n [] c d a = a
turns_alike n (byte ∷ rest) c d a =
    subst (λ (count : ℕ). AsFive (in_turn n rest (byte_written n byte c)) (in_turn_kept count n rest (byte_kept (fan_count c) n byte d)))
    (ap fans_of (byte_part n byte c))
    (turns_alike n rest (byte_written n byte c) (byte_kept (fan_count c) n byte d) (byte_alike n byte c d a))

pub sent_alike : (bytes : List ℕ) (c d : Chip) → AsFive c d → AsFive (sent bytes c) (sent_kept (fan_count c) bytes d)
unfolding sent sent_kept
sent_alike [] c d a = a
sent_alike (pointer ∷ rest) c d a =
    turns_alike (length rest) rest (with_pointer pointer c) (with_pointer pointer d)
    (by_five c (λ (d : Chip). AsFive (with_pointer pointer c) (with_pointer pointer d)) (λ five alike. (refl, alike)) d a)

pub byte_read_alike : (n : ℕ) (c d : Chip) → AsFive c d → AsFive (byte_read n c) (byte_read n d)
unfolding byte_read
byte_read_alike n c =
    by_five c (λ (d : Chip). AsFive (byte_read n c) (byte_read n d))
    (λ five alike. passed_alike n (cleared_at c.pointer c) (cleared_at c.pointer (five_fan five c)) (cleared_five c five alike c.pointer))

-- a step taken n times
pub repeated_alike : (n : ℕ) (move : Chip → Chip) → ((c d : Chip) → AsFive c d → AsFive (move c) (move d)) → (c d : Chip) → AsFive c d
    → AsFive (repeated n move c) (repeated n move d)
unfolding repeated
repeated_alike zero move keep c d a = a
repeated_alike (suc n) move keep c d a = keep (repeated n move c) (repeated n move d) (repeated_alike n move keep c d a)
