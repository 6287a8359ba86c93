-- The part of the chip, and the fans that it does not have, over any event.
use mathlib.Core.Path.{◌≡◌, refl, sym, ap, ◌∙◌}
use mathlib.Core.Bool.{Bool, true, false, cond, true≢false}
use mathlib.Core.List.{List, [], ◌∷◌}
use Prim.Native.Nat.{ℕ, ◌-◌, ◌≤◌, ◌<◌}
use native.Mathlib.Omega.{arith}
use lib.Dec.{leb, ltb}
use lib.ListN.{length, set}
use lib.Seq.{get_or-set_other}
use borrow.Author.Tests.{leb-true, le-leb, lt-ltb, ltb-true, ltb-false}
use Rattle.laws.proofs.Lists.{moved_past}
use Rattle.laws.proofs.Repeat.{repeated_keeps}
use Rattle.laws.proofs.Tests.{by_test}
use Rattle.eventlog.specs.declared.Event.{Event}
use Rattle.eventlog.specs.Kinds.{is_power_on}
use Rattle.emc2305_parts.specs.declared.Part.{Part}
use Rattle.emc2305_parts.proofs.Counts.{some_fans}
use Rattle.emc2305_fan.specs.declared.Fan.{Fan}
use Rattle.emc2305_fan.specs.Status.{bit_read}
use Rattle.emc2305_chip.specs.declared.Chip.{Chip}
use Rattle.emc2305_chip.specs.declared.Register.{Register}
use Rattle.emc2305_chip.specs.declared.Register.TheVariants.{OfFan, OfChip, Undefined}
use Rattle.emc2305_chip.specs.State.{fan_count, with_pointer}
use Rattle.emc2305_chip.specs.Fans.{no_fan, fan_at}
use Rattle.emc2305_chip.specs.Watching.{fed_chip}
use Rattle.emc2305_chip.specs.Registers.{register_at, at_defaults, fan_stored, written_at}
use Rattle.emc2305_chip.specs.Ticks.{chip_ticked}
use Rattle.emc2305_chip.proofs.Maps.{Placed, placed}
use Rattle.emc2305_chip.proofs.Moves.{stored_keeps, written_keeps, written_part, tick_rest, ticks_part}
use Rattle.emc2305_chip.proofs.Watches.{one_tick}
use Rattle.emc2305.specs.Transfers.{byte_written, in_turn, sent, read_out}
use Rattle.emc2305.specs.Step.{absent, taken}
use Rattle.emc2305.specs.Promises.{PartAfter, AbsentFans, after}
use Rattle.emc2305.proofs.Effects.{by_effect}
use Rattle.emc2305.proofs.ReadKeeps.{passed_keeps, read_keeps}
use Rattle.emc2305.proofs.Numbers.{after_keeps, after_if}

-- a view that each data byte keeps is kept by a write
module _ {B : Type 0} (v : Chip → B) (one : (n byte : ℕ) (c : Chip) → v (byte_written n byte c) ≡ v c) (point : (p : ℕ) (c : Chip) → v (with_pointer p c) ≡ v c) where
  turns_keep : (n : ℕ) (bytes : List ℕ) (c : Chip) → v (in_turn n bytes c) ≡ v c
  unfolding in_turn
  turns_keep n [] c = refl
  turns_keep n (byte ∷ rest) c = turns_keep n rest (byte_written n byte c) ∙ one n byte c

  pub sent_keeps : (bytes : List ℕ) (c : Chip) → v (sent bytes c) ≡ v c
  unfolding sent
  sent_keeps [] c = refl
  sent_keeps (pointer ∷ rest) c = turns_keep (length rest) rest (with_pointer pointer c) ∙ point pointer c

-- the part
abbrev part_of : Chip → Part
part_of c = c.part

pub byte_part : (n byte : ℕ) (c : Chip) → part_of (byte_written n byte c) ≡ part_of c
unfolding byte_written
byte_part n byte c = passed_keeps part_of n (written_at c.pointer byte c) (λ p. refl) ∙ written_part c.pointer byte c

pub taken_part : (log : List ℕ) (event : Event) (c : Chip) → is_power_on event ≡ false → part_of (taken log event c) ≡ part_of c
unfolding taken
taken_part log event c =
    by_effect (λ (e : Event). is_power_on e ≡ false → part_of (taken log e c) ≡ part_of c) (λ e on p. absurd (true≢false (sym on.powers ∙ p)))
    (λ n p. ticks_part n c) (λ fan n p. refl) (λ fan drive p. refl)
    (λ to place n p. read_keeps part_of _ (fed_chip c) (λ d q. refl) (λ d. refl) (λ d which. refl))
    (λ to place n p. sent_keeps part_of byte_part (λ q d. refl) _ (fed_chip c)) (λ e idle p. ap part_of (idle.leaves log c)) event

pub after_part : (log : List ℕ) (event : Event) (room : ℕ) (c : Chip) → is_power_on event ≡ false → part_of (after log event room c) ≡ part_of c
after_part log event room c p = after_keeps part_of c log event room (taken_part log event c p)

pub part_after : PartAfter
unfolding taken at_defaults
part_after c log = (λ address. refl, λ address fans. refl, λ event p. taken_part log event c p)

-- a fan that is absent, and otherwise none
module _ (i : ℕ) where
  abbrev missing : Chip → Fan
  missing c = cond (leb (fan_count c) i) (fan_at c.fans i) no_fan

  -- a register of a fan that the chip has, or of none
  abbrev of_present : Chip → Register → Bool
  of_present c (OfFan k offset) = ltb k (fan_count c)
  of_present c (OfChip own) = true
  of_present c Undefined = true

  present : (c : Chip) (a : ℕ) (r : Register) → Placed (fan_count c) a r → of_present c r ≡ true
  present c a (OfFan k offset) p = lt-ltb k (fan_count c) p.3
  present c a (OfChip own) p = refl
  present c a Undefined p = refl

  -- another fan is set
  beside : (c : Chip) (k : ℕ) (f : Fan) (fans : List Fan) → k < fan_count c → fan_count c ≤ i → fan_at (set fans k f) i ≡ fan_at fans i
  beside c k f fans h l = get_or-set_other fans k i f no_fan (λ e. omega arith)

  byte_missing : (n byte : ℕ) (c : Chip) → missing (byte_written n byte c) ≡ missing c
  unfolding byte_written fan_stored
  byte_missing n byte c =
      passed_keeps missing n (written_at c.pointer byte c) (λ p. refl)
      ∙ written_keeps missing c.pointer byte c
      (λ t.
      stored_keeps missing (of_present c) byte c (λ e. refl) refl (λ k. refl)
      (λ k offset e.
      by_test (leb (fan_count c) i) (λ u. rw u (beside c k _ c.fans (ltb-true k (fan_count c) e) (leb-true (fan_count c) i u))) (λ u. rw u))
      (λ e. refl) (register_at c c.pointer) (present c c.pointer (register_at c c.pointer) (placed (fan_count c) c.pointer)))

  tick_missing : (c : Chip) → missing (chip_ticked c) ≡ missing c
  tick_missing c =
      rw (tick_rest c).2 (by_test (leb (fan_count c) i) (λ u. rw u ((one_tick c).3 i (leb-true (fan_count c) i u))) (λ u. rw u))

  read_missing : (n : ℕ) (c : Chip) → missing (read_out n c) ≡ missing c
  read_missing n c =
      read_keeps missing n c (λ d p. refl) (λ d. refl)
      (λ d which. by_test (leb (fan_count d) i) (λ u. rw u (moved_past (fan_count d) (bit_read which) d.fans i no_fan (leb-true (fan_count d) i u))) (λ u. rw u))

  -- a sample or a wish that is not refused with 21 is for a fan that the chip has
  taken_missing : (log : List ℕ) (event : Event) (c : Chip) → is_power_on event ≡ false → absent c.part event ≡ false → fan_count c ≤ i
      → missing (taken log event c) ≡ missing c
  unfolding taken
  taken_missing log event c =
      by_effect (λ (e : Event). is_power_on e ≡ false → absent c.part e ≡ false → fan_count c ≤ i → missing (taken log e c) ≡ missing c)
      (λ e on p a l. absurd (true≢false (sym on.powers ∙ p)))
      (λ n p a l. repeated_keeps missing n chip_ticked c tick_missing)
      (λ fan n p a l. rw (le-leb (fan_count c) i l) (get_or-set_other c.fans (fan - 1) i _ no_fan (λ e. omega (arith, some_fans c.part, ltb-false (fan_count c) fan a))))
      (λ fan drive p a l. rw (le-leb (fan_count c) i l) (get_or-set_other c.fans (fan - 1) i _ no_fan (λ e. omega (arith, some_fans c.part, ltb-false (fan_count c) fan a))))
      (λ to place n p a l. read_missing _ (fed_chip c)) (λ to place n p a l. sent_keeps missing byte_missing (λ q d. refl) _ (fed_chip c))
      (λ e idle p a l. ap missing (idle.leaves log c)) event

pub absent_fans : AbsentFans
absent_fans c log event room i p l =
    let kept : missing i (after log event room c) ≡ missing i c =
    after_if (missing i) c log event room (λ there. taken_missing i log event c p there l) in
    rw (after_part log event room c p, le-leb (fan_count c) i l) at kept
