-- The fans side by side: one changed and the others not, and always places for five.
use mathlib.Core.Path.{◌≡◌, refl, sym, ap, ◌∙◌}
use mathlib.Core.Bool.{true, false, not, true≢false}
use mathlib.Core.List.{List, [], ◌∷◌}
use Prim.Native.Nat.{ℕ, ◌-◌}
use lib.Dec.{eqb}
use lib.ListN.{length, get_or, length-set}
use lib.Seq.{get_or-set_other}
use borrow.Author.Tests.{eqb-false, not-true}
use Rattle.laws.specs.Buffer.{bytes_at}
use Rattle.laws.proofs.Lists.{length_moved, moved_keeps}
use Rattle.laws.specs.Repeat.{repeated}
use Rattle.laws.proofs.Repeat.{repeated_keeps}
use Rattle.laws.proofs.Tests.{by_test, or_left, or_right}
use Rattle.eventlog.specs.declared.Event.{Event}
use Rattle.eventlog.specs.declared.Event.TheVariants.{Sample, Wish, Transfer}
use Rattle.emc2305_fan.specs.declared.Fan.{Fan}
use Rattle.emc2305_fan.specs.Status.{but_status, bit_read}
use Rattle.emc2305_fan.proofs.Statuses.{status_read}
use Rattle.emc2305_chip.specs.declared.Chip.{Chip}
use Rattle.emc2305_chip.specs.declared.Register.{Register}
use Rattle.emc2305_chip.specs.State.{fan_count, with_pointer}
use Rattle.emc2305_chip.specs.Map.{is_of_fan}
use Rattle.emc2305_chip.specs.Fans.{no_fan, fan_at}
use Rattle.emc2305_chip.specs.Watching.{fed_chip}
use Rattle.emc2305_chip.specs.Registers.{at_defaults, register_at, fan_stored, cleared_at, written_at}
use Rattle.emc2305_chip.proofs.Moves.{cleared_keeps, stored_keeps, written_keeps, ticks_count}
use Rattle.emc2305.specs.Transfers.{byte_written, in_turn, sent, byte_read, read_out}
use Rattle.emc2305.specs.Step.{taken}
use Rattle.emc2305.specs.Traffic.{byte_stores_to, any_stores_to, sent_stores_to}
use Rattle.emc2305.specs.Promises.{FiveFans, OtherFans}
use Rattle.emc2305.proofs.Effects.{by_effect}
use Rattle.emc2305.proofs.ReadKeeps.{passed_keeps, read_keeps}
use Rattle.emc2305.proofs.Numbers.{after_keeps}

-- how many places for fans there are
abbrev count : Chip → ℕ
count c = length c.fans

pub write_counts : (n byte : ℕ) (c : Chip) → count (byte_written n byte c) ≡ count c
unfolding byte_written fan_stored
write_counts n byte c =
    passed_keeps count n (written_at c.pointer byte c) (λ p. refl)
    ∙ written_keeps count c.pointer byte c
    (λ t.
    stored_keeps count (λ (r : Register). true) byte c (λ e. refl) refl (λ i. refl) (λ i offset e. length-set c.fans i _) (λ e. refl)
    (register_at c c.pointer) refl)

pub reads_count : (n k : ℕ) (c : Chip) → count (repeated k (byte_read n) c) ≡ count c
unfolding byte_read cleared_at
reads_count n k c =
    repeated_keeps count k (byte_read n) c
    (λ d.
    passed_keeps count n (cleared_at d.pointer d) (λ p. refl)
    ∙ cleared_keeps count d refl (λ which. length_moved (fan_count d) _ d.fans) (register_at d d.pointer))

turns_count : (n : ℕ) (bytes : List ℕ) (c : Chip) → count (in_turn n bytes c) ≡ count c
unfolding in_turn
turns_count n [] c = refl
turns_count n (byte ∷ rest) c = turns_count n rest (byte_written n byte c) ∙ write_counts n byte c

sent_counts : (bytes : List ℕ) (c : Chip) → count (sent bytes c) ≡ count c
unfolding sent
sent_counts [] c = refl
sent_counts (pointer ∷ rest) c = turns_count (length rest) rest (with_pointer pointer c)

taken_counts : (log : List ℕ) (event : Event) (c : Chip) → count c ≡ 5 → count (taken log event c) ≡ count c
unfolding taken at_defaults
taken_counts log event c h =
    by_effect (λ (e : Event). count (taken log e c) ≡ count c) (λ e on. ap count (on.resets log c) ∙ sym h) (λ n. ticks_count n c)
    (λ fan n. length-set c.fans (fan - 1) _) (λ fan drive. length-set c.fans (fan - 1) _)
    (λ to place n. read_keeps count _ (fed_chip c) (λ d p. refl) (λ d. refl) (λ d which. length_moved (fan_count d) _ d.fans))
    (λ to place n. sent_counts _ (fed_chip c)) (λ e idle. ap count (idle.leaves log c)) event

pub five_fans : FiveFans
five_fans c log event room h = after_keeps count c log event room (taken_counts log event c h) ∙ h

-- fan i + 1, over a write that stores nothing to it, and over a read
module _ (i : ℕ) where
  abbrev fan : Chip → Fan
  fan c = fan_at c.fans i

  write_leaves : (n byte : ℕ) (c : Chip) → byte_stores_to i c ≡ false → fan (byte_written n byte c) ≡ fan c
  unfolding byte_written fan_stored
  write_leaves n byte c h =
      let register = register_at c c.pointer in
      passed_keeps fan n (written_at c.pointer byte c) (λ p. refl)
      ∙ written_keeps fan c.pointer byte c
      (λ t.
      stored_keeps fan (λ (r : Register). not (is_of_fan i r)) byte c (λ e. refl) refl (λ k. refl)
      (λ k offset e. get_or-set_other c.fans k i _ no_fan (λ same. eqb-false k i (not-true (eqb k i) e) (sym same))) (λ e. refl) register
      (by_test (is_of_fan i register) (λ u. absurd (true≢false (rw (u, t) at h))) (λ u. rw u)))

  turns_leave : (n : ℕ) (bytes : List ℕ) (c : Chip) → any_stores_to i n bytes c ≡ false → fan (in_turn n bytes c) ≡ fan c
  unfolding in_turn any_stores_to
  turns_leave n [] c h = refl
  turns_leave n (byte ∷ rest) c h =
      let after = byte_written n byte c in
      turns_leave n rest after (or_right (byte_stores_to i c) (any_stores_to i n rest after) h)
      ∙ write_leaves n byte c (or_left (byte_stores_to i c) (any_stores_to i n rest after) h)

  sent_leaves : (bytes : List ℕ) (c : Chip) → sent_stores_to i bytes c ≡ false → fan (sent bytes c) ≡ fan c
  unfolding sent sent_stores_to
  sent_leaves [] c h = refl
  sent_leaves (pointer ∷ rest) c h = turns_leave (length rest) rest (with_pointer pointer c) h

  reads_leave : (n : ℕ) (c : Chip) → but_status (fan (read_out n c)) ≡ but_status (fan c)
  reads_leave n c =
      read_keeps (λ (d : Chip). but_status (fan d)) n c (λ d p. refl) (λ d. refl)
      (λ d which. moved_keeps but_status (fan_count d) (bit_read which) (λ f. (status_read which f).2) d.fans i no_fan)

pub other_fans : OtherFans
unfolding taken
other_fans c log room i = (
  λ k count e. after_keeps (fan i) c log (Sample k count) room (get_or-set_other c.fans (k - 1) i _ no_fan e),
  λ k drive e. after_keeps (fan i) c log (Wish k drive) room (get_or-set_other c.fans (k - 1) i _ no_fan e),
  λ to place n e. after_keeps (fan i) c log (Transfer false to place n) room (sent_leaves i (bytes_at log place n) (fed_chip c) e),
  λ to place n.
      after_keeps (λ (d : Chip). but_status (fan i d)) c log (Transfer true to place n) room (reads_leave i (get_or log place 0) (fed_chip c)),
)
