-- The answers to an event: the numbers and the replies of a chip and of a five-fan part that is alike.
use mathlib.Core.Path.{◌≡◌, refl, sym, ap, ◌∙◌}
use mathlib.Core.Bool.{Bool, true, false, cond, ◌&&◌, and-false, false≢true}
use mathlib.Core.List.{List, []}
use Prim.Native.Nat.{ℕ, ◌<◌}
use native.Mathlib.Omega.{arith}
use lib.Dec.{leb, eqb}
use lib.ListN.{length, get_or}
use borrow.Author.Tests.{leb-true, le-ltb, eqb-true}
use Rattle.laws.specs.Repeat.{repeated}
use Rattle.laws.proofs.Repeat.{repeated_keeps}
use Rattle.laws.proofs.Tests.{by_test, and_left, and_right}
use Rattle.eventlog.specs.declared.Event.{Event}
use Rattle.eventlog.specs.declared.Event.TheVariants.{Sample, Wish}
use Rattle.eventlog.specs.Kinds.{reply_length}
use Rattle.eventlog.specs.Range.{range_number}
use Rattle.eventlog.proofs.Ranges.{fan_right_lem}
use Rattle.emc2305_parts.specs.declared.Part.{Part}
use Rattle.emc2305_parts.specs.declared.Part.TheVariants.{Emc2305}
use Rattle.emc2305_parts.specs.Parts.{fans_of}
use Rattle.emc2305_chip.specs.declared.Chip.{Chip}
use Rattle.emc2305_chip.specs.State.{fan_count}
use Rattle.emc2305_chip.specs.Watching.{fed_chip}
use Rattle.emc2305_chip.specs.Registers.{shown_at}
use Rattle.emc2305_chip.proofs.Moves.{cleared_part}
use Rattle.emc2305.specs.Transfers.{byte_read}
use Rattle.emc2305.specs.Step.{before_power, absent, elsewhere, step_number, reply_to}
use Rattle.emc2305.proofs.Effects.{by_effect}
use Rattle.emc2305.proofs.Numbers.{numbered}
use Rattle.emc2305.proofs.Turns.{reply_length_lem}
use Rattle.emc2305.proofs.Pointers.{reply_at}
use Rattle.walks.specs.Sequence.{Handed}
use Rattle.emc2305_promises.specs.Held.{read_from}
use Rattle.emc2305_part_promises.specs.Alike.{number_of, AsFive, of_others, AnswerAlike}
use Rattle.emc2305_part_promises.proofs.Shown.{by_five, same_shown}
use Rattle.emc2305_part_promises.proofs.Operations.{fed_alike, byte_read_alike, repeated_alike}

-- the five-fan part has every fan whose number is in range
five_there : (log : List ℕ) (event : Event) → range_number log event ≡ 0 → absent Emc2305 event ≡ false
five_there log =
    by_effect (λ (e : Event). range_number log e ≡ 0 → absent Emc2305 e ≡ false) (λ e on r. on.no_sample _ _ ∙ on.no_wish _ _) (λ n r. refl)
    (λ fan n r. le-ltb 5 fan (leb-true fan 5 (and_right (leb 1 fan) (leb fan 5) (fan_right_lem log (Sample fan n) r))))
    (λ fan drive r. le-ltb 5 fan (leb-true fan 5 (and_right (leb 1 fan) (leb fan 5) (fan_right_lem log (Wish fan drive) r)))) (λ to place n r. refl)
    (λ to place n r. refl) (λ e idle r. idle.no_sample _ _ ∙ idle.no_wish _ _)

-- a sample or a wish goes to no address, and has no reply
no_transfer : (part : Part) (address : ℕ) (log : List ℕ) (event : Event) → absent part event ≡ true
    → (elsewhere address event ≡ false) × (reply_length log event ≡ 0)
no_transfer part address log =
    by_effect (λ (e : Event). absent part e ≡ true → (elsewhere address e ≡ false) × (reply_length log e ≡ 0))
    (λ e on a. (on.no_transfer _ _, on.no_transfer _ _)) (λ n a. (refl, refl)) (λ fan n a. (refl, refl)) (λ fan drive a. (refl, refl))
    (λ to place n a. absurd (false≢true a)) (λ to place n a. absurd (false≢true a)) (λ e idle a. (idle.no_transfer _ _, idle.no_transfer _ _))

-- the number of a step, by that of the five-fan part
module _ (part : Part) (powered : Bool) (address : ℕ) (log : List ℕ) (event : Event) (room : ℕ) where
  abbrev five : ℕ
  five = step_number Emc2305 powered address log event room

  number_five : step_number part powered address log event room ≡ cond (absent part event && eqb five 0) 21 five
  unfolding step_number
  number_five =
      by_test (eqb (range_number log event) 0)
      (λ r.
      let z = eqb-true (range_number log event) 0 r in
      by_test (before_power powered event) (λ b. rw (z, b, and-false (absent part event)))
      (λ b.
      by_test (absent part event)
      (λ a.
      let n = no_transfer part address log event a in
      rw (z, b, a, five_there log event z, n.0, n.1, le-ltb room 0 (omega arith)))
      (λ a. rw (z, b, a, five_there log event z))))
      (λ r. rw (r, r, and-false (absent part event)))

number_alike : (h : Handed) (c d : Chip) → AsFive c d → number_of h c ≡ cond (absent c.part h.event && eqb (number_of h d) 0) 21 (number_of h d)
number_alike h c =
    by_five c (λ (d : Chip). number_of h c ≡ cond (absent c.part h.event && eqb (number_of h d) 0) 21 (number_of h d))
    (λ five alike.
    numbered c h.log h.event h.room ∙ number_five c.part c.powered c.address h.log h.event h.room
    ∙ ap (λ (n : ℕ). cond (absent c.part h.event && eqb n 0) 21 n) (sym (numbered _ h.log h.event h.room)))

-- a reply, where both are taken
module _ (log : List ℕ) (event : Event) (c d : Chip) (alike : AsFive c d) where
  abbrev n : ℕ
  n = reply_length log event

  reply_size : (x : Chip) → length (reply_to log event x) ≡ n
  unfolding reply_to
  reply_size x = reply_length_lem n (fed_chip x) n

  read_part : (k : ℕ) → (repeated k (byte_read n) (fed_chip c)).part ≡ c.part
  unfolding byte_read
  read_part k = repeated_keeps (λ (x : Chip). x.part) k (byte_read n) (fed_chip c) (λ x. cleared_part x.pointer x)

  reply_byte_lem : (k : ℕ) → k < n
      → get_or (reply_to log event c) k 0
      ≡ cond (of_others (fan_count c) (repeated k (byte_read n) (fed_chip d)).pointer) 0x00 (get_or (reply_to log event d) k 0)
  unfolding reply_to
  reply_byte_lem k h =
      let x = repeated k (byte_read n) (fed_chip c) in
      let y = repeated k (byte_read n) (fed_chip d) in
      let a : AsFive x y = repeated_alike k (byte_read n) (byte_read_alike n) (fed_chip c) (fed_chip d) (fed_alike c d alike) in
      let pointer : x.pointer ≡ y.pointer = ap (λ (z : Chip). z.pointer) (sym a.0) in
      let count : fan_count x ≡ fan_count c = ap fans_of (read_part k) in
      reply_at n (fed_chip c) n k h ∙ ap (shown_at x) pointer ∙ (same_shown x y a).0 y.pointer
      ∙ ap (λ (m : ℕ). cond (of_others m y.pointer) 0x00 (shown_at y y.pointer)) count
      ∙ ap (λ (byte : ℕ). cond (of_others (fan_count c) y.pointer) 0x00 byte) (sym (reply_at n (fed_chip d) n k h))

-- the number as it is told apart: the same, or 0 of the five-fan part and 21 of the chip
pub by_number : (h : Handed) (c d : Chip) → AsFive c d → {X : Type 0}
    → (number_of h c ≡ number_of h d → X) → (absent c.part h.event ≡ true → number_of h c ≡ 21 → number_of h d ≡ 0 → X) → X
by_number h c d a same fewer =
    let e = number_alike h c d a in
    by_test (absent c.part h.event && eqb (number_of h d) 0)
    (λ t.
    fewer (and_left (absent c.part h.event) (eqb (number_of h d) 0) t) (e ∙ rw t)
    (eqb-true (number_of h d) 0 (and_right (absent c.part h.event) (eqb (number_of h d) 0) t)))
    (λ t. same (e ∙ rw t))

pub answer_alike : (h : Handed) (c d : Chip) → AsFive c d → AnswerAlike h c d
answer_alike h c d a =
    let log = h.log in
    let event = h.event in
    let Same : Bool → Bool → Type 0 =
    λ s t.
    let x = cond s (reply_to log event c) [] in
    let y = cond t (reply_to log event d) [] in
    (length x ≡ length y)
    × ((k : ℕ) → k < length y → get_or x k 0 ≡ cond (of_others (fan_count c) (read_from k h d)) 0x00 (get_or y k 0)) in
    let reply : Same (eqb (number_of h c) 0) (eqb (number_of h d) 0) =
    by_number h c d a
    (λ e.
    rw e
    (by_test (eqb (number_of h d) 0)
    (λ t.
    rw t (reply_size log event c d a c ∙ sym (reply_size log event c d a d), λ k l. reply_byte_lem log event c d a k (rw (reply_size log event c d a d) at l)))
    (λ t. rw t (refl, λ k l. absurd (omega arith)))))
    (λ b e f.
    let none = reply_size log event c d a d ∙ (no_transfer c.part 0 log event b).1 in
    rw (e, f) (sym none, λ k l. absurd (omega arith))) in
    (number_alike h c d a, reply.0, reply.1)
