-- One event, and any events: a chip and a five-fan part stay alike.
use mathlib.Core.Path.{◌≡◌, sym, ap, subst, ◌∙◌}
use mathlib.Core.Bool.{Bool, true, false, cond}
use mathlib.Core.List.{List, [], ◌∷◌}
use Prim.Native.Nat.{ℕ, ◌-◌}
use native.Mathlib.Omega.{arith}
use lib.Dec.{ltb}
use lib.ListN.{get_or}
use borrow.Author.Tests.{eqb-true, eqb-false, eq-eqb, ne_eqb, ltb-false}
use Rattle.laws.specs.Buffer.{bytes_at}
use Rattle.laws.specs.Repeat.{repeated}
use Rattle.laws.proofs.Tests.{by_test}
use Rattle.eventlog.specs.declared.Event.{Event}
use Rattle.eventlog.specs.Kinds.{on_transfer, reply_length}
use Rattle.eventlog.specs.Range.{range_number}
use Rattle.emc2305_parts.specs.declared.Part.TheVariants.{Emc2305}
use Rattle.emc2305_parts.proofs.Counts.{some_fans}
use Rattle.emc2305_fan.specs.declared.Fan.{Fan}
use Rattle.emc2305_fan.specs.Tach.{sampled}
use Rattle.emc2305_fan.specs.Drive.{wished}
use Rattle.emc2305_watchdog.specs.Watch.{in_power_up}
use Rattle.emc2305_chip.specs.declared.Chip.{Chip}
use Rattle.emc2305_chip.specs.State.{fan_count}
use Rattle.emc2305_chip.specs.Watching.{fed_chip}
use Rattle.emc2305_chip.specs.Registers.{at_defaults, unpowered, on_fan}
use Rattle.emc2305_chip.specs.Ticks.{chip_ticked}
use Rattle.emc2305.specs.Step.{Answer}
use Rattle.emc2305.specs.Transfers.{byte_read}
use Rattle.emc2305.specs.Step.{for_past, absent, step_number, taken, stepped}
use Rattle.emc2305.proofs.Effects.{Powering, Idle, by_effect}
use Rattle.emc2305.proofs.Numbers.{numbered, step_numbers}
use Rattle.walks.specs.Sequence.{Handed}
use Rattle.walks.specs.Sequence as any
use Rattle.emc2305_promises.specs.Ramp.{next, is_taken}
use Rattle.emc2305_part_promises.specs.Alike.{number_of, with_part, AsFive, writes_kept, kept_from, next_kept, after_kept, AnswersAlike}
use Rattle.emc2305_part_promises.specs.Promises.{AlikeStep, Alike, AlikeFromStart}
use Rattle.emc2305_part_promises.proofs.Starts.{starts_alike}
use Rattle.emc2305_part_promises.proofs.Shown.{by_five}
use Rattle.emc2305_part_promises.proofs.Operations.{tick_alike, fed_alike, fan_five, sent_alike, byte_read_alike, repeated_alike}
use Rattle.emc2305_part_promises.proofs.Answers.{by_number, answer_alike}

-- an event that is no sample, no wish and no transfer
pub plain : (count : ℕ) (log : List ℕ) (d : Chip) (e : Event) → for_past count e ≡ false
    → ((other : Chip) (of : Bool → ℕ → ℕ → ℕ → Chip) → on_transfer other of e ≡ other) → kept_from count log e d ≡ with_part Emc2305 (taken log e d)
plain count log d e f t = ap (λ (b : Bool). cond b d (writes_kept count log e d)) f ∙ t (with_part Emc2305 (taken log e d)) _

-- an event that the chip takes
module _ (log : List ℕ) (c d : Chip) (alike : AsFive c d) where
  abbrev count : ℕ
  count = fan_count c

  abbrev Kept : Event → Type 0
  Kept e = AsFive (taken log e c) (kept_from count log e d)

  -- a five-fan part taken for one
  again : (x y : Chip) → AsFive x y → AsFive x (with_part Emc2305 y)
  again x y a = (ap (with_part Emc2305) a.0, a.1)

  power_alike : (e : Event) → Powering e → Kept e
  power_alike e on =
      let k = plain count log d e (on.no_sample _ _ ∙ on.no_wish _ _) (λ other of. on.no_transfer other of) in
      let start = starts_alike on.part true on.address in
      let five = at_defaults Emc2305 true on.address in
      subst (λ (x : Chip). AsFive (taken log e c) x) (sym (k ∙ ap (with_part Emc2305) (on.resets log d) ∙ start.1))
      (subst (λ (x : Chip). AsFive x five) (sym (on.resets log c)) start.0)

  idle_alike : (e : Event) → Idle e → Kept e
  idle_alike e idle =
      let k = plain count log d e (idle.no_sample _ _ ∙ idle.no_wish _ _) (λ other of. idle.no_transfer other of) in
      subst (λ (x : Chip). AsFive (taken log e c) x) (sym (k ∙ ap (with_part Emc2305) (idle.leaves log d)))
      (subst (λ (x : Chip). AsFive x (with_part Emc2305 d)) (sym (idle.leaves log c)) (again c d alike))

  -- a sample or a wish for a fan that the chip has
  fan_alike : (fan : ℕ) (move : Bool → Fan → Fan) → ltb count fan ≡ false
      → AsFive (on_fan (fan - 1) (move (in_power_up c.watch)) c) (with_part Emc2305 (on_fan (fan - 1) (move (in_power_up d.watch)) d))
  fan_alike fan move h =
      let x = on_fan (fan - 1) (move (in_power_up c.watch)) c in
      again x (on_fan (fan - 1) (move (in_power_up d.watch)) d)
      (by_five c (λ (y : Chip). AsFive x (on_fan (fan - 1) (move (in_power_up y.watch)) y))
      (λ five a. fan_five c five a (fan - 1) (move (in_power_up c.watch)) (omega (arith, ltb-false count fan h, some_fans c.part))) d alike)

  taken_alike : (e : Event) → absent c.part e ≡ false → Kept e
  unfolding taken
  taken_alike =
      by_effect (λ (e : Event). absent c.part e ≡ false → Kept e) (λ e on a. power_alike e on)
      (λ n a. again (repeated n chip_ticked c) (repeated n chip_ticked d) (repeated_alike n chip_ticked tick_alike c d alike))
      (λ fan n a. rw a (fan_alike fan (sampled n) a)) (λ fan drive a. rw a (fan_alike fan (λ up. wished drive) a))
      (λ to place n a.
      let k = get_or log place 0 in
      repeated_alike k (byte_read k) (byte_read_alike k) (fed_chip c) (fed_chip d) (fed_alike c d alike))
      (λ to place n a. sent_alike (bytes_at log place n) (fed_chip c) (fed_chip d) (fed_alike c d alike)) (λ e idle a. idle_alike e idle)

-- a step that is taken, and one that is refused
module _ (h : Handed) (c : Chip) where
  abbrev n : ℕ
  n = step_number c.part c.powered c.address h.log h.event h.room

  pub next_taken : number_of h c ≡ 0 → (next h c ≡ taken h.log h.event c) × (range_number h.log h.event ≡ 0) × (absent c.part h.event ≡ false)
  unfolding stepped
  next_taken e =
      let z : n ≡ 0 = sym (numbered c h.log h.event h.room) ∙ e in
      let told = (step_numbers c.part c.powered c.address h.log h.event h.room).5.0 z in
      let step : stepped c h.log h.event h.room
      ≡ record { number = 0; laid = reply_length h.log h.event; chip = taken h.log h.event c } = rw (eq-eqb n 0 z) in
      (ap (λ (a : Answer). a.chip) step, told.0, told.2)

  pub next_refused : (number_of h c ≡ 0 → ⊥) → next h c ≡ c
  unfolding stepped
  next_refused e =
      let step : stepped c h.log h.event h.room ≡ record { number = n; laid = 0; chip = c } =
      rw (ne_eqb n 0 (λ z. e (numbered c h.log h.event h.room ∙ z))) in
      ap (λ (a : Answer). a.chip) step

-- one event
next_alike : (h : Handed) (c d : Chip) → AsFive c d → AsFive (next h c) (next_kept (fan_count c) h d)
next_alike h c d a =
    by_number h c d a
    (λ same.
    by_test (is_taken h d)
    (λ t.
    let told = next_taken h c (same ∙ eqb-true (number_of h d) 0 t) in
    rw (told.0, t) (taken_alike h.log c d a h.event told.2))
    (λ t. rw (next_refused h c (λ z. eqb-false (number_of h d) 0 t (sym same ∙ z)), t) a))
    (λ b e f. rw (next_refused h c (λ z. omega arith), f, b) a)

pub alike_step : AlikeStep
alike_step c d h a = (answer_alike h c d a, next_alike h c d a)

-- any events
pub alike : Alike
unfolding any.after_all after_kept AnswersAlike
alike c d [] a = (tt, a)
alike c d (h ∷ rest) a =
    let step = alike_step c d h a in
    let on = alike (next h c) (next_kept (fan_count c) h d) rest step.1 in
    ((step.0, on.0), on.1)

pub alike_from_start : AlikeFromStart
alike_from_start events = alike unpowered unpowered events (starts_alike Emc2305 false 0).0
