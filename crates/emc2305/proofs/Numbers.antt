-- A step's number, and what a step does where it is refused and where it is taken.
use mathlib.Core.Path.{◌≡◌, refl, sym, ap, subst, ◌∙◌}
use mathlib.Core.Bool.{Bool, true, false, cond, true≢false}
use mathlib.Core.List.{List}
use Prim.Native.Nat.{ℕ, ◌≤◌, ◌<◌}
use native.Mathlib.Omega.{arith}
use lib.Dec.{eqb, ltb}
use lib.ListN.{length}
use borrow.Author.Tests.{eqb-true, eqb-false, ltb-true, ltb-false, lt-ltb, le-ltb, eq-eqb, ne_eqb}
use Rattle.laws.proofs.Buffer.{length_laid}
use Rattle.laws.proofs.Tests.{by_test}
use Rattle.eventlog.specs.declared.Event.{Event}
use Rattle.eventlog.specs.Kinds.{reply_length}
use Rattle.eventlog.specs.Numbers.{field_fault}
use Rattle.eventlog.specs.Range.{range_number}
use Rattle.eventlog.proofs.Ranges.{range_fault}
use Rattle.emc2305_parts.specs.declared.Part.{Part}
use Rattle.emc2305_chip.specs.Watching.{fed_chip}
use Rattle.emc2305_chip.specs.declared.Chip.{Chip}
use Rattle.emc2305.specs.Step.{Answer}
use Rattle.emc2305.specs.Step.{before_power, absent, elsewhere, step_number, taken, reply_to, stepped, reply_after}
use Rattle.emc2305.specs.Promises.{StepNumbers, Numbered, Refused, TakenStep, after}
use Rattle.emc2305.proofs.Turns.{reply_length_lem}

module _ (part : Part) (powered : Bool) (address : ℕ) (log : List ℕ) (event : Event) (room : ℕ) where
  -- what each number tells
  abbrev Told : ℕ → Type 0
  Told number =
      cond (field_fault number) (range_number log event ≡ number)
      (cond (eqb number 6) ((range_number log event ≡ 0) × (before_power powered event ≡ true))
      (cond (eqb number 21) ((range_number log event ≡ 0) × (before_power powered event ≡ false) × (absent part event ≡ true))
      (cond (eqb number 7)
      ((range_number log event ≡ 0) × (before_power powered event ≡ false) × (absent part event ≡ false) × (elsewhere address event ≡ true))
      (cond (eqb number 8)
      ((range_number log event ≡ 0) × (before_power powered event ≡ false) × (absent part event ≡ false) × (elsewhere address event ≡ false)
      × (room < reply_length log event))
      ((range_number log event ≡ 0) × (before_power powered event ≡ false) × (absent part event ≡ false) × (elsewhere address event ≡ false)
      × (reply_length log event ≤ room))))))

  told : Told (step_number part powered address log event room)
  unfolding step_number
  told =
      by_test (eqb (range_number log event) 0)
      (λ r.
      let z = eqb-true (range_number log event) 0 r in
      by_test (before_power powered event) (λ b. rw (z, b) (refl, refl))
      (λ b.
      by_test (absent part event) (λ a. rw (z, b, a) (refl, refl, refl))
      (λ a.
      by_test (elsewhere address event) (λ e. rw (z, b, a, e) (refl, refl, refl, refl))
      (λ e.
      by_test (ltb room (reply_length log event)) (λ s. rw (z, b, a, e, s) (refl, refl, refl, refl, ltb-true room (reply_length log event) s))
      (λ s. rw (z, b, a, e, s) (refl, refl, refl, refl, ltb-false room (reply_length log event) s))))))
      (λ r. rw (r, range_fault log event (eqb-false (range_number log event) 0 r)))

pub step_numbers : StepNumbers
unfolding step_number
step_numbers part powered address log event room =
    let t = told part powered address log event room in
    let T = Told part powered address log event room in (
      λ number f. (λ e. rw f at (subst T e t), λ h. rw (h, ne_eqb number 0 (λ z. true≢false (sym f ∙ ap field_fault z)))),
      (λ e. subst T e t, λ h. rw (h.0, h.1)),
      (λ e. subst T e t, λ h. rw (h.0, h.1, h.2)),
      (λ e. subst T e t, λ h. rw (h.0, h.1, h.2, h.3)),
      (λ e. subst T e t, λ h. rw (h.0, h.1, h.2, h.3, lt-ltb room (reply_length log event) h.4)),
      (λ e. subst T e t, λ h. rw (h.0, h.1, h.2, h.3, le-ltb room (reply_length log event) h.4)),
    )

module _ (c : Chip) (log : List ℕ) (event : Event) (room : ℕ) where
  abbrev number : ℕ
  number = step_number c.part c.powered c.address log event room

  -- a step that is taken, and one that is not
  is_taken_lem : number ≡ 0 → stepped c log event room ≡ record { number = 0; laid = reply_length log event; chip = taken log event c }
  unfolding stepped
  is_taken_lem e = rw (eq-eqb number 0 e)

  is_refused : (number ≡ 0 → ⊥) → stepped c log event room ≡ record { number = number; laid = 0; chip = c }
  unfolding stepped
  is_refused h = rw (ne_eqb number 0 h)

  by_number : {X : Type 0} → (number ≡ 0 → X) → ((number ≡ 0 → ⊥) → X) → X
  by_number is isnt = by_test (eqb number 0) (λ t. is (eqb-true number 0 t)) (λ f. isnt (eqb-false number 0 f))

pub numbered : Numbered
numbered c log event room =
    by_number c log event room (λ e. rw (is_taken_lem c log event room e) (sym e)) (λ h. rw (is_refused c log event room h))

pub refused : Refused
unfolding reply_after
refused c log event reply h =
    let n = number c log event (length reply) in
    let z : n ≡ 0 → ⊥ = λ e. h (numbered c log event (length reply) ∙ e) in
    let r = is_refused c log event (length reply) z in
    (ap (λ (a : Answer). a.chip) r, ap (λ (a : Answer). a.laid) r, rw (ne_eqb n 0 z))

pub taken_step : TakenStep
unfolding reply_after reply_to
taken_step c log event reply h =
    let room = length reply in
    let z = sym (numbered c log event room) ∙ h in
    let r = is_taken_lem c log event room z in
    let k = reply_length log event in
    let l : length (reply_to log event c) ≡ k = reply_length_lem k (fed_chip c) k in
    let fits = (step_numbers c.part c.powered c.address log event room).5.0 z in (
      ap (λ (a : Answer). a.chip) r,
      ap (λ (a : Answer). a.laid) r ∙ sym l,
      rw (eq-eqb (number c log event room) 0 z),
      rw (eq-eqb (number c log event room) 0 z) (length_laid (reply_to log event c) reply (omega (arith, fits.4))),
    )

-- what an event that is taken, and is for no absent fan, keeps, a step keeps
pub after_if : {B : Type 0} (v : Chip → B) (c : Chip) (log : List ℕ) (event : Event) (room : ℕ)
    → (absent c.part event ≡ false → v (taken log event c) ≡ v c) → v (after log event room c) ≡ v c
after_if v c log event room h =
    by_number c log event room
    (λ e.
    let there = ((step_numbers c.part c.powered c.address log event room).5.0 e).2 in
    ap (λ (a : Answer). v a.chip) (is_taken_lem c log event room e) ∙ h there)
    (λ e. ap (λ (a : Answer). v a.chip) (is_refused c log event room e))

-- and what every event that is taken keeps
pub after_keeps : {B : Type 0} (v : Chip → B) (c : Chip) (log : List ℕ) (event : Event) (room : ℕ)
    → v (taken log event c) ≡ v c → v (after log event room c) ≡ v c
after_keeps v c log event room h = after_if v c log event room (λ there. h)
