-- The EMC2305's step as that of a device: what is asked of one (specs/Device.antt of `walks`), and what an answer tells.
use mathlib.Core.Path.{◌≡◌, sym, ◌∙◌}
use mathlib.Core.Logic.{inl, inr}
use mathlib.Core.Bool.{true, false}
use mathlib.Core.List.{List}
use Prim.Native.Nat.{ℕ, ◌≤◌}
use native.Mathlib.Omega.{arith}
use lib.Dec.{ltb, eqb}
use lib.ListN.{length}
use borrow.Author.Tests.{eqb-true, eqb-false, ltb-true, ltb-false, eq-eqb, ne_eqb}
use Rattle.laws.proofs.Tests.{by_test}
use Rattle.eventlog.specs.declared.Event.{Event}
use Rattle.eventlog.specs.Kinds.{reply_length}
use Rattle.eventlog.specs.Numbers.{walks_on}
use Rattle.emc2305_chip.specs.declared.Chip.{Chip}
use Rattle.emc2305_chip.specs.Watching.{fed_chip}
use Rattle.emc2305.specs.Step.{Answer}
use Rattle.emc2305.specs.Step.{before_power, absent, elsewhere, step_number, reply_to, stepped, reply_after}
use Rattle.emc2305.proofs.Numbers.{step_numbers, numbered, refused, taken_step}
use Rattle.emc2305.proofs.SameSteps.{same_events}
use Rattle.emc2305.proofs.Turns.{reply_length_lem}
use Rattle.walks.specs.Device.{Lawful, Answered, RefusalKeeps, ReplyFits, WalksOrNoRoom, RoomAside, GoesBySaid}
use Rattle.walks.proofs.Stopping.{by_walks_on}
use Rattle.emc2305.specs.Device.{emc2305}

refusal_keeps : RefusalKeeps emc2305
unfolding stepped
refusal_keeps c log event room z =
    let n = step_number c.part c.powered c.address log event room in
    let f : eqb n 0 ≡ false = ne_eqb n 0 (λ e. z (rw (numbered c log event room) e)) in
    (rw f, rw (f, f))

reply_fits : ReplyFits emc2305
unfolding reply_to
reply_fits c log event room z =
    let k = reply_length log event in
    let l : length (reply_to log event c) ≡ k = reply_length_lem k (fed_chip c) k in
    let t : eqb (stepped c log event room).number 0 ≡ true = eq-eqb (stepped c log event room).number 0 z in
    (rw t l, ((step_numbers c.part c.powered c.address log event room).5.0 (sym (numbered c log event room) ∙ z)).4)

walks_or_no_room : WalksOrNoRoom emc2305
walks_or_no_room c log event room good =
    let n = numbered c log event room in
    let numbers = step_numbers c.part c.powered c.address log event room in
    by_test (before_power c.powered event) (λ b. inl (rw (n, numbers.1.1 (good, b))))
    (λ b.
    by_test (absent c.part event) (λ a. inl (rw (n, numbers.2.1 (good, b, a))))
    (λ a.
    by_test (elsewhere c.address event) (λ e. inl (rw (n, numbers.3.1 (good, b, a, e))))
    (λ e.
    by_test (ltb room (reply_length log event))
    (λ s. let short = ltb-true room (reply_length log event) s in inr (n ∙ numbers.4.1 (good, b, a, e, short), short))
    (λ s. inl (rw (n, numbers.5.1 (good, b, a, e, ltb-false room (reply_length log event) s)))))))

-- more room changes no number after which a run walks on
same_number : (c : Chip) (log : List ℕ) (event : Event) (near far : ℕ) → near ≤ far → walks_on (stepped c log event near).number ≡ true
    → step_number c.part c.powered c.address log event far ≡ step_number c.part c.powered c.address log event near
same_number c log event near far h a =
    let n = numbered c log event near in
    let here = step_numbers c.part c.powered c.address log event near in
    let there = step_numbers c.part c.powered c.address log event far in
    by_walks_on (stepped c log event near).number a
    (λ e. let t = here.5.0 (sym n ∙ e) in there.5.1 (t.0, t.1, t.2, t.3, omega (arith, t.4)) ∙ sym e ∙ n)
    (λ e. there.1.1 (here.1.0 (sym n ∙ e)) ∙ sym e ∙ n) (λ e. there.3.1 (here.3.0 (sym n ∙ e)) ∙ sym e ∙ n)
    (λ e. there.2.1 (here.2.0 (sym n ∙ e)) ∙ sym e ∙ n)

room_aside : RoomAside emc2305
unfolding stepped
room_aside c log event near far h a = let s = same_number c log event near far h a in (rw s, rw s, rw s)

goes_by_said : GoesBySaid emc2305
goes_by_said c a b e f room good-a good-b same =
    let s = same_events c a b e f room good-a good-b same in
    (rw s.0, rw s.0, rw (s.0, s.1))

pub lawful : Lawful emc2305
lawful =
    record {
      refusal_keeps = refusal_keeps;
      reply_fits = reply_fits;
      walks_or_no_room = walks_or_no_room;
      room_aside = room_aside;
      goes_by_said = goes_by_said;
    }

-- a step's answer and the buffer after it, as its contract gives them
pub answered : (c : Chip) (log : List ℕ) (event : Event) (lent last : List ℕ) (answer : Answer)
    → answer ≡ stepped c log event (length lent) → last ≡ reply_after c log event lent
    → Answered emc2305 c log event lent answer.number answer.laid answer.chip last
answered c log event lent last answer is lays =
    let n = (stepped c log event (length lent)).number in
    by_test (eqb n 0)
    (λ t.
    let k = taken_step c log event lent (eqb-true n 0 t) in
    record { numbers = rw is; counts = rw (is, t) k.1; moves = rw is; lays = lays ∙ rw t k.2 })
    (λ f.
    let k = refused c log event lent (eqb-false n 0 f) in
    record { numbers = rw is; counts = rw (is, f) k.1; moves = rw is; lays = lays ∙ rw f k.2 })
