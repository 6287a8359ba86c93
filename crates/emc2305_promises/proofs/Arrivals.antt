-- What follows from demand 3 (specs/Corollaries.antt).
use mathlib.Core.Path.{◌≡◌, refl, sym, ◌∙◌}
use mathlib.Core.Logic.{⊎_elim}
use mathlib.Core.Bool.{Bool, true, false, cond, not, ◌&&◌, and-false, false≢true, true≢false}
use mathlib.Core.List.{List, [], ◌∷◌}
use Prim.Native.Nat.{ℕ, zero, suc, ◌+◌, ◌-◌, ◌*◌, ◌/◌, ◌%◌, ◌≤◌, ◌<◌}
use native.Mathlib.Omega.{arith}
use native.Mathlib.Nat.{add-zero, add_assoc, mul_comm, div-eq_of_lt}
use lib.Dec.{leb}
use lib.ListN.{take, drop}
use borrow.Author.Tests.{leb-true, leb-false, le-ltb, eq-eqb}
use Rattle.laws.specs.Repeat.{repeated}
use Rattle.laws.proofs.Divide.{one_more, one_round}
use Rattle.laws.proofs.Tests.{by_test, and_left, and_right}
use Rattle.eventlog.specs.Kinds.{ticks_of}
use Rattle.eventlog.specs.Range.{range_number}
use Rattle.emc2305_fan.specs.Ramp.{moved}
use Rattle.emc2305_fan.specs.Drive.{under_ramp, period}
use Rattle.emc2305_fan.specs.Tick.{clock_ticked, ticked}
use Rattle.emc2305_fan.proofs.Ramps.{one_update, updates, arrives}
use Rattle.emc2305_watchdog.specs.declared.Watch.TheVariants.{Off}
use Rattle.emc2305_chip.specs.declared.Chip.{Chip}
use Rattle.emc2305_chip.specs.Ticks.{chip_ticked}
use Rattle.emc2305.specs.Step.{step_number, stepped}
use Rattle.emc2305.specs.Traffic.{is_sample, is_wish_for}
use Rattle.walks.specs.Sequence.{Handed}
use Rattle.walks.specs.Sequence as any
use Rattle.emc2305_promises.specs.Ramp.{next, is_taken, after_all, throughout, taken_ticks, fan_of, undisturbed, Ramping}
use Rattle.emc2305_promises.specs.Corollaries.{RefusedMeets, TicksTaken, UpdateTicks, updates_in, updates_made, Arrival, ticks_at, AtEachPoint, NeverPasses}
use Rattle.walks.proofs.Sequences.{first_rest}
use Rattle.emc2305.specs.Device.{emc2305}
use Rattle.emc2305_promises.proofs.Events.{by_taken}
use Rattle.emc2305_promises.proofs.RampKept.{Ramped, no_ticks, off_before, chip_ticks, of_event_lem}
use Rattle.emc2305_promises.proofs.Demand3.{div_then, moved_then, and_then, ramp_promise}

never : (b : Bool) → not b && b ≡ false
never true = refl
never false = refl

pub ticks_taken : TicksTaken
unfolding stepped step_number range_number
ticks_taken log count room c on = rw (on, le-ltb room 0 (omega arith))

pub refused_meets : RefusedMeets
refused_meets i h c t off =
    let f = fan_of i c in
    by_taken h c (λ is e r. absurd (true≢false (sym is ∙ t)))
    (λ isnt e.
    let same = eq-eqb f.wish f.wish refl in
    simp (t, e, off, same, never f.spin.running, and-false (is_wish_for i h.event), and-false (is_sample h.event)))

pub update_ticks : UpdateTicks
unfolding ticked clock_ticked under_ramp
update_ticks f =
    by_test f.spin.running
    (λ e. (λ a. absurd (false≢true (and_left false false (and_right (under_ramp f) false (rw e at a)))), λ n. absurd (true≢false (sym e ∙ n))))
    (λ e.
    by_test (under_ramp f)
    (λ o.
    by_test (leb (period f) (f.clock + 1)) (λ l. (λ a. rw (e, o, l), λ n a. absurd (true≢false (rw (e, o, l) at a))))
    (λ l. (λ a. absurd (false≢true (rw (e, o, l) at a)), λ n a. rw (e, o, l))))
    (λ o. (λ a. absurd (false≢true (rw o at a)), λ n a. rw (e, o))))

module _ (i d g s u p : ℕ) (c : Chip) (r : Ramping i d g s u p c) where
  -- the updates in n ticks
  in_ticks : (n : ℕ) → c.watch ≡ Off → updates_in i n c ≡ (p + n) / u
  unfolding updates_in
  in_ticks zero w = rw (add-zero p, div-eq_of_lt r.0.7)
  in_ticks (suc n) w =
      let x = p + n in
      let a = chip_ticks n i d g s u p c r w in
      let e : p + suc n ≡ x + 1 = omega arith in
      rw (in_ticks n w, a.0.0, a.0.1, a.0.5, a.0.6, e)
      (by_test (leb u (x % u + 1))
      (λ t. rw t (sym (one_round x u (omega (arith, leb-true u (x % u + 1) t, a.0.7))).0))
      (λ t. rw t (add-zero (x / u) ∙ sym (one_more x u (leb-false u (x % u + 1) t)).0)))

  -- in one event
  in_event : (h : Handed) → undisturbed i h c ≡ true
      → cond (is_taken h c) (updates_in i (ticks_of h.event) c) 0 ≡ (p + cond (is_taken h c) (ticks_of h.event) 0) / u
  in_event h q =
      by_test (is_taken h c) (λ t. rw t (in_ticks (ticks_of h.event) (off_before i h c q)))
      (λ t. rw (t, add-zero p, div-eq_of_lt r.0.7))

made : (i d g s u p : ℕ) (c : Chip) (events : List Handed) → Ramping i d g s u p c → throughout (undisturbed i) events c ≡ true
    → updates_made i events c ≡ (p + taken_ticks events c) / u
unfolding updates_made any.taken_ticks
made i d g s u p c [] r q = rw (add-zero p, div-eq_of_lt r.0.7)
made i d g s u p c (h ∷ rest) r q =
    let n : ℕ = cond (is_taken h c) (ticks_of h.event) 0 in
    let t = taken_ticks rest (next h c) in
    let f = first_rest emc2305 (undisturbed i) h rest c q in
    rw (
      in_event i d g s u p c r h f.0,
      made i (moved d g (s * ((p + n) / u))) g s u ((p + n) % u) (next h c) rest (of_event_lem i d g s u p h c r f.0) f.1,
      ← add_assoc p n t,
      div_then (p + n) t u (omega arith),
    )

pub arrival : Arrival
arrival i d g s u p c events r q =
    let e = made i d g s u p c events r q in
    let n = (p + taken_ticks events c) / u in
    (e, λ h. rw ((ramp_promise i d g s u p c events r q).0.2, e, mul_comm s n, ← updates n d g s) (arrives n d g s h))

-- a sequence that is cut after k events
kept_cut : (rule : Handed → Chip → Bool) (k : ℕ) (events : List Handed) (c : Chip) → throughout rule events c ≡ true
    → (throughout rule (take k events) c ≡ true) × (throughout rule (drop k events) (after_all (take k events) c) ≡ true)
unfolding any.throughout any.after_all
kept_cut rule zero events c q = (refl, q)
kept_cut rule (suc k) [] c q = (refl, refl)
kept_cut rule (suc k) (h ∷ rest) c q =
    let f = first_rest emc2305 rule h rest c q in
    let b = kept_cut rule k rest (next h c) f.1 in (rw f.0 b.0, b.1)

-- the ticks up to an event and its own are no more than those up to a later one
ticks_up_to : (k l : ℕ) (events : List Handed) (c : Chip) → k < l
    → taken_ticks (take k events) c + ticks_at k events c ≤ taken_ticks (take l events) c
unfolding any.taken_ticks any.after_all
ticks_up_to k zero events c h = absurd (omega arith)
ticks_up_to zero (suc l) [] c h = omega arith
ticks_up_to zero (suc l) (first ∷ rest) c h = omega arith
ticks_up_to (suc k) (suc l) [] c h = omega arith
ticks_up_to (suc k) (suc l) (first ∷ rest) c h =
    let n : ℕ = cond (is_taken first c) (ticks_of first.event) 0 in
    omega (arith, ticks_up_to k l rest (next first c) (omega arith))

-- m ticks of the first event
point : (m i d g s u p : ℕ) (c : Chip) (events : List Handed) → Ramping i d g s u p c → throughout (undisturbed i) events c ≡ true
    → m ≤ taken_ticks (take 1 events) c → Ramped m i d g s u p (repeated m chip_ticked c)
unfolding repeated any.taken_ticks
point zero i d g s u p c events r q h = no_ticks i d g s u p c r
point (suc m) i d g s u p c [] r q h = absurd (omega arith)
point (suc m) i d g s u p c (first ∷ rest) r q h =
    chip_ticks (suc m) i d g s u p c r (off_before i first c (first_rest emc2305 (undisturbed i) first rest c q).0)

pub at_each_point : AtEachPoint
at_each_point i d g s u p k m c events r q h =
    let after = after_all (take k events) c in
    let a = kept_cut (undisturbed i) k events c q in
    let b = ramp_promise i d g s u p c (take k events) r a.0 in
    and_then (taken_ticks (take k events) c) m i d g s u p (repeated m chip_ticked after) (point m i _ g s u _ after (drop k events) b a.1 h)

pub never_passes : NeverPasses
never_passes i d g s u p k m l n c events r q (here, there, order) =
    let t = taken_ticks (take k events) c + m in
    let later = taken_ticks (take l events) c + n in
    let more = later - t in
    let e : later ≡ t + more = ⊎_elim (λ b. omega (arith, ticks_up_to k l events c b)) (λ b. rw b.0 (omega (arith, b.1))) order in
    let x = at_each_point i d g s u p k m c events r q here in
    let y = at_each_point i d g s u p l n c events r q there in
    rw (x.0.2, y.0.2, e, moved_then t more d g s u p (omega arith))
    ((one_update d g (s * ((p + t) / u))).1, (one_update (moved d g (s * ((p + t) / u))) g _).1)
