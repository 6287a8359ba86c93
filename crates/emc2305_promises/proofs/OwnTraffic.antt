-- A fan after events is what its own traffic makes of it (specs/Alone.antt).
use mathlib.Core.Path.{◌≡◌, refl, sym, ap, ◌∙◌}
use mathlib.Core.Bool.{true, cond, false≢true}
use mathlib.Core.List.{List, [], ◌∷◌, append-nil}
use Prim.Native.Nat.{ℕ, zero, suc, ◌+◌, ◌-◌}
use lib.Dec.{leb, eqb}
use lib.ListN.{get_or, replicate}
use borrow.Author.Tests.{leb-true}
use Rattle.laws.specs.Buffer.{bytes_at}
use Rattle.laws.specs.Repeat.{repeated}
use Rattle.laws.proofs.Tests.{and_left, and_right}
use Rattle.eventlog.specs.declared.Event.{Event}
use Rattle.eventlog.specs.declared.Event.TheVariants.{Sample, Wish}
use Rattle.eventlog.specs.Range.{fan_in_range, range_number}
use Rattle.eventlog.proofs.Ranges.{fan_right_lem}
use Rattle.emc2305_fan.specs.declared.Fan.{Fan}
use Rattle.emc2305_fan.specs.Tick.{ticked}
use Rattle.emc2305_watchdog.specs.declared.Watch.TheVariants.{Off}
use Rattle.emc2305_watchdog.specs.Watch.{is_off}
use Rattle.emc2305_chip.specs.declared.Chip.{Chip}
use Rattle.emc2305_chip.specs.Watching.{fed_chip}
use Rattle.emc2305_chip.specs.Registers.{at_defaults, on_fan}
use Rattle.emc2305_chip.proofs.ChipTicks.{fan_ticks}
use Rattle.emc2305.specs.Step.{taken}
use Rattle.emc2305.proofs.Effects.{Powering, Idle, by_effect}
use Rattle.emc2305.proofs.FansKept.{five_fans}
use Rattle.walks.specs.Sequence.{Handed}
use Rattle.walks.specs.Sequence as any
use Rattle.emc2305_promises.specs.Ramp.{next, is_taken, fan_of, watch_off}
use Rattle.emc2305_promises.specs.Alone.{Own, tick, sample, wish, move_by, played, of_ticks, of_sample, of_wish, of_transfer, of_event, own_traffic, Alone, NoFanWaits}
use Rattle.walks.proofs.Sequences.{first_rest}
use Rattle.emc2305.specs.Device.{emc2305}
use Rattle.emc2305_promises.proofs.Events.{is_off_lem, same_fan, by_taken, off_part, Has, has}
use Rattle.emc2305_promises.proofs.OwnBytes.{both, one_own, sent_own, reads_own}

-- a step before n steps is one after them
first_last : (n : ℕ) (f : Fan) → repeated n ticked (ticked f) ≡ ticked (repeated n ticked f)
unfolding repeated
first_last zero f = refl
first_last (suc n) f = ap ticked (first_last n f)

played_ticks : (n : ℕ) (f : Fan) → repeated n ticked f ≡ played (replicate n tick) f
unfolding repeated played
played_ticks zero f = refl
played_ticks (suc n) f = sym (first_last n f) ∙ played_ticks n (ticked f)

-- nothing of a power-on, nor of an event that leaves every chip
pub powering_own : (i : ℕ) (log : List ℕ) (event : Event) (c : Chip) → Powering event → of_event i log event c ≡ []
powering_own i log event c powering =
    let t : of_ticks event ≡ [] = powering.no_ticks [] _ in
    let s : of_sample i event ≡ [] = powering.no_sample [] _ in
    let w : of_wish i event ≡ [] = powering.no_wish [] _ in
    let x : of_transfer i log event c ≡ [] = powering.no_transfer [] _ in
    rw (t, s, w, x)

pub idle_own : (i : ℕ) (log : List ℕ) (event : Event) (c : Chip) → Idle event → of_event i log event c ≡ []
idle_own i log event c idle =
    let t : of_ticks event ≡ [] = idle.no_ticks [] _ in
    let s : of_sample i event ≡ [] = idle.no_sample [] _ in
    let w : of_wish i event ≡ [] = idle.no_wish [] _ in
    let x : of_transfer i log event c ≡ [] = idle.no_transfer [] _ in
    rw (t, s, w, x)

-- an event that is taken, with the watch off before it and after
module _ (i : ℕ) (log : List ℕ) (c : Chip) (off : c.watch ≡ Off) (h : Has i c) where
  -- a sample or a wish, by the number of its fan
  for_fan : (fan : ℕ) (own : Own) → fan_in_range fan ≡ true
      → fan_of i (on_fan (fan - 1) (move_by own) c) ≡ played (cond (eqb fan (i + 1)) (own ∷ []) []) (fan_of i c)
  for_fan fan own r = rw (← same_fan fan i (leb-true 1 fan (and_left (leb 1 fan) (leb fan 5) r))) (one_own i (fan - 1) own c h)

  taken_own : (event : Event) → range_number log event ≡ 0 → is_off (taken log event c).watch ≡ true
      → fan_of i (taken log event c) ≡ played (of_event i log event c) (fan_of i c)
  unfolding taken at_defaults played
  taken_own =
      by_effect
      (λ (e : Event).
      range_number log e ≡ 0 → is_off (taken log e c).watch ≡ true → fan_of i (taken log e c) ≡ played (of_event i log e c) (fan_of i c))
      (λ e on r o. absurd (false≢true (ap (λ (d : Chip). is_off d.watch) (sym (on.resets log c)) ∙ o)))
      (λ n r o. rw (append-nil (replicate n tick)) ((fan_ticks c i n off h.0 h.1).0 ∙ played_ticks n (fan_of i c)))
      (λ fan n r o. rw (append-nil (of_sample i (Sample fan n)), off) (for_fan fan (sample n) (fan_right_lem log (Sample fan n) r)))
      (λ fan drive r o. rw (append-nil (of_wish i (Wish fan drive))) (for_fan fan (wish drive) (fan_right_lem log (Wish fan drive) r)))
      (λ to place n r o. reads_own i (get_or log place 0) (get_or log place 0) (fed_chip c) h)
      (λ to place n r o. sent_own i (bytes_at log place n) (fed_chip c) h)
      (λ e idle r o. rw (idle.leaves log c, idle_own i log e c idle))

pub event_own : (h : Handed) (c : Chip) (i : ℕ) → Has i c → watch_off h c ≡ true
    → fan_of i (next h c) ≡ played (cond (is_taken h c) (of_event i h.log h.event c) []) (fan_of i c)
unfolding played
event_own h c i l quiet =
    let off = is_off_lem c.watch (and_left (is_off c.watch) (is_off (next h c).watch) quiet) in
    let still = and_right (is_off c.watch) (is_off (next h c).watch) quiet in
    by_taken h c (λ t e r. rw (t, e) (taken_own i h.log c off l h.event r (rw e at still))) (λ t e. rw (t, e))

pub alone : Alone
unfolding any.throughout any.after_all own_traffic played
alone i c [] five l quiet = refl
alone i c (h ∷ rest) five l quiet =
    let own = cond (is_taken h c) (of_event i h.log h.event c) [] in
    let q = first_rest emc2305 watch_off h rest c quiet in
    both own (own_traffic i rest (next h c)) (fan_of i c) (fan_of i (next h c)) _ (event_own h c i (has i c five l) q.0)
    (alone i (next h c) rest (five_fans c h.log h.event h.room five) (rw (off_part h c q.0) l) q.1)

pub no_fan_waits : NoFanWaits
no_fan_waits i c d events others five quiet calm same-before same_traffic =
    alone i c events five.0 five.2 quiet ∙ rw (same-before, same_traffic) (sym (alone i d others five.1 five.3 calm))
