-- One event: what Ramping says of a fan, after it.
use mathlib.Core.Path.{◌≡◌, refl, sym, ap, subst, ◌∙◌}
use mathlib.Core.Bool.{Bool, true, false, cond, not, ◌&&◌, true≢false, false≢true}
use mathlib.Core.List.{List}
use Prim.Native.Nat.{ℕ, ◌+◌, ◌-◌, ◌*◌, ◌/◌, ◌%◌, ◌<◌}
use native.Mathlib.Omega.{arith}
use native.Mathlib.Nat.{add-zero, mul-zero, mod-lt, mod-eq_of_lt, div-eq_of_lt}
use lib.Dec.{leb, eqb}
use lib.ListN.{length, set, get_or-eq_default}
use lib.Seq.{get_or-set_other}
use borrow.Author.Tests.{leb-true, leb-false, eqb-true, eqb-false, not-true}
use Rattle.laws.specs.Repeat.{repeated}
use Rattle.laws.proofs.Tests.{by_test, and_left}
use Rattle.eventlog.specs.declared.Event.{Event}
use Rattle.eventlog.specs.declared.Event.TheVariants.{Ticks, Sample, Wish, Transfer}
use Rattle.eventlog.specs.Kinds.{is_power_on, ticks_of}
use Rattle.eventlog.specs.Range.{range_number}
use Rattle.eventlog.proofs.Ranges.{fan_right_lem}
use Rattle.emc2305_fan.specs.declared.Fan.{Fan}
use Rattle.emc2305_fan.specs.State.{with_wish}
use Rattle.emc2305_fan.specs.Registers.{byte_at, closed_loop}
use Rattle.emc2305_fan.specs.Ramp.{moved}
use Rattle.emc2305_fan.specs.Drive.{goal, under_ramp, wished}
use Rattle.emc2305_fan.specs.Spin.{started, too_slow}
use Rattle.emc2305_fan.specs.Tick.{ticked}
use Rattle.emc2305_fan.specs.Status.{but_status}
use Rattle.emc2305_fan.specs.Tach.{count_high, count_low, with_reading, judged, stall, sampled}
use Rattle.emc2305_fan.proofs.Ramps.{stays}
use Rattle.emc2305_fan.proofs.Ticks.{ramp_ticks}
use Rattle.emc2305_watchdog.specs.declared.Watch.TheVariants.{Off}
use Rattle.emc2305_watchdog.specs.Watch.{is_off, in_power_up}
use Rattle.emc2305_chip.specs.declared.Chip.{Chip}
use Rattle.emc2305_chip.specs.Fans.{no_fan}
use Rattle.emc2305_chip.specs.Registers.{on_fan}
use Rattle.emc2305_chip.specs.Ticks.{chip_ticked}
use Rattle.emc2305_chip.proofs.Moves.{ticks_part}
use Rattle.emc2305_chip.proofs.ChipTicks.{fan_ticks}
use Rattle.emc2305_chip.proofs.Promises.{one_fan}
use Rattle.emc2305.specs.Step.{taken}
use Rattle.emc2305.specs.Traffic.{stores_to}
use Rattle.emc2305.proofs.Effects.{Powering, by_effect}
use Rattle.emc2305.proofs.Parts.{after_part}
use Rattle.emc2305.proofs.FansKept.{other_fans}
use Rattle.walks.specs.Sequence.{Handed}
use Rattle.emc2305_promises.specs.Ramp.{next, is_taken, fan_of, no_power_on, no_stored_write, no_new_wish, no_sample_starts, watch_off, undisturbed, RampingFan, Ramping}
use Rattle.emc2305_promises.proofs.Events.{is_off_lem, by_taken}

-- ramping as after n ticks more
abbrev pub Ramped : ℕ → ℕ → ℕ → ℕ → ℕ → ℕ → ℕ → Chip → Type 0
Ramped n i d g s u p c = Ramping i (moved d g (s * ((p + n) / u))) g s u ((p + n) % u) c

-- none leave it
pub no_ticks : (i d g s u p : ℕ) (c : Chip) → Ramping i d g s u p c → Ramped 0 i d g s u p c
no_ticks i d g s u p c r = rw (add-zero p, mod-eq_of_lt r.0.7, div-eq_of_lt r.0.7, mul-zero s, stays d g) r

-- a reading stands in registers past those that the ramp goes by
reading_past : (f : Fan) (count k : ℕ) → k < 0xE → byte_at k (with_reading count f) ≡ byte_at k f
unfolding with_reading
reading_past f count k h =
    get_or-set_other (set f.registers 0xE (count_high count)) 0xF k (count_low count) 0 (omega arith)
    ∙ get_or-set_other f.registers 0xE k (count_high count) 0 (omega arith)

module _ (d g s u p : ℕ) where
  of_ticks_lem : (n : ℕ) (f : Fan) → RampingFan d g s u p f → RampingFan (moved d g (s * ((p + n) / u))) g s u ((p + n) % u) (repeated n ticked f)
  unfolding goal under_ramp
  of_ticks_lem n f (ramp, still, drive, goes, steps, every, clock, below) =
      rw (ramp_ticks n f ramp still (rw (clock, every) below))
      (ramp, still, rw (drive, goes, steps, clock, every), goes, steps, every, rw (clock, every), mod-lt (p + n) (omega arith))

  -- of the registers it goes by these six alone
  of_reading : (count : ℕ) (f : Fan) → RampingFan d g s u p f → RampingFan d g s u p (with_reading count f)
  unfolding goal under_ramp with_reading
  of_reading count f r =
      rw (
        reading_past f count 0x0 (omega arith),
        reading_past f count 0x2 (omega arith),
        reading_past f count 0x3 (omega arith),
        reading_past f count 0x7 (omega arith),
        reading_past f count 0x8 (omega arith),
        reading_past f count 0xD (omega arith),
      ) r

  -- a sample keeps it, unless it starts a spin-up
  of_sample_lem : (count : ℕ) (w : Bool) (f : Fan) → (sampled count w f).spin.running ≡ false → RampingFan d g s u p f
      → RampingFan d g s u p (sampled count w f)
  unfolding sampled stall started goal under_ramp
  of_sample_lem count w f still r =
      let h = with_reading count f in
      by_test (judged w h && too_slow h)
      (λ t. by_test (closed_loop h) (λ l. absurd (true≢false (rw (t, l) at still))) (λ l. rw (t, l) (of_reading count f r)))
      (λ t. rw t (of_reading count f r))

  -- nor does it go by the status bits
  of_status : (f h : Fan) → but_status h ≡ but_status f → RampingFan d g s u p f → RampingFan d g s u p h
  unfolding goal under_ramp
  of_status f h e r = subst (RampingFan d g s u p) (sym e) r

-- a wish that is not new leaves the fan
of_wish_lem : (drive : ℕ) (f : Fan) → not (not (eqb (wished drive f).wish f.wish)) ≡ true → wished drive f ≡ f
unfolding wished
of_wish_lem drive f e =
    let same = eqb drive f.wish in
    by_test (closed_loop f)
    (λ l. rw l (ap (λ (w : ℕ). with_wish w f) (by_test same (eqb-true drive f.wish) (λ n. absurd (false≢true (rw (l, n) at e))))))
    (λ l. rw l)

-- past the fifth fan there is none under ramp control
there : (i : ℕ) (c : Chip) → under_ramp (fan_of i c) ≡ true → i < length c.fans
unfolding under_ramp
there i c ramp =
    by_test (leb (length c.fans) i)
    (λ t. absurd (false≢true (rw (get_or-eq_default c.fans no_fan (leb-true (length c.fans) i t)) at ramp)))
    (λ t. leb-false (length c.fans) i t)

five : (a b c d e : Bool) → a && (b && (c && (d && e))) ≡ true → (a ≡ true) × (b ≡ true) × (c ≡ true) × (d ≡ true) × (e ≡ true)
five false b c d e h = absurd (false≢true h)
five true false c d e h = absurd (false≢true h)
five true true false d e h = absurd (false≢true h)
five true true true false e h = absurd (false≢true h)
five true true true true e h = (refl, refl, refl, refl, h)

-- the parts of undisturbed, and of these the watch
module _ (i : ℕ) (h : Handed) (c : Chip) (q : undisturbed i h c ≡ true) where
  parts : (no_power_on h c ≡ true) × (no_stored_write i h c ≡ true) × (no_new_wish i h c ≡ true) × (no_sample_starts i h c ≡ true)
      × (watch_off h c ≡ true)
  parts = five (no_power_on h c) (no_stored_write i h c) (no_new_wish i h c) (no_sample_starts i h c) (watch_off h c) q

  pub off_before : c.watch ≡ Off
  off_before = is_off_lem c.watch (and_left (is_off c.watch) _ parts.4)

-- ticks of the chip with the watch off
pub chip_ticks : (n i d g s u p : ℕ) (c : Chip) → Ramping i d g s u p c → c.watch ≡ Off → Ramped n i d g s u p (repeated n chip_ticked c)
chip_ticks n i d g s u p c r w =
    (rw (fan_ticks c i n w r.1 (there i c r.0.0)).0 (of_ticks_lem d g s u p n (fan_of i c) r.0), rw (ticks_part n c) r.1)

module _ (i d g s u p : ℕ) (log : List ℕ) (room : ℕ) (c : Chip) (r : Ramping i d g s u p c) where
  abbrev handed : Event → Handed
  handed event = record { log = log; event = event; room = room }

  abbrev fan : Chip → Fan
  fan = fan_of i

  -- an event after which the fan is ramping as before
  on : (event : Event) → is_power_on event ≡ false → RampingFan d g s u p (fan (next (handed event) c)) → Ramped 0 i d g s u p (next (handed event) c)
  on event none f = no_ticks i d g s u p (next (handed event) c) (f, rw (after_part log event room c none) r.1)

  -- and one that leaves the fan
  kept : (event : Event) → is_power_on event ≡ false → fan (next (handed event) c) ≡ fan c → Ramped 0 i d g s u p (next (handed event) c)
  kept event none e = on event none (subst (RampingFan d g s u p) (sym e) r.0)

  -- of the fan that a sample or a wish is for
  own : (k : ℕ) (move : Fan → Fan) → i ≡ k → fan (on_fan k move c) ≡ move (fan c)
  own k move e = subst (λ (k : ℕ). fan (on_fan k move c) ≡ move (fan c)) e ((one_fan c i move).0 (there i c r.0.0))

  -- it ramps on over an event that is taken, by the ticks that the event holds
  abbrev RampsOn : Event → Type 0
  RampsOn event =
      is_taken (handed event) c ≡ true → next (handed event) c ≡ taken log event c → range_number log event ≡ 0
      → undisturbed i (handed event) c ≡ true → Ramped (ticks_of event) i d g s u p (next (handed event) c)

  power_on_kept : (event : Event) → Powering event → RampsOn event
  power_on_kept event powering t e ranged q =
      let none : not (is_taken (handed event) c && is_power_on event) ≡ true = (parts i (handed event) c q).0 in
      absurd (false≢true (rw (t, powering.powers) at none))

  ticks_kept : (count : ℕ) → RampsOn (Ticks count)
  unfolding taken
  ticks_kept count t e ranged q = rw e (chip_ticks count i d g s u p c r (off_before i (handed (Ticks count)) c q))

  sample_kept : (k count : ℕ) → RampsOn (Sample k count)
  unfolding taken
  sample_kept k count t e ranged q =
      let event = Sample k count in
      let w = in_power_up c.watch in
      let f = sampled count w (fan c) in
      by_test (eqb i (k - 1))
      (λ y.
      let is : fan (next (handed event) c) ≡ f = ap fan e ∙ own (k - 1) (sampled count w) (eqb-true i (k - 1) y) in
      let none : not (not (fan c).spin.running && (fan (next (handed event) c)).spin.running) ≡ true = (parts i (handed event) c q).3 in
      let still : f.spin.running ≡ false = not-true f.spin.running (rw (r.0.1, is) at none) in
      on event refl (subst (RampingFan d g s u p) (sym is) (of_sample_lem d g s u p count w (fan c) still r.0)))
      (λ n. kept event refl ((other_fans c log room i).0 k count (eqb-false i (k - 1) n)))

  wish_kept : (k drive : ℕ) → RampsOn (Wish k drive)
  unfolding taken
  wish_kept k drive t e ranged q =
      let event = Wish k drive in
      let some = leb-true 1 k (and_left (leb 1 k) (leb k 5) (fan_right_lem log (Wish k drive) ranged)) in
      by_test (eqb k (i + 1))
      (λ y.
      let at : i ≡ k - 1 = omega (arith, eqb-true k (i + 1) y) in
      let is : fan (next (handed event) c) ≡ wished drive (fan c) = ap fan e ∙ own (k - 1) (wished drive) at in
      let none : not (eqb k (i + 1) && not (eqb (fan (next (handed event) c)).wish (fan c).wish)) ≡ true = (parts i (handed event) c q).2 in
      kept event refl (is ∙ of_wish_lem drive (fan c) (rw (y, is) at none)))
      (λ n. kept event refl ((other_fans c log room i).1 k drive (λ at. eqb-false k (i + 1) n (omega arith))))

  read_kept : (to place n : ℕ) → RampsOn (Transfer true to place n)
  read_kept to place n t e ranged q =
      let event = Transfer true to place n in
      on event refl (of_status d g s u p (fan c) (fan (next (handed event) c)) ((other_fans c log room i).3 to place n) r.0)

  write_kept : (to place n : ℕ) → RampsOn (Transfer false to place n)
  write_kept to place n t e ranged q =
      let event = Transfer false to place n in
      let none : not (is_taken (handed event) c && stores_to i log event c) ≡ true = (parts i (handed event) c q).1 in
      kept event refl ((other_fans c log room i).2 to place n (not-true (stores_to i log event c) (rw t at none)))

  of_taken : (event : Event) → RampsOn event
  of_taken =
      by_effect RampsOn power_on_kept ticks_kept sample_kept wish_kept read_kept write_kept
      (λ event idle t e ranged q. let none : ticks_of event ≡ 0 = idle.no_ticks 0 _ in rw none (kept event idle.powers_none (ap fan (e ∙ idle.leaves log c))))

pub of_event_lem : (i d g s u p : ℕ) (h : Handed) (c : Chip) → Ramping i d g s u p c → undisturbed i h c ≡ true
    → Ramped (cond (is_taken h c) (ticks_of h.event) 0) i d g s u p (next h c)
of_event_lem i d g s u p h c r q =
    by_taken h c (λ t e ranged. rw t (of_taken i d g s u p h.log h.room c r h.event t e ranged q))
    (λ t e. rw t (no_ticks i d g s u p (next h c) (subst (Ramping i d g s u p) (sym e) r)))
