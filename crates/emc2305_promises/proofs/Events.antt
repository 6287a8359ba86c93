-- An event is taken or leaves the chip as it was; the watch off; the part, and the fans that it has.
use mathlib.Core.Path.{◌≡◌, refl, sym, ap, ◌∙◌}
use mathlib.Core.Bool.{true, false, false≢true}
use mathlib.Core.List.{List}
use Prim.Native.Nat.{ℕ, ◌+◌, ◌-◌, ◌≤◌, ◌<◌}
use native.Mathlib.Omega.{arith}
use lib.Dec.{eqb}
use lib.ListN.{length}
use borrow.Author.Tests.{eqb-true, eqb-false, eq-eqb, ne_eqb, not-true}
use Rattle.laws.specs.Repeat.{repeated}
use Rattle.laws.proofs.Repeat.{repeated_keeps}
use Rattle.laws.proofs.Tests.{by_test, and_right}
use Rattle.eventlog.specs.declared.Event.{Event}
use Rattle.eventlog.specs.Kinds.{is_power_on, reply_length}
use Rattle.eventlog.specs.Range.{range_number}
use Rattle.emc2305_parts.specs.declared.Part.{Part}
use Rattle.emc2305_parts.proofs.Counts.{few_fans}
use Rattle.emc2305_watchdog.specs.declared.Watch.{Watch}
use Rattle.emc2305_watchdog.specs.declared.Watch.TheVariants.{Off, PowerUp, Continuous}
use Rattle.emc2305_watchdog.specs.Watch.{is_off}
use Rattle.emc2305_chip.specs.declared.Chip.{Chip}
use Rattle.emc2305_chip.specs.State.{fan_count}
use Rattle.emc2305_chip.specs.Registers.{at_defaults, cleared_at}
use Rattle.emc2305_chip.proofs.Moves.{cleared_part}
use Rattle.emc2305.specs.Step.{Answer}
use Rattle.emc2305.specs.Transfers.{byte_written, byte_read}
use Rattle.emc2305.specs.Step.{step_number, taken, stepped}
use Rattle.emc2305.proofs.Effects.{by_effect}
use Rattle.emc2305.proofs.FansKept.{write_counts, reads_count}
use Rattle.emc2305.proofs.Numbers.{step_numbers}
use Rattle.emc2305.proofs.Parts.{byte_part, after_part}
use Rattle.emc2305.proofs.ReadKeeps.{passed_keeps}
use Rattle.walks.specs.Sequence.{Handed}
use Rattle.emc2305_promises.specs.Ramp.{next, is_taken, no_power_on, watch_off}

pub is_off_lem : (w : Watch) → is_off w ≡ true → w ≡ Off
is_off_lem Off e = refl
is_off_lem (PowerUp count) e = absurd (false≢true e)
is_off_lem (Continuous count) e = absurd (false≢true e)

-- fan number i + 1 has index i
pub same_fan : (fan i : ℕ) → 1 ≤ fan → eqb (fan - 1) i ≡ eqb fan (i + 1)
same_fan fan i h =
    by_test (eqb fan (i + 1)) (λ t. eq-eqb (fan - 1) i (omega (arith, eqb-true fan (i + 1) t)) ∙ sym t)
    (λ t. ne_eqb (fan - 1) i (λ e. eqb-false fan (i + 1) t (omega arith)) ∙ sym t)

module _ (h : Handed) (c : Chip) where
  -- an event is taken, and is in range, or it leaves the chip as it was
  pub by_taken : {X : Type 0} → (is_taken h c ≡ true → next h c ≡ taken h.log h.event c → range_number h.log h.event ≡ 0 → X)
      → (is_taken h c ≡ false → next h c ≡ c → X) → X
  unfolding stepped
  by_taken is isnt =
      let n = step_number c.part c.powered c.address h.log h.event h.room in
      let numbers = step_numbers c.part c.powered c.address h.log h.event h.room in
      by_test (eqb n 0)
      (λ t.
      let e : stepped c h.log h.event h.room
      ≡ record { number = 0; laid = reply_length h.log h.event; chip = taken h.log h.event c } = rw t in
      is (ap (λ (a : Answer). eqb a.number 0) e) (ap (λ (a : Answer). a.chip) e)
      (numbers.5.0 (eqb-true n 0 t)).0)
      (λ f.
      let e : stepped c h.log h.event h.room ≡ record { number = n; laid = 0; chip = c } = rw f in
      isnt (ap (λ (a : Answer). eqb a.number 0) e ∙ f) (ap (λ (a : Answer). a.chip) e))

-- bytes that are read leave the part
pub reads_part : (n k : ℕ) (c : Chip) → (repeated k (byte_read n) c).part ≡ c.part
unfolding byte_read
reads_part n k c =
    let part : Chip → Part = λ d. d.part in
    repeated_keeps part k (byte_read n) c (λ d. passed_keeps part n (cleared_at d.pointer d) (λ p. refl) ∙ cleared_part d.pointer d)

-- a power-on starts the power-up watch
power_on_watch : (log : List ℕ) (event : Event) (c : Chip) → is_power_on event ≡ true → is_off (taken log event c).watch ≡ false
unfolding at_defaults
power_on_watch log event c =
    by_effect (λ (e : Event). is_power_on e ≡ true → is_off (taken log e c).watch ≡ false)
    (λ e on p. ap (λ (d : Chip). is_off d.watch) (on.resets log c)) (λ n p. absurd (false≢true p)) (λ fan n p. absurd (false≢true p))
    (λ fan drive p. absurd (false≢true p)) (λ to place n p. absurd (false≢true p)) (λ to place n p. absurd (false≢true p))
    (λ e idle p. absurd (false≢true (sym idle.powers_none ∙ p))) event

module _ (h : Handed) (c : Chip) where
  -- an event leaves the part, unless it is a power-on that is taken
  part_kept : (is_taken h c ≡ true → next h c ≡ taken h.log h.event c → is_power_on h.event ≡ false) → (next h c).part ≡ c.part
  part_kept none =
      by_taken h c (λ t e r. after_part h.log h.event h.room c (none t e)) (λ t e. ap (λ (d : Chip). d.part) e)

  pub calm_part : no_power_on h c ≡ true → (next h c).part ≡ c.part
  calm_part q = part_kept (λ t e. not-true (is_power_on h.event) (rw t at q))

  pub off_part : watch_off h c ≡ true → (next h c).part ≡ c.part
  off_part q =
      part_kept
      (λ t e.
      by_test (is_power_on h.event)
      (λ p.
      absurd
      (false≢true
      (sym (ap (λ (d : Chip). is_off d.watch) e ∙ power_on_watch h.log h.event c p) ∙ and_right (is_off c.watch) (is_off (next h c).watch) q)))
      (λ f. f))

-- the chip has fan i + 1, and a place for it
abbrev pub Has : ℕ → Chip → Type 0
Has i c = (i < fan_count c) × (i < length c.fans)

module _ (i : ℕ) where
  -- five places are enough
  pub has : (c : Chip) → length c.fans ≡ 5 → i < fan_count c → Has i c
  has c five l = (l, omega (arith, few_fans c.part))

  -- over a byte that is written, and over bytes that are read
  pub has_byte : (n byte : ℕ) (c : Chip) → Has i c → Has i (byte_written n byte c)
  has_byte n byte c l = (rw (byte_part n byte c) l.0, rw (write_counts n byte c) l.1)

  pub has_reads : (n k : ℕ) (c : Chip) → Has i c → Has i (repeated k (byte_read n) c)
  has_reads n k c l = (rw (reads_part n k c) l.0, rw (reads_count n k c) l.1)
