-- Demand 3, the ramp promise: a fan's drive after any events.
use Rattle.std.specs.Prelude.{◌≡◌, Bool, true, false, not, ◌&&◌, List, ℕ, ◌+◌, ◌*◌, ◌/◌, ◌%◌, ◌<◌, eqb}
use Rattle.eventlog.specs.Kinds.{is_power_on}
use Rattle.emc2305_fan.specs.declared.Fan.{Fan}
use Rattle.emc2305_fan.specs.Ramp.{moved}
use Rattle.emc2305_fan.specs.Drive.{goal, under_ramp, step, period}
use Rattle.emc2305_watchdog.specs.Watch.{is_off}
use Rattle.emc2305_chip.specs.declared.Chip.{Chip}
use Rattle.emc2305_chip.specs.State.{fan_count}
use Rattle.emc2305_chip.specs.Fans.{fan_at}
use Rattle.emc2305.specs.Traffic.{stores_to, is_sample, is_wish_for}
use Rattle.walks.specs.Sequence.{Handed}
use Rattle.walks.specs.Sequence as any
use Rattle.emc2305.specs.Device.{emc2305}

-- a sequence of events on the EMC2305, each with the log and the room for a reply that are lent to its step (Sequence.antt of `walks`, for any device)
-- the chip after an event
abbrev pub next : Handed → Chip → Chip
next = any.next emc2305

-- an event is taken: its number is 0
abbrev pub is_taken : Handed → Chip → Bool
is_taken = any.is_taken emc2305

-- the chip after a sequence of events
abbrev pub after_all : List Handed → Chip → Chip
after_all = any.after_all emc2305

-- a rule holds at each event of a sequence, in the chip that the event meets
abbrev pub throughout : (Handed → Chip → Bool) → List Handed → Chip → Bool
throughout = any.throughout emc2305

-- t: the ticks of the tick events that are taken
abbrev pub taken_ticks : List Handed → Chip → ℕ
taken_ticks = any.taken_ticks emc2305

-- fan i + 1
abbrev pub fan_of : ℕ → Chip → Fan
fan_of i c = fan_at c.fans i

-- no power-on
abbrev pub no_power_on : Handed → Chip → Bool
no_power_on h c = not (is_taken h c && is_power_on h.event)

-- no stored write to this fan's registers: no byte of a write transfer was stored there
abbrev pub no_stored_write : ℕ → Handed → Chip → Bool
no_stored_write i h c = not (is_taken h c && stores_to i h.log h.event c)

-- no new wish for it: none after which the wish that it keeps is another
abbrev pub no_new_wish : ℕ → Handed → Chip → Bool
no_new_wish i h c = not (is_wish_for i h.event && not (eqb (fan_of i (next h c)).wish (fan_of i c).wish))

-- no sample that starts its spin-up
abbrev pub no_sample_starts : ℕ → Handed → Chip → Bool
no_sample_starts i h c = not (is_sample h.event && (not (fan_of i c).spin.running && (fan_of i (next h c)).spin.running))

-- the watchdog is off before the event and after it
abbrev pub watch_off : Handed → Chip → Bool
watch_off h c = is_off c.watch && is_off (next h c).watch

-- all of these; an event that is refused changes nothing, and meets them where the watch is off
abbrev pub undisturbed : ℕ → Handed → Chip → Bool
undisturbed i h c = no_power_on h c && (no_stored_write i h c && (no_new_wish i h c && (no_sample_starts i h c && watch_off h c)))

-- a fan under ramp control, not spinning up, at drive d with goal g, step s and update period u, its update clock at p, below u
abbrev pub RampingFan : ℕ → ℕ → ℕ → ℕ → ℕ → Fan → Type 0
RampingFan d g s u p f =
    (under_ramp f ≡ true) × (f.spin.running ≡ false)
    × (f.drive ≡ d) × (goal f ≡ g) × (step f ≡ s) × (period f ≡ u) × (f.clock ≡ p) × (p < u)

-- such is fan i + 1, which the chip has
abbrev pub Ramping : ℕ → ℕ → ℕ → ℕ → ℕ → ℕ → Chip → Type 0
Ramping i d g s u p c = RampingFan d g s u p (fan_of i c) × (i < fan_count c)

-- after any such events its drive is d moved toward g by the smaller of the distance and s times the whole part of (p + t) / u; goal, step and period
-- are as they were, it is still under ramp control and not spinning up, and its clock is at the remainder of (p + t) / u. It holds of a chip without power too.
abbrev pub RampPromise : Type 0
RampPromise =
    (i d g s u p : ℕ) (c : Chip) (events : List Handed)
    → Ramping i d g s u p c
    → throughout (undisturbed i) events c ≡ true
    → Ramping i (moved d g (s * ((p + taken_ticks events c) / u))) g s u ((p + taken_ticks events c) % u) (after_all events c)
