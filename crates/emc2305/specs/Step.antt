-- A step: the number, the reply, the chip.
use Rattle.std.specs.Prelude.{Bool, true, false, cond, not, ◌&&◌, List, ℕ, ◌-◌, ltb, eqb, length, get_or, Result}
use Rattle.laws.specs.Buffer.{bytes_at, laid_over}
use Rattle.laws.specs.Repeat.{repeated}
use Rattle.eventlog.specs.declared.Event.{Event}
use Rattle.eventlog.specs.declared.Event.TheVariants.{PowerOn, Ticks, Sample, Wish, Transfer, PowerOnPart}
use Rattle.eventlog.specs.Kinds.{on_sample, on_wish, on_transfer, is_power_on, reply_length}
use Rattle.eventlog.specs.declared.refusal.Refusal.{Refusal}
use Rattle.eventlog.specs.Numbers.{number_given}
use Rattle.eventlog.specs.Range.{range_number}
use Rattle.emc2305_parts.specs.declared.Part.{Part}
use Rattle.emc2305_parts.specs.declared.Part.TheVariants.{Emc2305}
use Rattle.emc2305_parts.specs.Parts.{fans_of, part_with}
use Rattle.emc2305_fan.specs.Drive.{wished}
use Rattle.emc2305_fan.specs.Tach.{sampled}
use Rattle.emc2305_watchdog.specs.Watch.{in_power_up}
use Rattle.emc2305_chip.specs.declared.Chip.{Chip}
use Rattle.emc2305_chip.specs.Watching.{fed_chip}
use Rattle.emc2305_chip.specs.Registers.{at_defaults, on_fan}
use Rattle.emc2305_chip.specs.Ticks.{chip_ticked}
use Rattle.walks.specs.declared.devices.Taken.{Taken}
use Rattle.walks.specs.Device.{laid_given, state_given}
use Rattle.emc2305.specs.Transfers.{sent, reply_of, read_out}

-- event other than power-on before any power-on
abbrev pub before_power : Bool → Event → Bool
before_power powered event = not (is_power_on event) && not powered

-- a sample or a wish for a fan past the first so many
abbrev pub for_past : ℕ → Event → Bool
for_past fans event = on_sample (on_wish false (λ fan drive. ltb fans fan) event) (λ fan count. ltb fans fan) event

-- one for a fan that the part does not have
abbrev pub absent : Part → Event → Bool
absent part event = for_past (fans_of part) event

-- transfer to another address
abbrev pub elsewhere : ℕ → Event → Bool
elsewhere address = on_transfer false (λ reads to place n. not (eqb to address))

-- a step's number: that of a field out of range, then 6, 21, 7, 8
unfoldable pub step_number : Part → Bool → ℕ → List ℕ → Event → ℕ → ℕ
step_number part powered address log event room =
    cond (not (eqb (range_number log event) 0)) (range_number log event)
    (cond (before_power powered event) 6
    (cond (absent part event) 21
    (cond (elsewhere address event) 7
    (cond (ltb room (reply_length log event)) 8
    0))))

-- the chip after an event that is taken; a power-on of kind 1 means five fans, one of kind 6 has their number
unfoldable pub taken : List ℕ → Event → Chip → Chip
taken log (PowerOn address) c = at_defaults Emc2305 true address
taken log (Ticks count) c = repeated count chip_ticked c
taken log (Sample fan count) c = on_fan (fan - 1) (sampled count (in_power_up c.watch)) c
taken log (Wish fan drive) c = on_fan (fan - 1) (wished drive) c
taken log (Transfer reads to place n) c =
    cond reads (read_out (get_or log place 0) (fed_chip c)) (sent (bytes_at log place n) (fed_chip c))
taken log (PowerOnPart address fans) c = at_defaults (part_with fans) true address

-- the reply bytes of an event that is taken
unfoldable pub reply_to : List ℕ → Event → Chip → List ℕ
reply_to log event c = reply_of (reply_length log event) (fed_chip c) (reply_length log event)

-- what a step gives: the number, how many reply bytes were laid, and the chip
pub record Answer : Type 0 where
  pub number : ℕ
  pub laid : ℕ
  pub chip : Chip

-- what the answer over a chip says: a refusal leaves the chip as it was and lays nothing
abbrev pub answer_of : Chip → Result (Taken Chip) Refusal → Answer
answer_of c answer = record { number = number_given answer; laid = laid_given answer; chip = state_given c answer }

-- a step: a refusal leaves the chip as it was and lays nothing
unfoldable pub stepped : Chip → List ℕ → Event → ℕ → Answer
stepped c log event room =
    let number : ℕ = step_number c.part c.powered c.address log event room in
    cond (eqb number 0)
    (record { number = 0; laid = reply_length log event; chip = taken log event c })
    (record { number = number; laid = 0; chip = c })

-- the lent buffer after a step; bytes past the reply stay
unfoldable pub reply_after : Chip → List ℕ → Event → List ℕ → List ℕ
reply_after c log event reply =
    cond (eqb (step_number c.part c.powered c.address log event (length reply)) 0) (laid_over (reply_to log event c) reply) reply
