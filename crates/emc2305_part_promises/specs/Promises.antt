-- What is promised of a part with fewer fans: for its fans and for any traffic it behaves as a five-fan part whose other fans nobody drives, but for the
-- registers and the numbers of the absent ones.
use Rattle.std.specs.Prelude.{◌≡◌, Bool, true, false, cond, List, ℕ, ◌≤◌, ◌<◌}
use Rattle.eventlog.specs.declared.Event.{Event}
use Rattle.eventlog.specs.declared.Event.TheVariants.{PowerOn, PowerOnPart}
use Rattle.eventlog.specs.Kinds.{is_power_on}
use Rattle.emc2305_parts.specs.declared.Part.{Part}
use Rattle.emc2305_parts.specs.declared.Part.TheVariants.{Emc2305}
use Rattle.emc2305_parts.specs.Parts.{reset_of}
use Rattle.emc2305_fan.specs.Registers.{power_on}
use Rattle.emc2305_chip.specs.declared.Chip.{Chip}
use Rattle.emc2305_chip.specs.State.{fan_count}
use Rattle.emc2305_chip.specs.Fans.{fan_at}
use Rattle.emc2305_chip.specs.Registers.{at_defaults, unpowered, stall_byte, spin_byte, status_byte, alert_line, shown_at}
use Rattle.emc2305.specs.Step.{for_past, taken}
use Rattle.emc2305.specs.Traffic.{stores_to}
use Rattle.walks.specs.Sequence.{Handed}
use Rattle.emc2305_promises.specs.Ramp.{next, after_all, throughout, no_power_on}
use Rattle.emc2305_promises.specs.Busy.{numbers_of}
use Rattle.emc2305_part_promises.specs.Alike.{with_part, AsFive, of_others, kept_from, next_kept, after_kept, AnswerAlike, AnswersAlike, undriven_by}

-- any part at its defaults, and the five-fan part at its own, which are those of any other part
abbrev pub StartsAlike : Type 0
StartsAlike =
    (part : Part) (powered : Bool) (address : ℕ)
    → AsFive (at_defaults part powered address) (at_defaults Emc2305 powered address)
    × (with_part Emc2305 (at_defaults part powered address) ≡ at_defaults Emc2305 powered address)

-- so kind 6 and kind 1, each taken by a chip in any state, leave them alike
abbrev pub PoweredAlike : Type 0
PoweredAlike =
    (log : List ℕ) (address fans : ℕ) (c d : Chip) → AsFive (taken log (PowerOnPart address fans) c) (taken log (PowerOn address) d)

-- every address shows the same, but for 00h in the registers of fans that the chip does not have; the status bytes and the alert line are the same
abbrev pub SameShown : Type 0
SameShown =
    (c d : Chip) → AsFive c d
    → ((address : ℕ) → shown_at c address ≡ cond (of_others (fan_count c) address) 0x00 (shown_at d address))
    × (stall_byte c ≡ stall_byte d) × (spin_byte c ≡ spin_byte d) × (status_byte c ≡ status_byte d) × (alert_line c ≡ alert_line d)

-- any event: they answer it alike, and are alike after it
abbrev pub AlikeStep : Type 0
AlikeStep = (c d : Chip) (h : Handed) → AsFive c d → AnswerAlike h c d × AsFive (next h c) (next_kept (fan_count c) h d)

-- any events: they answer each alike, and are alike after them
abbrev pub Alike : Type 0
Alike = (c d : Chip) (events : List Handed) → AsFive c d → AnswersAlike next_kept events c d × AsFive (after_all events c) (after_kept events c d)

-- so it is from the chip before any power-on, whatever parts are powered on
abbrev pub AlikeFromStart : Type 0
AlikeFromStart =
    (events : List Handed) → AnswersAlike next_kept events unpowered unpowered × AsFive (after_all events unpowered) (after_kept events unpowered unpowered)

-- nothing is kept from the five-fan part of an event that is no power-on and reaches none of those fans
abbrev pub Untouched : Type 0
Untouched =
    (count : ℕ) (log : List ℕ) (event : Event) (d : Chip) → d.part ≡ Emc2305 → is_power_on event ≡ false → for_past count event ≡ false
    → ((i : ℕ) → count ≤ i → i < 5 → stores_to i log event d ≡ false)
    → kept_from count log event d ≡ taken log event d

-- the same events on both, none of them a power-on: where nobody drives the other fans of the five-fan part, the numbers are the same, they answer each
-- alike, and are alike after them
abbrev pub SameTraffic : Type 0
SameTraffic =
    (c d : Chip) (events : List Handed) → AsFive c d
    → throughout no_power_on events d ≡ true
    → ((i : ℕ) → fan_count c ≤ i → i < 5 → throughout (undriven_by i) events d ≡ true)
    → (numbers_of events c ≡ numbers_of events d) × AnswersAlike (λ count. next) events c d × AsFive (after_all events c) (after_all events d)

-- after any events from the chip before any power-on, each fan that the chip does not have is as a power-on of its part leaves it
abbrev pub AbsentKept : Type 0
AbsentKept =
    (events : List Handed) (i : ℕ)
    → let c : Chip = after_all events unpowered in
    fan_count c ≤ i → i < 5 → fan_at c.fans i ≡ power_on (reset_of c.part).fan
