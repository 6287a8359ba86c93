-- What is promised of zones and duty; the proofs are in proofs/.
use Rattle.std.specs.Prelude.{◌≡◌, Bool, false, List, ℕ, ◌+◌, ◌-◌, ◌*◌, ◌/◌, ◌≤◌, ◌<◌}
use Rattle.emc2300_duty.specs.declared.Zone.{Zone}
use Rattle.emc2300_duty.specs.declared.Registers.{Registers}
use Rattle.emc2300_duty.specs.Zones.{above_least, range_of, rise, zone_asks}
use Rattle.emc2300_duty.specs.Duty.{zone_at, mode_of, linked_fault, asked, goal_of}

-- bytes 00h to 7Fh are 0 to 127 degrees, 80h to FFh are -128 to -1: so many degrees above -128
abbrev pub SignedBytes : Type 0
SignedBytes =
    (byte : ℕ) → byte < 256
    → (byte < 128 → above_least byte ≡ 128 + byte)
    × (128 ≤ byte → above_least byte ≡ byte - 128)

-- at and below the low limit a zone asks the minimum
abbrev pub AtLow : Type 0
AtLow = (minimum : ℕ) (z : Zone) → above_least z.temperature ≤ above_least z.low → zone_asks minimum z ≡ minimum

-- at or past the range above the low limit it asks 255; a configuration that is a byte has a range
abbrev pub PastRange : Type 0
PastRange = (minimum : ℕ) (z : Zone) → z.configuration < 256 → minimum ≤ 255 → range_of z ≤ rise z → zone_asks minimum z ≡ 255

-- from the low limit to the range it asks what the line gives, whole part
abbrev pub OnLine : Type 0
OnLine =
    (minimum : ℕ) (z : Zone) → rise z ≤ range_of z → zone_asks minimum z ≡ minimum + (255 - minimum) * rise z / range_of z

-- it never asks less than the minimum, nor more than 255
abbrev pub Within : Type 0
Within = (minimum : ℕ) (z : Zone) → minimum ≤ 255 → (minimum ≤ zone_asks minimum z) × (zone_asks minimum z ≤ 255)

-- a zone at another temperature
abbrev pub at : ℕ → Zone → Zone
at temperature z = record { temperature = temperature; configuration = z.configuration; low = z.low; absolute = z.absolute }

-- what a zone asks does not fall as its temperature rises
abbrev pub ZoneRises : Type 0
ZoneRises =
    (minimum cold warm : ℕ) (z : Zone) → above_least cold ≤ above_least warm → zone_asks minimum (at cold z) ≤ zone_asks minimum (at warm z)

-- the same zone at the same temperature or a higher one
abbrev pub Warmer : Zone → Zone → Type 0
Warmer z w = (w ≡ at w.temperature z) × (above_least z.temperature ≤ above_least w.temperature)

-- no output's goal falls as temperatures rise, where no linked zone is at 80h, which is full by itself
abbrev pub GoalRises : Type 0
GoalRises =
    (start overridden : Bool) (r : Registers) (zones warmer : List Zone)
    → r.minimum ≤ 255
    → ((place : ℕ) → place < 3 → Warmer (zone_at zones place) (zone_at warmer place))
    → linked_fault (mode_of r) zones ≡ false
    → goal_of (asked start overridden r zones) ≤ goal_of (asked start overridden r warmer)

-- no goal is above 255
abbrev pub GoalWithin : Type 0
GoalWithin =
    (start overridden : Bool) (r : Registers) (zones : List Zone)
    → r.setting ≤ 255
    → r.minimum ≤ 255
    → goal_of (asked start overridden r zones) ≤ 255
