-- The examples a, b and g of the page that condenses the part, as one table that computes.
use Rattle.std.specs.Prelude.{◌≡◌, Bool, true, false, List, [], ◌∷◌, map, ℕ, ◌-◌}
use Rattle.emc2300_duty.specs.declared.Zone.{Zone}
use Rattle.emc2300_duty.specs.declared.Registers.{Registers}
use Rattle.emc2300_duty.specs.Zones.{zone_asks}
use Rattle.emc2300_duty.specs.Duty.{asked, goal_of}

-- a zone at a temperature, with a 5Fh byte, a low limit and the default absolute limit, 100 degrees
abbrev pub zone : ℕ → ℕ → ℕ → Zone
zone configuration low temperature = record { temperature = temperature; configuration = configuration; low = low; absolute = 0x64 }

-- a temperature below 0, as its byte
abbrev pub below : ℕ → ℕ
below degrees = 256 - degrees

-- what that zone asks of a minimum, at temperatures in turn
abbrev pub asks_at : ℕ → ℕ → ℕ → List ℕ → List ℕ
asks_at minimum configuration low temperatures = map (λ (t : ℕ). zone_asks minimum (zone configuration low t)) temperatures

-- an output of a mode, with a setting and the default minimum, 80h
abbrev pub output : ℕ → ℕ → Registers
output configuration setting = record { setting = setting; configuration = configuration; ramp = 0; minimum = 0x80; options = 0x0C }

-- its goal, START 1 and OVRID 0, or as given
abbrev pub goal_for : Bool → Bool → List Zone → Registers → ℕ
goal_for start overridden zones r = goal_of (asked start overridden r zones)

-- b: the three zones, the first at a temperature
abbrev pub hottest : ℕ → List Zone
hottest first = zone 0x63 50 first ∷ zone 0xC3 30 50 ∷ zone 0xF3 40 60 ∷ []

-- g: zones 1 and 2 at 20, low limits 60, and zone 3, with an absolute limit
abbrev pub limited : ℕ → ℕ → List Zone
limited third absolute =
    zone 0xC3 60 20 ∷ zone 0xC3 60 20 ∷ record { temperature = third; configuration = 0xC3; low = 60; absolute = absolute } ∷ []

-- g: outputs 1 and 2 automatic on zones 1 and 2, output 3 manual at 40h
abbrev pub three : List Registers
three = output 0x02 0xFF ∷ output 0x22 0xFF ∷ output 0xE2 0x40 ∷ []

-- what the rules give, and the page's figures, in its order
abbrev pub examples : List (List ℕ × List ℕ)
examples =
    (asks_at 128 0x63 50 (49 ∷ 50 ∷ 51 ∷ 54 ∷ 57 ∷ 58 ∷ []), 128 ∷ 128 ∷ 143 ∷ 191 ∷ 239 ∷ 255 ∷ [])
    ∷ (asks_at 0 0x23 40 (41 ∷ 42 ∷ 43 ∷ 44 ∷ []), 76 ∷ 153 ∷ 229 ∷ 255 ∷ [])
    ∷ (asks_at 55 0x53 20 (21 ∷ []), 84 ∷ [])
    ∷ (asks_at 100 0x03 (below 5) (below 6 ∷ below 5 ∷ below 4 ∷ below 3 ∷ []), 100 ∷ 100 ∷ 177 ∷ 255 ∷ [])
    ∷ (map (zone_asks 128) (hottest 52), 159 ∷ 207 ∷ 159 ∷ [])
    ∷ (map (goal_for true false (hottest 52)) (output 0xC2 0 ∷ output 0x42 0 ∷ []), 207 ∷ 159 ∷ [])
    ∷ (map (goal_for true false (hottest 56)) (output 0xC2 0 ∷ output 0x02 0 ∷ []), 223 ∷ 223 ∷ [])
    ∷ (map (goal_for true false (limited 99 0x64)) three, 0x80 ∷ 0x80 ∷ 0x40 ∷ [])
    ∷ (map (goal_for true false (limited 100 0x64)) three, 0xFF ∷ 0xFF ∷ 0x40 ∷ [])
    ∷ (map (goal_for true false (limited 100 0x80)) three, 0x80 ∷ 0x80 ∷ 0x40 ∷ [])
    ∷ (map (goal_for true true (limited 99 0x64)) three, 0xFF ∷ 0xFF ∷ 0xFF ∷ [])
    ∷ (map (goal_for false false (limited 99 0x64)) three, 0xFF ∷ 0xFF ∷ 0xFF ∷ [])
    ∷ []

-- each row's sides are the same
abbrev pub Examples : Type 0
Examples = map (λ (row : List ℕ × List ℕ). row.0) examples ≡ map (λ (row : List ℕ × List ℕ). row.1) examples
