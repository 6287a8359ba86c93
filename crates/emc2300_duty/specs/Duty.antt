-- Duty: what an output is asked for.
use Rattle.std.specs.Prelude.{ℕ, ◌/◌, max, Bool, cond, not, ◌&&◌, ◌||◌, List, leb, eqb, get_or}
use Rattle.emc2300_duty.specs.declared.Zone.{Zone}
use Rattle.emc2300_duty.specs.declared.Registers.{Registers}
use Rattle.emc2300_duty.specs.declared.Asked.{Asked}
use Rattle.emc2300_duty.specs.declared.Asked.TheVariants.{Full, Off, Duty}
use Rattle.emc2300_duty.specs.Zones.{is_faulty, at_limit, zone_asks}

-- what stands where there is no zone; a chip has three
abbrev pub no_zone : Zone
no_zone = record { temperature = 0; configuration = 0; low = 0; absolute = 0 }

-- the zone at a place, from 0
abbrev pub zone_at : List Zone → ℕ → Zone
zone_at zones place = get_or zones place no_zone

-- it holds of the zone at one of the three places
abbrev pub of_some : (ℕ → Bool) → Bool
of_some holds = holds 0 || (holds 1 || holds 2)

-- the largest of the three places' numbers
abbrev pub largest : (ℕ → ℕ) → ℕ
largest at = max (at 0) (max (at 1) (at 2))

-- mode by configuration bits 7..5
abbrev pub mode_of : Registers → ℕ
mode_of r = r.configuration / 32

-- linked zones, by place: mode 0, 1, 2: zone 1, 2, 3; mode 5: zones 2 and 3; mode 6: all
unfoldable pub is_linked : ℕ → ℕ → Bool
is_linked mode place = cond (eqb mode 5) (leb 1 place) (cond (eqb mode 6) (leb place 2) (eqb mode place))

-- any of the three zones, linked or not, is at or above its absolute limit
unfoldable pub limit_reached : List Zone → Bool
limit_reached zones = of_some (λ (place : ℕ). at_limit (zone_at zones place))

-- a linked zone is at 80h
unfoldable pub linked_fault : ℕ → List Zone → Bool
linked_fault mode zones = of_some (λ (place : ℕ). is_linked mode place && is_faulty (zone_at zones place))

-- the largest of what the linked zones ask
unfoldable pub linked_duty : ℕ → ℕ → List Zone → ℕ
linked_duty mode minimum zones = largest (λ (place : ℕ). cond (is_linked mode place) (zone_asks minimum (zone_at zones place)) 0)

-- automatic: full by an absolute limit, full by a fault, else what the linked zones ask
unfoldable pub automatic : ℕ → ℕ → List Zone → Asked
automatic mode minimum zones =
    cond (limit_reached zones) Full (cond (linked_fault mode zones) Full (Duty (linked_duty mode minimum zones)))

-- what the mode asks: 3 full, 4 off, 7 its setting, any other automatic
unfoldable pub by_mode : ℕ → Registers → List Zone → Asked
by_mode mode r zones =
    cond (eqb mode 3) Full (cond (eqb mode 4) Off (cond (eqb mode 7) (Duty r.setting) (automatic mode r.minimum zones)))

-- what an output is asked for: full with START 0 or OVRID 1, else by its mode
unfoldable pub asked : Bool → Bool → Registers → List Zone → Asked
asked start overridden r zones = cond (not start || overridden) Full (by_mode (mode_of r) r zones)

-- the goal: 255 for full, 0 for off, else the duty asked
abbrev pub goal_of : Asked → ℕ
goal_of Full = 255
goal_of Off = 0
goal_of (Duty duty) = duty
