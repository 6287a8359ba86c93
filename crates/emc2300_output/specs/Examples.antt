-- The examples c, d and e of the page that condenses the part, as one table that computes.
use Rattle.std.specs.Prelude.{◌≡◌, true, false, List, [], ◌∷◌, map, ℕ}
use Rattle.laws.specs.Repeat.{repeated}
use Rattle.emc2300_duty.specs.declared.Zone.{Zone}
use Rattle.emc2300_duty.specs.declared.Registers.{Registers}
use Rattle.emc2300_duty.specs.declared.Asked.{Asked}
use Rattle.emc2300_duty.specs.declared.Asked.TheVariants.{Duty}
use Rattle.emc2300_duty.specs.Duty.{asked}
use Rattle.emc2300_output.specs.declared.Output.{Output}
use Rattle.emc2300_output.specs.State.{shown, power_on}
use Rattle.emc2300_output.specs.Settling.{settled}
use Rattle.emc2300_output.specs.Tick.{ticked}

-- what 30h + shows after so many ticks
abbrev pub after : Registers → Asked → Output → List ℕ → List ℕ
after r q o counts = map (λ (n : ℕ). shown (repeated n (ticked r q) o)) counts

-- c: manual, 62h 0Bh, setting 250, from power-on's 255
abbrev pub manual : Registers
manual = record { setting = 250; configuration = 0xE2; ramp = 0xB; minimum = 0x80; options = 0x0C }

-- d: a rate of 17 ticks
abbrev pub slow : Registers
slow = record { setting = 103; configuration = 0xE2; ramp = 0x8; minimum = 0x80; options = 0x0C }

-- d: at 100, with the clock at p
abbrev pub at100 : ℕ → Output
at100 clock = record { duty = 100; clock = clock; left = 0 }

-- e: automatic on zone 1 with M 0, 62h 08h, 5Ch 02h
abbrev pub standing : Registers
standing = record { setting = 0xFF; configuration = 0x02; ramp = 0x8; minimum = 0; options = 0x0C }

-- e: what it is asked for with zone 1 at a temperature, L 40, R 3.33, the other zones at 20 degrees
abbrev pub asked_at : ℕ → Asked
asked_at temperature =
    let zone : ℕ → Zone = λ t. record { temperature = t; configuration = 0x23; low = 40; absolute = 0x64 } in
    asked true false standing (zone temperature ∷ zone 20 ∷ zone 20 ∷ [])

-- e: at 40 degrees, then at 41
abbrev pub at40 : Output
at40 = settled standing (asked_at 40) power_on

abbrev pub at41 : Output
at41 = settled standing (asked_at 41) at40

-- e: after the spin-up, at 43
abbrev pub at43 : Output
at43 = settled standing (asked_at 43) (repeated 20 (ticked standing (asked_at 41)) at41)

-- what the rules give, and the page's figures, in its order
abbrev pub examples : List (List ℕ × List ℕ)
examples =
    (after manual (Duty 250) (settled manual (Duty 250) power_on) (3 ∷ 4 ∷ 19 ∷ 20 ∷ 100 ∷ []), 255 ∷ 254 ∷ 251 ∷ 250 ∷ 250 ∷ [])
    ∷ (after slow (Duty 103) (at100 16) (1 ∷ []), 101 ∷ [])
    ∷ (after slow (Duty 103) (at100 0) (50 ∷ 51 ∷ []), 102 ∷ 103 ∷ [])
    ∷ (after standing (asked_at 40) at40 (0 ∷ []), 0 ∷ [])
    ∷ (after standing (asked_at 41) at41 (0 ∷ 19 ∷ 20 ∷ []), 0x00 ∷ 0x00 ∷ 0x4C ∷ [])
    ∷ (after standing (asked_at 43) at43 (16 ∷ 17 ∷ []), 76 ∷ 77 ∷ [])
    ∷ []

-- each row's sides are the same
abbrev pub Examples : Type 0
Examples = map (λ (row : List ℕ × List ℕ). row.0) examples ≡ map (λ (row : List ℕ × List ℕ). row.1) examples
