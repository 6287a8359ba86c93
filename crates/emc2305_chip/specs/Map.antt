-- The register map: which rule an address falls under, over ranges.
use Rattle.std.specs.Prelude.{Bool, false, cond, ◌&&◌, ℕ, ◌-◌, ◌/◌, ◌%◌, leb, ltb, eqb}
use Rattle.emc2305_chip.specs.declared.Own.TheVariants.{Configuration, Status, StallStatus, SpinStatus, DriveFailStatus, Enable, Output, Lock, Identity}
use Rattle.emc2305_chip.specs.declared.Register.{Register}
use Rattle.emc2305_chip.specs.declared.Register.TheVariants.{OfFan, OfChip, Undefined}

-- an address from one to another
abbrev pub within : ℕ → ℕ → ℕ → Bool
within first last address = leb first address && leb address last

-- a register of fan i + 1, where there are so many fans; that of an absent fan is undefined
abbrev pub of_fan : ℕ → ℕ → ℕ → Register
of_fan fans i offset = cond (ltb i fans) (OfFan i offset) Undefined

-- 20h configuration, 24h to 27h status, 29h interrupt enable, 2Ah to 2Dh the outputs, the fans from 30h on, EFh lock, FCh to FFh identity
unfoldable pub register_of : ℕ → ℕ → Register
register_of fans address =
    cond (eqb address 0x20) (OfChip Configuration)
    (cond (eqb address 0x24) (OfChip Status)
    (cond (eqb address 0x25) (OfChip StallStatus)
    (cond (eqb address 0x26) (OfChip SpinStatus)
    (cond (eqb address 0x27) (OfChip DriveFailStatus)
    (cond (eqb address 0x29) (OfChip Enable)
    (cond (within 0x2A 0x2D address) (OfChip (Output (address - 0x2A)))
    (cond (within 0x30 0x7F address) (of_fan fans ((address - 0x30) / 0x10) (address % 0x10))
    (cond (eqb address 0xEF) (OfChip Lock)
    (cond (within 0xFC 0xFF address) (OfChip (Identity (address - 0xFC)))
    Undefined)))))))))

-- a register of fan i + 1
abbrev pub is_of_fan : ℕ → Register → Bool
is_of_fan i (OfFan k offset) = eqb k i
is_of_fan i (OfChip own) = false
is_of_fan i Undefined = false
