-- What is promised of the speed of one sample. docs/CLAIMS.md names the file of each proof.
use Rattle.std.specs.Prelude.{◌≡◌, ℕ, ◌+◌, ◌*◌, ◌/◌, ◌≤◌}
use Rattle.emc2305_speed.specs.Speed.{rpm, rpm_by_high_byte}

-- the formula worked out by hand: each of the edges at count 1, 3, 5, 7 and 9 of them, then m = 2, 4 and 8; the other bits of Configuration 1, which do nothing; and
-- quotients that are rounded down: 7864.32, 748982.86, 3840.47 and 120.01
abbrev pub SpeedExamples : Type 0
SpeedExamples =
    (rpm 1 0x00 1 ≡ 3932160) × (rpm 1 0x08 1 ≡ 7864320) × (rpm 1 0x10 1 ≡ 11796480) × (rpm 1 0x18 1 ≡ 15728640)
    × (rpm 1 0x20 1 ≡ 7864320) × (rpm 1 0x40 1 ≡ 15728640) × (rpm 1 0x60 1 ≡ 31457280) × (rpm 1 0x87 1 ≡ 3932160)
    × (rpm 2 0x2B 1000 ≡ 7864) × (rpm 3 0x2B 7 ≡ 748982) × (rpm 4 0x7F 8191 ≡ 3840) × (rpm 4 0x00 8191 ≡ 120)

-- a count that is taken, of poles in range, has a speed of at least 120 RPM, and it is below 2 ^ 27; so 0 stands for no speed alone
abbrev pub SpeedRange : Type 0
SpeedRange =
    (poles configuration count : ℕ) → 1 ≤ poles → poles ≤ 4 → 1 ≤ count → count ≤ 8191
    → (120 ≤ rpm poles configuration count) × (rpm poles configuration count ≤ 125829120)

-- the slower, the longer the count: a greater count never has a greater speed
abbrev pub Slower : Type 0
Slower =
    (poles configuration count more : ℕ) → 1 ≤ poles → 1 ≤ count
    → rpm poles configuration (count + more) ≤ rpm poles configuration count

-- poles divide the speed of one pole, and the quotient is rounded down once more; twice the speed of two poles is that of one, or 1 less
abbrev pub Poles : Type 0
Poles =
    (configuration count : ℕ) → 1 ≤ count
    → ((poles : ℕ) → 1 ≤ poles → rpm poles configuration count ≡ rpm 1 configuration count / poles)
    × (2 * rpm 2 configuration count ≤ rpm 1 configuration count)
    × (rpm 1 configuration count ≤ 2 * rpm 2 configuration count + 1)

-- the table is that of two poles and 28h, five edges and m = 2, at a count of 32 x byte; no count with that high byte has a greater speed, and none a smaller
-- one than the next byte's
abbrev pub HighBytes : Type 0
HighBytes =
    (byte : ℕ) → 1 ≤ byte → byte ≤ 255
    → (rpm_by_high_byte byte ≡ rpm 2 0x28 (32 * byte))
    × ((count : ℕ) → count / 32 ≡ byte → (rpm 2 0x28 count ≤ rpm_by_high_byte byte) × (rpm 2 0x28 (32 * byte + 32) ≤ rpm 2 0x28 count))
