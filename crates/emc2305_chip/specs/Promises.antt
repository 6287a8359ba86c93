-- What is promised of the chip's registers and ticks. docs/CLAIMS.md names the file of each proof.
use Rattle.std.specs.Prelude.{◌≡◌, ◌↔◌, true, false, cond, not, ◌&&◌, ◌||◌, List, [], ◌∷◌, ◌++◌, ℕ, zero, suc, ◌+◌, ◌-◌, ◌*◌, ◌/◌, ◌%◌, ◌^◌, ◌≤◌, ◌<◌, eqb, length}
use Rattle.laws.specs.Repeat.{repeated}
use Rattle.emc2305_parts.specs.declared.Part.{Part}
use Rattle.emc2305_parts.specs.Parts.{fans_of}
use Rattle.emc2305_fan.specs.declared.Fan.{Fan}
use Rattle.emc2305_fan.specs.Registers.{bit}
use Rattle.emc2305_fan.specs.Tick.{ticked}
use Rattle.emc2305_fan.specs.Tach.{fired}
use Rattle.emc2305_fan.specs.Status.{stuck}
use Rattle.emc2305_watchdog.specs.declared.Watch.TheVariants.{Off}
use Rattle.emc2305_watchdog.specs.Watch.{fires, watch_ticked, programmed, configured}
use Rattle.emc2305_chip.specs.declared.Chip.{Chip}
use Rattle.emc2305_chip.specs.declared.Register.TheVariants.{OfFan, Undefined}
use Rattle.emc2305_chip.specs.State.{fan_count}
use Rattle.emc2305_chip.specs.Map.{within, of_fan, register_of, is_of_fan}
use Rattle.emc2305_chip.specs.Fans.{fan_at}
use Rattle.emc2305_chip.specs.Registers.{at_defaults, on_fan, stall_byte, spin_byte, status_byte, alert_line, register_at, shown_at, cleared_at, stores_at, written_at}
use Rattle.emc2305_chip.specs.Ticks.{chip_ticked}

-- one fan changed, the others as they were
abbrev pub OneFan : Type 0
OneFan =
    (c : Chip) (i : ℕ) (move : Fan → Fan)
    → (i < length c.fans → fan_at (on_fan i move c).fans i ≡ move (fan_at c.fans i))
    × ((k : ℕ) → (k ≡ i → ⊥) → fan_at (on_fan i move c).fans k ≡ fan_at c.fans k)

-- no fan waits for another: with the watch off, a fan's part of n ticks of the chip is n ticks of that fan
abbrev pub FanTicks : Type 0
FanTicks =
    (c : Chip) (i n : ℕ) → c.watch ≡ Off → i < fan_count c → i < length c.fans
    → (fan_at (repeated n chip_ticked c).fans i ≡ repeated n ticked (fan_at c.fans i)) × ((repeated n chip_ticked c).watch ≡ Off)

-- one tick of the chip: the watchdog acts first, and if it fires no fan moves in it; firing and ticking pass absent fans by
abbrev pub OneTick : Type 0
OneTick =
    (c : Chip)
    → ((chip_ticked c).watch ≡ watch_ticked c.watch)
    × ((chip_ticked c).expired ≡ (fires c.watch || c.expired))
    × ((i : ℕ) → i < fan_count c → i < length c.fans
    → fan_at (chip_ticked c).fans i ≡ cond (fires c.watch) (fired (fan_at c.fans i)) (ticked (fan_at c.fans i)))
    × ((i : ℕ) → fan_count c ≤ i → fan_at (chip_ticked c).fans i ≡ fan_at c.fans i)

-- one write to a register and the watch: Setting, and Configuration 1 with bit 7, end the power-up watch where they are stored; 20h starts or ends
-- the continuous watch where it is stored; no other write touches it
abbrev pub WatchWrites : Type 0
WatchWrites =
    (c : Chip) (byte : ℕ)
    → ((i : ℕ) → i < fan_count c → stores_at c (0x30 + 0x10 * i) ≡ true → (written_at (0x30 + 0x10 * i) byte c).watch ≡ programmed c.watch)
    × ((i : ℕ) → i < fan_count c → stores_at c (0x32 + 0x10 * i) ≡ true
    → (written_at (0x32 + 0x10 * i) byte c).watch ≡ cond (bit 7 byte) (programmed c.watch) c.watch)
    × (stores_at c 0x20 ≡ true → (written_at 0x20 byte c).watch ≡ configured (bit 5 byte) c.watch)
    × ((i offset : ℕ) → i < fan_count c → offset < 16 → (offset ≡ 0x0 → ⊥) → (offset ≡ 0x2 → ⊥)
    → (written_at (0x30 + (0x10 * i + offset)) byte c).watch ≡ c.watch)
    × ((address : ℕ) → ((i : ℕ) → is_of_fan i (register_at c address) ≡ false) → (address ≡ 0x20 → ⊥) → (written_at address byte c).watch ≡ c.watch)

-- a write that is not stored changes nothing; one that is stored reads back, but for Setting, which shows the drive
abbrev pub ReadBack : Type 0
ReadBack =
    (c : Chip) (address byte : ℕ) → length c.fans ≡ 5 → length c.outputs ≡ 4
    → ((i : ℕ) → i < fan_count c → length (fan_at c.fans i).registers ≡ 16)
    → (stores_at c address ≡ false → written_at address byte c ≡ c)
    × (stores_at c address ≡ true → ((i : ℕ) → register_at c address ≡ OfFan i 0x0 → ⊥) → shown_at (written_at address byte c) address ≡ byte)

-- a fan's registers at power-on, as document 01 lists them
abbrev pub fan_defaults : List ℕ
fan_defaults = 0x00 ∷ 0x01 ∷ 0x2B ∷ 0x28 ∷ 0x00 ∷ 0x2A ∷ 0x19 ∷ 0x10 ∷ 0x66 ∷ 0xF5 ∷ 0x00 ∷ 0x00 ∷ 0xF8 ∷ 0xFF ∷ 0xFF ∷ 0xF8 ∷ []

-- so many bytes 00h
abbrev pub zeros : ℕ → List ℕ
zeros zero = []
zeros (suc n) = 0x00 ∷ zeros n

-- those of so many fans, one after the other
abbrev pub fan_rows : ℕ → List ℕ
fan_rows zero = []
fan_rows (suc n) = fan_defaults ++ fan_rows n

-- the defaults from 00h to FFh: 20h, the fans that the part has, the identity bytes, and 00h elsewhere
abbrev pub all_defaults : Part → List ℕ
all_defaults part =
    zeros 0x20 ++ (0x40 ∷ zeros 0x0F) ++ (fan_rows (fans_of part) ++ zeros (0x50 - 0x10 * fans_of part))
    ++ (zeros 0x7C ++ (0x00 ∷ 0x34 ∷ 0x5D ∷ 0x80 ∷ []))

-- the bytes that the first n addresses show
abbrev pub shown_below : ℕ → Chip → List ℕ
shown_below zero c = []
shown_below (suc n) c = shown_below n c ++ (shown_at c n ∷ [])

-- after power-on of each part every address shows its default
abbrev pub Defaults : Type 0
Defaults = (part : Part) (address : ℕ) → shown_below 256 (at_defaults part true address) ≡ all_defaults part

-- where there are so many fans, fan i + 1 has the registers from 30h + 10h x i on; those of absent fans are undefined
abbrev pub FanMap : Type 0
FanMap =
    (fans i offset : ℕ) → i < 5 → offset < 16
    → (i < fans → register_of fans (0x30 + (0x10 * i + offset)) ≡ OfFan i offset)
    × (fans ≤ i → register_of fans (0x30 + (0x10 * i + offset)) ≡ Undefined)

-- a register of an absent fan reads 00h; a read of it clears nothing, a write to it stores nothing and changes nothing
abbrev pub AbsentRegisters : Type 0
AbsentRegisters =
    (c : Chip) (i offset byte : ℕ) → fan_count c ≤ i → i < 5 → offset < 16
    → let address : ℕ = 0x30 + (0x10 * i + offset) in
    (shown_at c address ≡ 0x00) × (cleared_at address c ≡ c) × (stores_at c address ≡ false) × (written_at address byte c ≡ c)

-- division and ranges agree for every address: a fan's register stands there just where address / 16 is 3 to 7, and then it is that of the fan
-- address / 16 - 3, from 0, at the offset address % 16, where there is such a fan
abbrev pub Division : Type 0
Division =
    (fans a : ℕ)
    → (within 3 7 (a / 16) ≡ true → register_of fans a ≡ of_fan fans (a / 16 - 3) (a % 16))
    × (within 3 7 (a / 16) ≡ false → (i offset : ℕ) → register_of fans a ≡ OfFan i offset → ⊥)

-- 25h and 26h: bit i for fan i + 1, and no other bit, so that those of absent fans are 0; 24h: bit 7 WATCH, bit 1 any of 26h, bit 0 any of 25h
abbrev pub StatusBits : Type 0
StatusBits =
    (c : Chip)
    → (stall_byte c < 2 ^ fan_count c) × (spin_byte c < 2 ^ fan_count c)
    × ((i : ℕ) → i < fan_count c → (bit i (stall_byte c) ≡ (fan_at c.fans i).stalled) × (bit i (spin_byte c) ≡ (fan_at c.fans i).failed))
    × (bit 7 (status_byte c) ≡ c.expired)
    × (bit 1 (status_byte c) ≡ not (eqb (spin_byte c) 0))
    × (bit 0 (status_byte c) ≡ not (eqb (stall_byte c) 0))

-- after a read of 25h or 26h a bit there stands exactly when it stood and its fan is stuck, and no other bit has changed; reading 24h clears WATCH alone
abbrev pub ReadClears : Type 0
ReadClears =
    (c : Chip)
    → ((i : ℕ) → i < fan_count c
    → (bit i (stall_byte (cleared_at 0x25 c)) ≡ (bit i (stall_byte c) && stuck (fan_at c.fans i)))
    × (bit i (spin_byte (cleared_at 0x26 c)) ≡ (bit i (spin_byte c) && stuck (fan_at c.fans i))))
    × (spin_byte (cleared_at 0x25 c) ≡ spin_byte c) × ((cleared_at 0x25 c).expired ≡ c.expired)
    × (stall_byte (cleared_at 0x26 c) ≡ stall_byte c) × ((cleared_at 0x26 c).expired ≡ c.expired)
    × ((cleared_at 0x24 c).expired ≡ false) × (stall_byte (cleared_at 0x24 c) ≡ stall_byte c) × (spin_byte (cleared_at 0x24 c) ≡ spin_byte c)

-- the alert line: MASK is 0, and WATCH is set or one of the chip's fans has a bit and is enabled
abbrev pub Alert : Type 0
Alert =
    (c : Chip)
    → (bit 7 c.configuration ≡ true → alert_line c ≡ false)
    × (bit 7 c.configuration ≡ false → c.expired ≡ true → alert_line c ≡ true)
    × (bit 7 c.configuration ≡ false → c.expired ≡ false
    → (alert_line c ≡ true
    ↔ ((i : ℕ) × (i < fan_count c) × (bit i c.enable ≡ true) × ((fan_at c.fans i).stalled || (fan_at c.fans i).failed ≡ true))))
