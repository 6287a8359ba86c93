-- Document 01's examples that are marked P, as one table.
use Rattle.std.specs.Prelude.{◌≡◌, false, cond, List, [], ◌∷◌, ◌++◌, map, ℕ, zero, suc, ◌+◌, replicate}
use Rattle.laws.specs.Repeat.{repeated}
use Rattle.eventlog.specs.declared.Event.{Event}
use Rattle.eventlog.specs.declared.Event.TheVariants.{PowerOn, Ticks, Transfer}
use Rattle.eventlog.specs.Numbers.{number_read}
use Rattle.eventlog.specs.Reading.{read_at}
use Rattle.emc2305_fan.specs.declared.Fan.{Fan}
use Rattle.emc2305_parts.specs.declared.Part.TheVariants.{Emc2305}
use Rattle.emc2305_parts.specs.Parts.{reset_of}
use Rattle.emc2305_fan.specs.Registers.{power_on}
use Rattle.emc2305_fan.specs.Tick.{ticked}
use Rattle.emc2305_fan.specs.Stored.{written}
use Rattle.emc2305_fan.specs.Tach.{sampled}
use Rattle.emc2305_fan.specs.Promises.{after_updates, drive_after}
use Rattle.emc2305_chip.specs.declared.Chip.{Chip}
use Rattle.emc2305_chip.specs.Registers.{unpowered, shown_at}
use Rattle.emc2305_chip.specs.Promises.{all_defaults, shown_below}
use Rattle.walks.specs.Sequence.{Handed}
use Rattle.emc2305_promises.specs.Ramp.{after_all}

-- the figures at 0 to n - 1
abbrev pub firsts : ℕ → (ℕ → ℕ) → List ℕ
firsts zero at = []
firsts (suc n) at = firsts n at ++ (at n ∷ [])

-- the drives after 1 to n ramp updates, from d to g by step s
abbrev pub update_row : ℕ → ℕ → ℕ → ℕ → List ℕ
update_row n d g s = firsts n (λ (k : ℕ). after_updates (k + 1) d g s)

-- the default fan, of the five-fan part
abbrev pub default_fan : Fan
default_fan = power_on (reset_of Emc2305).fan

-- that fan, Setting 80h at drive 0
abbrev pub fan_at80 : Fan
fan_at80 = written 0x0 0x80 default_fan

-- the default fan, Setting 80h at drive 0, with Configuration 2 bit 6 set first
abbrev pub ramped_at80 : Fan
ramped_at80 = written 0x0 0x80 (written 0x3 0x68 default_fan)

-- the stall bit of the default fan at drive 128, no spin-up, no watch, after a sample
abbrev pub stall_bit : ℕ → ℕ
stall_bit c = cond (sampled c false (repeated 40 ticked fan_at80)).stalled 1 0

-- the number that reading at the front of a log gives
abbrev pub read_number : List ℕ → ℕ
read_number log = number_read (read_at log 0)

-- an event whose bytes, if it is a transfer, stand in EFh 01h, 37h 20h, 30h 80h, 31h 01h; it has no reply
abbrev pub example_given : Event → Handed
example_given event = record { log = 0xEF ∷ 0x01 ∷ 0x37 ∷ 0x20 ∷ 0x30 ∷ 0x80 ∷ 0x31 ∷ 0x01 ∷ []; event = event; room = 0 }

-- the chip after a power-on and events in turn
abbrev pub chip_after : List Event → Chip
chip_after events = after_all (map example_given (PowerOn 0x2C ∷ events)) unpowered

-- what registers show after a power-on and events in turn
abbrev pub registers_then : List Event → List ℕ → List ℕ
registers_then events addresses = map (shown_at (chip_after events)) addresses

-- every fan's Setting, and 24h
abbrev pub settings : List ℕ
settings = 0x30 ∷ 0x40 ∷ 0x50 ∷ 0x60 ∷ 0x70 ∷ 0x24 ∷ []

-- the lock set; 37h, 30h or 31h written
abbrev pub lock_set : Event
lock_set = Transfer false 0x2C 0 2

abbrev pub write37 : Event
write37 = Transfer false 0x2C 2 2

abbrev pub write30 : Event
write30 = Transfer false 0x2C 4 2

abbrev pub write31 : Event
write31 = Transfer false 0x2C 6 2

-- what the rules give, and document 01's figures, in its order
-- "nothing": every address shows its default; FFh is the stored Setting too, since a write to 31h, which sets the drive to it, leaves the drive
-- 30h "stored": the drive is 80h after the 40 ticks of the spin-up that the write starts
abbrev pub examples : List (List ℕ × List ℕ)
examples =
    (update_row 2 153 128 16, 137 ∷ 128 ∷ [])
    ∷ (update_row 5 255 0 63, 192 ∷ 129 ∷ 66 ∷ 3 ∷ 0 ∷ [])
    ∷ (update_row 2 153 128 0, 153 ∷ 153 ∷ [])
    ∷ (update_row 2 128 128 16, 128 ∷ 128 ∷ [])
    ∷ (firsts 41 (drive_after fan_at80), replicate 10 255 ++ (replicate 30 153 ++ (128 ∷ [])))
    ∷ (map (drive_after ramped_at80) (40 ∷ 72 ∷ 104 ∷ []), 153 ∷ 137 ∷ 128 ∷ [])
    ∷ (map stall_bit (7871 ∷ 7872 ∷ []), 0 ∷ 1 ∷ [])
    ∷ (shown_below 256 (chip_after (Ticks 319 ∷ [])), all_defaults Emc2305)
    ∷ (registers_then (Ticks 320 ∷ []) settings, 0xFF ∷ 0xFF ∷ 0xFF ∷ 0xFF ∷ 0xFF ∷ 0x80 ∷ [])
    ∷ (registers_then (Ticks 320 ∷ write31 ∷ []) (0x30 ∷ []), 0xFF ∷ [])
    ∷ (read_number (0x9C ∷ []) ∷ [], 1 ∷ [])
    ∷ (read_number (0x9D ∷ []) ∷ [], 2 ∷ [])
    ∷ (read_number (0x9C ∷ 0x46 ∷ 0x02 ∷ 0x09 ∷ []) ∷ [], 4 ∷ [])
    ∷ (read_number (0x9C ∷ 0x46 ∷ 0x05 ∷ 0x14 ∷ 0x58 ∷ []) ∷ [], 1 ∷ [])
    ∷ (registers_then (lock_set ∷ write37 ∷ []) (0xEF ∷ 0x37 ∷ []), 0x01 ∷ 0x10 ∷ [])
    ∷ (registers_then (lock_set ∷ write30 ∷ Ticks 40 ∷ []) (0x30 ∷ []), 0x80 ∷ [])
    ∷ []

-- each row's sides are the same
abbrev pub Examples : Type 0
Examples = map (λ (row : List ℕ × List ℕ). row.0) examples ≡ map (λ (row : List ℕ × List ℕ). row.1) examples
