-- A fan's registers, by offset.
use Rattle.std.specs.Prelude.{List, ℕ, ◌/◌, ◌%◌, ◌^◌, Bool, false, cond, not, ◌&&◌, ◌||◌, leb, eqb, get_or}
use Rattle.emc2305_fan.specs.declared.Fan.{Fan}
use Rattle.emc2305_fan.specs.declared.SpinUp.{SpinUp}

-- bit k of a byte is 1
abbrev pub bit : ℕ → ℕ → Bool
bit k byte = eqb (byte / 2 ^ k % 2) 1

-- the byte that stands at an offset
abbrev pub byte_at : ℕ → Fan → ℕ
byte_at offset f = get_or f.registers offset 0

-- Setting, as it was stored
abbrev pub setting : Fan → ℕ
setting f = byte_at 0x0 f

-- Configuration 1
abbrev pub configuration1 : Fan → ℕ
configuration1 f = byte_at 0x2 f

-- Configuration 2
abbrev pub configuration2 : Fan → ℕ
configuration2 f = byte_at 0x3 f

-- Spin Up
abbrev pub spin_up : Fan → ℕ
spin_up f = byte_at 0x6 f

-- Max Step
abbrev pub max_step : Fan → ℕ
max_step f = byte_at 0x7 f

-- Minimum Drive
abbrev pub minimum_drive : Fan → ℕ
minimum_drive f = byte_at 0x8 f

-- Valid Count
abbrev pub valid_count : Fan → ℕ
valid_count f = byte_at 0x9 f

-- target high
abbrev pub target_high : Fan → ℕ
target_high f = byte_at 0xD f

-- reading high
abbrev pub reading_high : Fan → ℕ
reading_high f = byte_at 0xE f

-- offsets 0 to D but for 4 are writable; E and F are read only
abbrev pub writable : ℕ → Bool
writable offset = leb offset 0x3 || (leb 0x5 offset && leb offset 0xD)

-- offsets 3 and 5 to B are locked
unfoldable pub locked : ℕ → Bool
locked offset = eqb offset 0x3 || (leb 0x5 offset && leb offset 0xB)

-- offset 4, and what is past F, is undefined
abbrev pub undefined : ℕ → Bool
undefined offset = eqb offset 0x4 || leb 0x10 offset

-- reading Setting shows the present drive; an undefined register reads 00h
unfoldable pub shown : Fan → ℕ → ℕ
shown f offset = cond (undefined offset) 0x00 (cond (eqb offset 0x0) f.drive (byte_at offset f))

-- closed loop is Configuration 1 bit 7
abbrev pub closed_loop : Fan → Bool
closed_loop f = bit 7 (configuration1 f)

-- whether a write to the offset is stored, where no lock forbids it: in closed loop a Setting write stores nothing
unfoldable pub stores : Fan → ℕ → Bool
stores f offset = writable offset && not (eqb offset 0x0 && closed_loop f)

-- no spin-up
abbrev pub no_spin : SpinUp
no_spin = record { running = false; ticks = 0; length = 0; kick = false; level = 0 }

-- power-on sets every default, which are the part's; status, drive, wish and update clock are 0, no spin-up
unfoldable pub power_on : List ℕ → Fan
power_on defaults = record { registers = defaults; drive = 0; wish = 0; clock = 0; spin = no_spin; stalled = false; failed = false }
