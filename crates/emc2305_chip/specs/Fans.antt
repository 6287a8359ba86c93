-- The fans side by side: what happens to them alike, and their status bits.
use Rattle.std.specs.Prelude.{Bool, false, cond, ◌&&◌, ◌||◌, List, [], ℕ, zero, suc, ◌+◌, ◌^◌, get_or}
use Rattle.emc2305_fan.specs.declared.Bit.{Bit}
use Rattle.emc2305_fan.specs.declared.Fan.{Fan}
use Rattle.emc2305_fan.specs.Registers.{bit, no_spin}
use Rattle.emc2305_fan.specs.Tick.{busy}
use Rattle.emc2305_fan.specs.Status.{standing}

-- past the five places there is no fan: an empty one stands for it
abbrev pub no_fan : Fan
no_fan = record { registers = []; drive = 0; wish = 0; clock = 0; spin = no_spin; stalled = false; failed = false }

-- fan i + 1
abbrev pub fan_at : List Fan → ℕ → Fan
fan_at fans i = get_or fans i no_fan

-- one of the first n fans has something to do in a tick
unfoldable pub any_busy : List Fan → ℕ → Bool
any_busy fans zero = false
any_busy fans (suc i) = any_busy fans i || busy (fan_at fans i)

-- the status byte of the first n fans: bit i - 1 for fan i
unfoldable pub bits_of : Bit → List Fan → ℕ → ℕ
bits_of which fans zero = 0
bits_of which fans (suc i) = bits_of which fans i + cond (standing which (fan_at fans i)) (2 ^ i) 0

-- a 25h or 26h bit of the fan stands, and the fan's bit in 29h is 1
abbrev pub interrupts : ℕ → ℕ → Fan → Bool
interrupts enable i f = bit i enable && (f.stalled || f.failed)

-- one of the first n fans has such a bit
unfoldable pub interrupting : ℕ → List Fan → ℕ → Bool
interrupting enable fans zero = false
interrupting enable fans (suc i) = interrupting enable fans i || interrupts enable i (fan_at fans i)
