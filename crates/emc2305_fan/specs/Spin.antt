-- Spin-up: its start, its ticks, its end.
use Rattle.std.specs.Prelude.{ℕ, ◌+◌, ◌/◌, ◌%◌, Bool, true, cond, not, ◌&&◌, leb, ltb, get_or}
use Rattle.emc2305_fan.specs.declared.Fan.{Fan}
use Rattle.emc2305_fan.specs.declared.SpinUp.{SpinUp}
use Rattle.emc2305_fan.specs.Tables.{lengths, levels}
use Rattle.emc2305_fan.specs.State.{with_drive, with_clock, with_spin, with_failed}
use Rattle.emc2305_fan.specs.Registers.{bit, spin_up, valid_count, reading_high, closed_loop, no_spin}
use Rattle.emc2305_fan.specs.Drive.{goal, under_ramp}

-- length by Spin Up bits 0..1
abbrev pub spin_length : Fan → ℕ
spin_length f = get_or lengths (spin_up f % 4) 0

-- level by Spin Up bits 2..4
abbrev pub spin_level : Fan → ℕ
spin_level f = get_or levels (spin_up f / 4 % 8) 0

-- the first quarter is at 255, unless Spin Up bit 5 is 1
abbrev pub spin_kick : Fan → Bool
spin_kick f = not (bit 5 (spin_up f))

-- a spin-up at its start: length, bit 5 and level are fixed from the fan's registers
abbrev pub spin_new : Fan → SpinUp
spin_new f = record { running = true; ticks = 0; length = spin_length f; kick = spin_kick f; level = spin_level f }

-- the same spin-up n ticks on
abbrev pub spin_on : ℕ → SpinUp → SpinUp
spin_on n s = record { running = s.running; ticks = s.ticks + n; length = s.length; kick = s.kick; level = s.level }

-- first quarter at 255, unless bit 5 is 1; the rest at the level
unfoldable pub spin_drive : SpinUp → ℕ
spin_drive s = cond (s.kick && ltb s.ticks (s.length / 4)) 255 s.level

-- in that spin-up, with its drive
abbrev pub in_spin : SpinUp → Fan → Fan
in_spin s f = with_drive (spin_drive s) (with_spin s f)

-- the start of a spin-up; the drive is set at the start itself
unfoldable pub started : Fan → Fan
started f = in_spin (spin_new f) f

-- the end of a spin-up, at a drive: it sets the update clock to 0
abbrev pub ended : ℕ → Fan → Fan
ended drive f = with_drive drive (with_clock 0 (with_spin no_spin f))

-- the reading's high byte is above Valid Count
unfoldable pub too_slow : Fan → Bool
too_slow f = ltb (valid_count f) (reading_high f)

-- the drive that a spin-up leaves: the level, from which the ramp goes on, or without ramp control the goal
abbrev pub spin_leaves : Fan → ℕ
spin_leaves f = cond (under_ramp f) f.spin.level (goal f)

-- a spin-up that failed starts again in closed loop; otherwise it ends
unfoldable pub spin_failed : Fan → Fan
spin_failed f = cond (closed_loop f) (started f) (ended (spin_leaves f) f)

-- after the last tick the reading's high byte is compared: above Valid Count sets the 26h bit, and the spin-up has failed
unfoldable pub spin_over : Fan → Fan
spin_over f = cond (too_slow f) (spin_failed (with_failed true f)) (ended (spin_leaves f) f)

-- the tick is the spin-up's last
abbrev pub last_tick : SpinUp → Bool
last_tick s = leb s.length (s.ticks + 1)

-- a tick in spin-up
unfoldable pub spin_tick : Fan → Fan
spin_tick f = cond (last_tick f.spin) (spin_over f) (in_spin (spin_on 1 f.spin) f)
