-- A tick: a move from one fan state to the next.
use Rattle.std.specs.Prelude.{◌+◌, Bool, cond, ◌||◌, leb}
use Rattle.emc2305_fan.specs.declared.Fan.{Fan}
use Rattle.emc2305_fan.specs.State.{with_drive, with_clock}
use Rattle.emc2305_fan.specs.Ramp.{moved}
use Rattle.emc2305_fan.specs.Drive.{goal, under_ramp, step, period}
use Rattle.emc2305_fan.specs.Spin.{spin_tick}

-- at the period the update clock goes to 0 and drive moves toward the goal by the smaller of step and distance
unfoldable pub updated : Fan → Fan
updated f = with_drive (moved f.drive (goal f) (step f)) (with_clock 0 f)

-- a tick that the update clock counts; a clock past its period acts as at the period
unfoldable pub clock_ticked : Fan → Fan
clock_ticked f = cond (leb (period f) (f.clock + 1)) (updated f) (with_clock (f.clock + 1) f)

-- the update clock counts under ramp control and not in spin-up
unfoldable pub ticked : Fan → Fan
ticked f = cond f.spin.running (spin_tick f) (cond (under_ramp f) (clock_ticked f) f)

-- a tick changes something: a spin-up runs, or the update clock counts
abbrev pub busy : Fan → Bool
busy f = f.spin.running || under_ramp f
