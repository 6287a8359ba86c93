-- A tick, and the ends of a spin-up.
use Rattle.std.specs.Prelude.{ℕ, ◌-◌, Bool, cond, ◌&&◌, leb}
use Rattle.ramps.specs.Ramp.{counted}
use Rattle.emc2300_duty.specs.declared.Registers.{Registers}
use Rattle.emc2300_duty.specs.declared.Asked.{Asked}
use Rattle.emc2300_duty.specs.Duty.{goal_of}
use Rattle.emc2300_output.specs.declared.Output.{Output}
use Rattle.emc2300_output.specs.State.{placed, in_spin, with_left, ramp_of, with_ramp}
use Rattle.emc2300_output.specs.Ramp.{rate_of, ramp_control}

-- the ramp clock counts; at the rate's ticks it goes to 0 and the duty moves by 1 toward the goal, or stays there
abbrev pub clock_ticked : Registers → Asked → Output → Output
clock_ticked r asked o = with_ramp (counted (goal_of asked) 1 (rate_of r) (ramp_of o)) o

-- a tick in a spin-up; after its last the duty is the goal of that moment, at once, and the clock 0
unfoldable pub spin_ticked : ℕ → Output → Output
spin_ticked goal o = cond (leb o.left 1) (placed goal) (with_left (o.left - 1) o)

-- a tick: the ramp clock counts under ramp control and not in a spin-up
unfoldable pub ticked : Registers → Asked → Output → Output
ticked r asked o = cond (in_spin o) (spin_ticked (goal_of asked) o) (cond (ramp_control r asked) (clock_ticked r asked o) o)

-- the last tick of a spin-up is among the next n
abbrev pub last_within : ℕ → Output → Bool
last_within n o = in_spin o && leb o.left n

-- a spin-up that its tachs end: duty the goal of that moment, clock 0
unfoldable pub spun_up : Asked → Output → Output
spun_up asked o = cond (in_spin o) (placed (goal_of asked)) o
