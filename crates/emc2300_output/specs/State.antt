-- The state of an output, and what a read of 30h + shows.
use Rattle.std.specs.Prelude.{ℕ, Bool, cond, ltb}
use Rattle.ramps.specs.declared.Ramp.{Ramp}
use Rattle.emc2300_output.specs.declared.Output.{Output}

-- at a duty at once: no spin-up, clock 0
abbrev pub placed : ℕ → Output
placed duty = record { duty = duty; clock = 0; left = 0 }

-- power-on: duty 255, no spin-up, clock 0
abbrev pub power_on : Output
power_on = placed 255

-- in a spin-up: ticks of it are left
abbrev pub in_spin : Output → Bool
in_spin o = ltb 0 o.left

-- 30h + reads the duty, and 00h in a spin-up
abbrev pub shown : Output → ℕ
shown o = cond (in_spin o) 0 o.duty

-- with the clock at 0
abbrev pub clock_cleared : Output → Output
clock_cleared o = record { duty = o.duty; clock = 0; left = o.left }

-- with other ticks left of the spin-up
abbrev pub with_left : ℕ → Output → Output
with_left left o = record { duty = o.duty; clock = o.clock; left = left }

-- duty and clock: where the output's ramp stands
abbrev pub ramp_of : Output → Ramp
ramp_of o = record { drive = o.duty; clock = o.clock }

-- with the ramp standing elsewhere
abbrev pub with_ramp : Ramp → Output → Output
with_ramp r o = record { duty = r.drive; clock = r.clock; left = o.left }
