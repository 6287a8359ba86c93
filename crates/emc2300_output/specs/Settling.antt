-- Settling, and the start of a spin-up.
use Rattle.std.specs.Prelude.{ℕ, ◌%◌, Bool, cond, ◌&&◌, ltb, eqb, get_or}
use Rattle.emc2300_duty.specs.declared.Registers.{Registers}
use Rattle.emc2300_duty.specs.declared.Asked.{Asked}
use Rattle.emc2300_duty.specs.declared.Asked.TheVariants.{Full, Off, Duty}
use Rattle.emc2300_output.specs.declared.Output.{Output}
use Rattle.emc2300_output.specs.Tables.{lengths}
use Rattle.emc2300_output.specs.State.{placed, in_spin}
use Rattle.emc2300_output.specs.Ramp.{ramp_control}

-- length by configuration bits 2..0, at the start
abbrev pub spin_length : Registers → ℕ
spin_length r = get_or lengths (r.configuration % 8) 0

-- a spin-up starts: duty kept 0, clock 0; with length 0 it ends at once, at the goal
unfoldable pub started : ℕ → ℕ → Output
started length goal = cond (eqb length 0) (placed goal) (record { duty = 0; clock = 0; left = length })

-- in a spin-up: goal 0 ends it, duty 0, clock 0; otherwise nothing
abbrev pub spin_held : ℕ → Output → Output
spin_held goal o = cond (eqb goal 0) (placed 0) o

-- duty 0 and a goal above 0
abbrev pub starts : ℕ → Output → Bool
starts goal o = eqb o.duty 0 && ltb 0 goal

-- out of one: such a start; without ramp control the duty is the goal, clock 0; else nothing
unfoldable pub duty_set : ℕ → Bool → ℕ → Output → Output
duty_set length ramped goal o =
    cond (starts goal o) (started length goal) (cond ramped o (placed goal))

-- settling: full, duty 255; off, duty 0; both end a spin-up and set the clock to 0; a duty asked, in a spin-up and out of it
unfoldable pub settled : Registers → Asked → Output → Output
settled r Full o = placed 255
settled r Off o = placed 0
settled r (Duty goal) o = cond (in_spin o) (spin_held goal o) (duty_set (spin_length r) (ramp_control r (Duty goal)) goal o)
