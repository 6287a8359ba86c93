-- Ramp: the rate, ramp control.
use Rattle.std.specs.Prelude.{ℕ, ◌%◌, Bool, true, false, not, ◌&&◌, eqb, get_or}
use Rattle.laws.specs.Bits.{bit}
use Rattle.emc2300_duty.specs.declared.Registers.{Registers}
use Rattle.emc2300_duty.specs.declared.Asked.{Asked}
use Rattle.emc2300_duty.specs.declared.Asked.TheVariants.{Full, Off, Duty}
use Rattle.emc2300_duty.specs.Duty.{goal_of}
use Rattle.emc2300_output.specs.Tables.{rates}

-- rate: ticks for one step of 1, by ramp bits 2..0
abbrev pub rate_of : Registers → ℕ
rate_of r = get_or rates (r.ramp % 8) 0

-- a duty is asked, neither full nor off
abbrev pub is_duty : Asked → Bool
is_duty Full = false
is_duty Off = false
is_duty (Duty duty) = true

-- goal 0 and SZEN 1
abbrev pub zero_at_once : Registers → ℕ → Bool
zero_at_once r goal = eqb goal 0 && bit 2 r.options

-- ramp control: a duty is asked, the output's enable bit is 1, and not (goal 0 and SZEN 1)
unfoldable pub ramp_control : Registers → Asked → Bool
ramp_control r asked = is_duty asked && (bit 3 r.ramp && not (zero_at_once r (goal_of asked)))
