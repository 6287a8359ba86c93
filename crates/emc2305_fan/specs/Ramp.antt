-- The ramp of a fan, which is that of any device (crate ramps).
use Rattle.std.specs.Prelude.{ℕ}
use Rattle.ramps.specs.declared.Ramp.{Ramp}
use Rattle.ramps.specs.declared.Pace.{Pace}
use Rattle.ramps.specs.Ramp as any
use Rattle.emc2305_fan.specs.declared.Fan.{Fan}
use Rattle.emc2305_fan.specs.State.{with_drive, with_clock}
use Rattle.emc2305_fan.specs.Drive.{goal, step, period}

-- how far apart: one of the two differences is 0
abbrev pub distance : ℕ → ℕ → ℕ
distance = any.distance

-- d moved toward g by n
abbrev pub toward : ℕ → ℕ → ℕ → ℕ
toward = any.toward

-- d moved toward g by the smaller of the distance and n
abbrev pub moved : ℕ → ℕ → ℕ → ℕ
moved = any.moved

-- drive and update clock: where the fan's ramp stands
abbrev pub ramp_of : Fan → Ramp
ramp_of f = record { drive = f.drive; clock = f.clock }

-- where it goes, and how fast
abbrev pub pace_of : Fan → Pace
pace_of f = record { goal = goal f; step = step f; period = period f }

-- with the ramp elsewhere
abbrev pub with_ramp : Ramp → Fan → Fan
with_ramp r f = with_drive r.drive (with_clock r.clock f)
