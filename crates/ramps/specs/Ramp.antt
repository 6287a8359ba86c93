-- A ramp: a drive that goes to its goal by steps, an update each period of its clock.
use Rattle.std.specs.Prelude.{ℕ, ◌+◌, ◌-◌, min, cond, leb}
use Rattle.ramps.specs.declared.Ramp.{Ramp}

-- how far apart: one of the two differences is 0
abbrev pub distance : ℕ → ℕ → ℕ
distance d g = (d - g) + (g - d)

-- d moved toward g by n
abbrev pub toward : ℕ → ℕ → ℕ → ℕ
toward d g n = cond (leb d g) (d + n) (d - n)

-- d moved toward g by the smaller of the distance and n
unfoldable pub moved : ℕ → ℕ → ℕ → ℕ
moved d g n = toward d g (min (distance d g) n)

-- an update: the clock goes to 0 and the drive moves toward the goal by the smaller of step and distance
abbrev pub updated_ramp : ℕ → ℕ → Ramp → Ramp
updated_ramp goal step r = record { drive = moved r.drive goal step; clock = 0 }

-- a tick that the clock counts: at the period it is an update; a clock past its period acts as at the period
unfoldable pub counted : ℕ → ℕ → ℕ → Ramp → Ramp
counted goal step period r =
    cond (leb period (r.clock + 1)) (updated_ramp goal step r) (record { drive = r.drive; clock = r.clock + 1 })
