-- What is promised of a ramp, over any goal, step and period; the proofs are in proofs/.
use Rattle.std.specs.Prelude.{ℕ, ◌+◌, ◌-◌, ◌*◌, ◌/◌, ◌%◌, min, ◌≤◌, ◌<◌, ◌≡◌, ◌↔◌}
use Rattle.laws.specs.Repeat.{repeated}
use Rattle.ramps.specs.declared.Ramp.{Ramp}
use Rattle.ramps.specs.Ramp.{distance, moved, updated_ramp, counted}

-- one update moves by exactly the smaller of distance and step, never passes the goal, and step 0 and d = g stay
abbrev pub OneUpdate : Type 0
OneUpdate =
    (d g s : ℕ)
    → (distance d (moved d g s) ≡ min (distance d g) s)
    × (distance d (moved d g s) + distance (moved d g s) g ≡ distance d g)
    × (moved d g 0 ≡ d)
    × (moved g g s ≡ g)

-- d after n updates
abbrev pub after_updates : ℕ → ℕ → ℕ → ℕ → ℕ
after_updates n d g s = repeated n (λ (x : ℕ). moved x g s) d

-- n updates move by the smaller of the distance and n times the step
abbrev pub Updates : Type 0
Updates = (n d g s : ℕ) → after_updates n d g s ≡ moved d g (n * s)

-- the distance over the step, rounded up
abbrev pub updates_to : ℕ → ℕ → ℕ → ℕ
updates_to d g s = (distance d g + (s - 1)) / s

-- with a step of at least 1 the drive arrives after exactly that many updates, and stays
abbrev pub Arrives : Type 0
Arrives = (n d g s : ℕ) → 1 ≤ s → after_updates n d g s ≡ g ↔ updates_to d g s ≤ n

-- n counted ticks, the clock below the period: a step for each whole period, and the clock at what is left
abbrev pub CountedTicks : Type 0
CountedTicks =
    (n g s u : ℕ) (r : Ramp)
    → r.clock < u
    → repeated n (counted g s u) r ≡ record { drive = moved r.drive g (s * ((r.clock + n) / u)); clock = (r.clock + n) % u }

-- a clock at or past its period acts at the next counted tick
abbrev pub PastPeriod : Type 0
PastPeriod = (g s u : ℕ) (r : Ramp) → u ≤ r.clock + 1 → counted g s u r ≡ updated_ramp g s r

-- with a step of at least 1 the drive is at its goal from exactly the tick on that makes so many updates; at once where it begins there
abbrev pub ArrivalTick : Type 0
ArrivalTick =
    (n g s u : ℕ) (r : Ramp)
    → r.clock < u
    → 1 ≤ s
    → (repeated n (counted g s u) r).drive ≡ g ↔ updates_to r.drive g s * u - r.clock ≤ n
