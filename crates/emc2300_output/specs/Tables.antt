-- The fixed tables.
use Rattle.std.specs.Prelude.{ℕ, List, [], ◌∷◌}

-- ticks of one ramp step, by rate
abbrev pub rates : List ℕ
rates = 17 ∷ 9 ∷ 6 ∷ 4 ∷ 3 ∷ 2 ∷ 1 ∷ 1 ∷ []

-- spin-up lengths in ticks, by configuration bits 2..0
abbrev pub lengths : List ℕ
lengths = 0 ∷ 8 ∷ 20 ∷ 32 ∷ 56 ∷ 80 ∷ 160 ∷ 320 ∷ []
