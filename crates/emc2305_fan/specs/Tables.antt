-- The fixed tables.
use Rattle.std.specs.Prelude.{ℕ, List, [], ◌∷◌}

-- update periods in ticks, by Configuration 1 bits 0..2
abbrev pub periods : List ℕ
periods = 8 ∷ 16 ∷ 24 ∷ 32 ∷ 40 ∷ 64 ∷ 96 ∷ 128 ∷ []

-- spin-up lengths in ticks, by Spin Up bits 0..1
abbrev pub lengths : List ℕ
lengths = 20 ∷ 40 ∷ 80 ∷ 160 ∷ []

-- spin-up levels, by Spin Up bits 2..4
abbrev pub levels : List ℕ
levels = 76 ∷ 89 ∷ 102 ∷ 114 ∷ 127 ∷ 140 ∷ 153 ∷ 165 ∷ []
