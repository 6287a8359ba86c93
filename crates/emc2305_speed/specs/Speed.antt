-- The speed of a fan by one tach sample: 'RPM is 60 x 32768 x (edges - 1) x m / (poles x count), rounded down'.
use Rattle.std.specs.Prelude.{ℕ, ◌-◌, ◌*◌, ◌/◌, ◌%◌, Bool, cond, ◌&&◌, [], ◌∷◌, leb, eqb, get_or}

-- poles 1 to 4
abbrev pub poles_right : ℕ → Bool
poles_right poles = leb 1 poles && leb poles 4

-- m = 1, 2, 4, 8 by bits 5..6 of Configuration 1
abbrev pub multiplier : ℕ → ℕ
multiplier configuration = get_or (1 ∷ 2 ∷ 4 ∷ 8 ∷ []) (configuration / 32 % 4) 0

-- edges 3, 5, 7, 9 by bits 3..4
abbrev pub edges : ℕ → ℕ
edges configuration = get_or (3 ∷ 5 ∷ 7 ∷ 9 ∷ []) (configuration / 8 % 4) 0

-- the RPM of a sample that meets a Configuration 1 byte: the sample's own count, one division
unfoldable pub rpm : ℕ → ℕ → ℕ → ℕ
rpm poles configuration count = 60 * 32768 * (edges configuration - 1) * multiplier configuration / (poles * count)

-- what is answered for any numbers: 0 for poles out of range, and for count 0, which has no speed
abbrev pub rpm_shown : ℕ → ℕ → ℕ → ℕ
rpm_shown poles configuration count = cond (poles_right poles && leb 1 count) (rpm poles configuration count) 0

-- the plain two-pole, five-edge, m = 2 case by the reading's high byte, for 1 to 255: 7864320 / (32 x byte) rounded down; byte 0 answers 0
abbrev pub rpm_by_high_byte : ℕ → ℕ
rpm_by_high_byte byte = cond (eqb byte 0) 0 (7864320 / (32 * byte))
