-- One zone: temperatures, limits, and what it asks of an output.
use Rattle.std.specs.Prelude.{ℕ, ◌+◌, ◌-◌, ◌*◌, ◌/◌, ◌%◌, min, Bool, not, ◌&&◌, List, [], ◌∷◌, leb, eqb, get_or}
use Rattle.emc2300_duty.specs.declared.Zone.{Zone}

-- a temperature is a signed byte, -128 to 127 degrees: how many degrees it lies above -128, which is 80h
unfoldable pub above_least : ℕ → ℕ
above_least byte = (byte + 128) % 256

-- 80h is a fault, in whichever zone
abbrev pub is_faulty : Zone → Bool
is_faulty z = eqb z.temperature 0x80

-- at or above its absolute limit, that limit not being 80h
unfoldable pub at_limit : Zone → Bool
at_limit z = not (eqb z.absolute 0x80) && leb (above_least z.absolute) (above_least z.temperature)

-- ranges in hundredths of a degree, as printed, by bits 7..4
abbrev pub ranges : List ℕ
ranges =
    200 ∷ 250 ∷ 333 ∷ 400 ∷ 500 ∷ 667 ∷ 800 ∷ 1000 ∷ 1333 ∷ 1600 ∷ 2000 ∷ 2667 ∷ 3200 ∷ 4000 ∷ 5333 ∷ 8000 ∷ []

-- the zone's range R
abbrev pub range_of : Zone → ℕ
range_of z = get_or ranges (z.configuration / 16) 0

-- T - L in hundredths of a degree; 0 where T is at or below L
abbrev pub rise : Zone → ℕ
rise z = 100 * (above_least z.temperature - above_least z.low)

-- what a zone asks of an output with minimum M: M + (255 - M) x min(100 (T - L), R) / R, whole part
unfoldable pub zone_asks : ℕ → Zone → ℕ
zone_asks minimum z = minimum + (255 - minimum) * min (rise z) (range_of z) / range_of z
