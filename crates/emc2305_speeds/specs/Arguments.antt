-- The poles that the program's argument says: it is one of the texts 1, 2, 3 and 4, and has nothing else in it.
use Rattle.std.specs.Prelude.{ℕ, cond, List, eqb, length, get_or, Option, None, Some}

-- by a byte: 31h is `1`
abbrev pub poles_by : ℕ → ℕ
poles_by byte = cond (eqb byte 0x31) 1 (cond (eqb byte 0x32) 2 (cond (eqb byte 0x33) 3 (cond (eqb byte 0x34) 4 0)))

-- by a text, which is that one byte; 0 where it is none of the four
abbrev pub poles_of : List ℕ → ℕ
poles_of text = cond (eqb (length text) 1) (poles_by (get_or text 0 0)) 0

-- what the code's value says, 0 for none
abbrev pub poles_in : Option ℕ → ℕ
poles_in None = 0
poles_in (Some poles) = poles
