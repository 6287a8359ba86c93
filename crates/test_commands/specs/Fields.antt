-- What stands in a command's bytes.
use Rattle.std.specs.Prelude.{ℕ, ◌+◌, ◌-◌, ◌*◌, ◌^◌, cond, leb, List, slice_index}

-- a byte, 0 where there are fewer
abbrev pub byte_at : List ℕ → ℕ → ℕ
byte_at bytes k = slice_index bytes k

-- two bytes, the low one first
abbrev pub word_at : List ℕ → ℕ → ℕ
word_at bytes k = byte_at bytes k + 256 * byte_at bytes (k + 1)

-- a place or a length that a byte stands for: up to 127 itself, from 128 on counted down from the largest
abbrev pub place_of : ℕ → ℕ
place_of code = cond (leb code 127) code (2 ^ 64 - 1 - (255 - code))
