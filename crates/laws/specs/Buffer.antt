-- Bytes, and bytes laid over a lent buffer.
use Rattle.std.specs.Prelude.{ℕ, ◌<◌, List, ◌++◌, length, get_or, take, drop}

-- every number of the list is a byte
abbrev pub Bytes : List ℕ → Type 0
Bytes xs = (i : ℕ) → get_or xs i 0 < 256

-- the n bytes from a place on
abbrev pub bytes_at : List ℕ → ℕ → ℕ → List ℕ
bytes_at xs place n = take n (drop place xs)

-- bytes laid at the front of a buffer; what lies past them stays
abbrev pub laid_over : List ℕ → List ℕ → List ℕ
laid_over bytes buffer = bytes ++ drop (length bytes) buffer
