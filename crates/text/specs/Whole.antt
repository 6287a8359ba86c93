-- A text laid whole at the front of a buffer, or not at all.
use Rattle.std.specs.Prelude.{ℕ, cond, List, leb, length, Option, Some, None}
use Rattle.laws.specs.Buffer.{laid_over}

-- the buffer afterwards: the text laid at its front where it fits, else as it was
abbrev pub laid_whole : List ℕ → List ℕ → List ℕ
laid_whole text out = cond (leb (length text) (length out)) (laid_over text out) out

-- what is said of it: its length where it fits a buffer of so many bytes, and nothing where it does not
abbrev pub piece_of : List ℕ → ℕ → Option ℕ
piece_of text room = cond (leb (length text) room) (Some (length text)) None
