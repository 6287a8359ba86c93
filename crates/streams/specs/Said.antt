-- What a message, or a text, leaves where it is written.
use Rattle.std.specs.Prelude.{ℕ, ◌≤◌, List, [], ◌∷◌, ◌++◌, length, take, Option}
use Rattle.std.specs.Io.KnownBytes.{Appends}

-- a colon and a space; the end of a line
abbrev pub colon : List ℕ
colon = 0x3A ∷ 0x20 ∷ []

abbrev pub line_end : List ℕ
line_end = 0x0A ∷ []

-- known bytes grow by a line: what it is about, a colon, and some words
abbrev pub SaysOf : Option (List ℕ) → Option (List ℕ) → List ℕ → Type 0
SaysOf old new what = (words : List ℕ) × Appends old new (what ++ (colon ++ (words ++ line_end)))

-- known bytes stay, and some may follow
abbrev pub Grows : Option (List ℕ) → Option (List ℕ) → Type 0
Grows old new = (text : List ℕ) × Appends old new text

-- known bytes stay, and a front of a text follows
abbrev pub Began : Option (List ℕ) → Option (List ℕ) → List ℕ → Type 0
Began old new text = (n : ℕ) × (n ≤ length text) × Appends old new (take n text)
