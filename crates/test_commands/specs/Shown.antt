-- Bytes as the programs write them.
use Rattle.std.specs.Prelude.{ℕ, ◌+◌, ◌/◌, ◌%◌, cond, ltb, List, [], ◌∷◌}
use Rattle.std.specs.List.{flat_map}

-- a hexadecimal digit, 0 to 9 and then a to f
abbrev pub hex_digit : ℕ → ℕ
hex_digit d = cond (ltb d 10) (48 + d) (87 + d)

-- a byte's two digits, the high one first
abbrev pub two_digits : ℕ → List ℕ
two_digits byte = hex_digit (byte / 16) ∷ hex_digit (byte % 16) ∷ []

-- two digits a byte, or '-' where there is no byte
abbrev pub hex_text : List ℕ → List ℕ
hex_text [] = 45 ∷ []
hex_text (byte ∷ rest) = flat_map two_digits (byte ∷ rest)
