-- What is promised of the text of a listing and of a report.
use Rattle.std.specs.Prelude.{◌≡◌, cond, List, [], ◌∷◌, ◌++◌, ℕ, ◌+◌, ◌*◌, ◌/◌, ◌%◌, ◌^◌, ◌≤◌, ◌<◌, eqb, length}
use Rattle.text.specs.Text.{digit, decimal, line_of, closing, row_of, report_end}

-- the bound of 20 digits does not matter to a number of 64 bits, as a place is: it is one digit, or the digits of its tenth part and one more
abbrev pub Decimals : Type 0
Decimals =
    (n : ℕ) → n < 2 ^ 64
    → (n < 10 → decimal n ≡ digit n ∷ []) × (10 ≤ n → decimal n ≡ decimal (n / 10) ++ (digit (n % 10) ∷ []))

-- how many lines a text has
unfoldable pub line_count : List ℕ → ℕ
line_count [] = 0
line_count (byte ∷ rest) = cond (eqb byte 0x0A) 1 0 + line_count rest

-- a record has one line; a log that ends has one more, and one that a record stops has two more; a row has one line, and so has a report's end
abbrev pub Lines : Type 0
Lines =
    ((place number : ℕ) (reply : List ℕ) → line_count (line_of place number reply) ≡ 1)
    × ((place : ℕ) → line_count (closing place 0) ≡ 1)
    × ((place number : ℕ) → (number ≡ 0 → ⊥) → line_count (closing place number) ≡ 2)
    × ((n : ℕ) (rest : List ℕ) → line_count (row_of n rest) ≡ 1)
    × ((place number : ℕ) → line_count (report_end place number) ≡ 1)

-- a text is no longer than this: a place has 20 digits at most, and a number below 1000 has three
abbrev pub TextLengths : Type 0
TextLengths =
    ((place number : ℕ) (reply : List ℕ) → length (line_of place number reply) ≤ 22 + length (decimal number) + 3 * length reply)
    × ((place number : ℕ) (reply : List ℕ) → number < 1000 → length (line_of place number reply) ≤ 25 + 3 * length reply)
    × ((place number : ℕ) → length (closing place number) ≤ 68)
    × ((n : ℕ) (rest : List ℕ) → length (row_of n rest) ≤ 21 + 21 * length rest)
    × ((place number : ℕ) → length (report_end place number) ≤ 47)
