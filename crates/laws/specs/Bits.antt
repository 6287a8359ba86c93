-- The bits of a byte.
use Rattle.std.specs.Prelude.{ℕ, ◌/◌, ◌%◌, ◌^◌, Bool, eqb}

-- bit k of a byte is 1
abbrev pub bit : ℕ → ℕ → Bool
bit k byte = eqb (byte / 2 ^ k % 2) 1
