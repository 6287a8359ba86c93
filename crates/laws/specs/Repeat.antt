-- A step taken n times.
use Rattle.std.specs.Prelude.{ℕ, zero, suc}

-- f taken n times, from x
unfoldable pub repeated : {A : Type 0} → ℕ → (A → A) → A → A
repeated zero f x = x
repeated (suc n) f x = f (repeated n f x)
