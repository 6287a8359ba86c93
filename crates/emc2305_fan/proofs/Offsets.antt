-- What an offset shows and whether it stores, one law for each way.
use mathlib.Core.Path.{◌≡◌}
use mathlib.Core.Bool.{true, false, not, ◌&&◌}
use Prim.Native.Nat.{ℕ, ◌≤◌, ◌<◌}
use native.Mathlib.Omega.{arith}
use lib.Dec.{leb, eqb}
use borrow.Author.Tests.{le-leb, lt-leb, ne_eqb, leb-true}
use Rattle.laws.proofs.Tests.{by_test, and_left, and_right}
use Rattle.emc2305_fan.specs.declared.Fan.{Fan}
use Rattle.emc2305_fan.specs.Registers.{byte_at, shown, writable, closed_loop, stores}

-- a defined offset but Setting shows its byte
pub shows_byte : (f : Fan) (o : ℕ) → (o ≡ 0 → ⊥) → (o ≡ 4 → ⊥) → o < 16 → byte_at o f ≡ shown f o
unfolding shown
shows_byte f o zero four h = simp (ne_eqb o 4 four, lt-leb 16 o h, ne_eqb o 0 zero)

-- a write to 4 is not stored
pub stores_hole : (f : Fan) (o : ℕ) → o ≡ 4 → false ≡ stores f o
unfolding stores
stores_hole f o e = rw e

-- nor what is past D
pub stores_none : (f : Fan) (o : ℕ) → 14 ≤ o → false ≡ stores f o
unfolding stores
stores_none f o h = simp (lt-leb o 3 (omega arith), le-leb 5 o (omega arith), lt-leb o 13 (omega arith))

-- a write that is stored is to one of the 16 registers
pub stores_within : (f : Fan) (o : ℕ) → stores f o ≡ true → o < 16
unfolding stores
stores_within f o e =
    let w : writable o ≡ true = and_left (writable o) (not (eqb o 0 && closed_loop f)) e in
    by_test (leb o 3) (λ t. omega (arith, leb-true o 3 t))
    (λ t. omega (arith, leb-true o 13 (and_right (leb 5 o) (leb o 13) (rw t at w))))
