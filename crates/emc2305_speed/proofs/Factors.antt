-- The factors of the formula, and the bounds of their product.
use mathlib.Core.Path.{◌≡◌, refl}
use mathlib.Core.Bool.{true}
use mathlib.Core.List.{[], ◌∷◌}
use Prim.Native.Nat.{ℕ, ◌-◌, ◌*◌, ◌/◌, ◌%◌, ◌≤◌}
use native.Mathlib.Omega.{arith}
use native.Mathlib.Nat.{mul-le-mul, div-le_self}
use lib.Dec.{leb}
use borrow.Author.Tests.{leb-true}
use Rattle.laws.proofs.Tables.{entry}
use Rattle.laws.proofs.Tests.{and_left, and_right}
use Rattle.emc2305_speed.specs.Speed.{poles_right, multiplier, edges, rpm}

module _ (configuration : ℕ) where
  edges_least : 3 ≤ edges configuration
  edges_least = leb-true 3 (edges configuration) (entry (λ (k x : ℕ). leb 3 x) (3 ∷ 5 ∷ 7 ∷ 9 ∷ []) refl (configuration / 8 % 4) (omega arith))

  edges_most : edges configuration ≤ 9
  edges_most = leb-true (edges configuration) 9 (entry (λ (k x : ℕ). leb x 9) (3 ∷ 5 ∷ 7 ∷ 9 ∷ []) refl (configuration / 8 % 4) (omega arith))

  multiplier_least : 1 ≤ multiplier configuration
  multiplier_least = leb-true 1 (multiplier configuration) (entry (λ (k x : ℕ). leb 1 x) (1 ∷ 2 ∷ 4 ∷ 8 ∷ []) refl (configuration / 32 % 4) (omega arith))

  multiplier_most : multiplier configuration ≤ 8
  multiplier_most = leb-true (multiplier configuration) 8 (entry (λ (k x : ℕ). leb x 8) (1 ∷ 2 ∷ 4 ∷ 8 ∷ []) refl (configuration / 32 % 4) (omega arith))

  pub some_edges : (1 ≤ edges configuration) × (60 * 32768 * (edges configuration - 1) ≤ 15728640)
  some_edges = (omega (arith, edges_least), omega (arith, edges_most))

  -- what is divided
  abbrev pub clocks : ℕ
  clocks = 60 * 32768 * (edges configuration - 1) * multiplier configuration

  pub clocks_least : 3932160 ≤ clocks
  clocks_least =
      let e : 3932160 ≤ 60 * 32768 * (edges configuration - 1) = omega (arith, edges_least) in
      let h : 3932160 * 1 ≤ clocks = mul-le-mul e multiplier_least in
      omega (arith, h)

  pub clocks_most : clocks ≤ 125829120
  clocks_most =
      let h : clocks ≤ 15728640 * 8 = mul-le-mul some_edges.1 multiplier_most in
      omega (arith, h)

-- no speed is greater, whatever it is divided by
pub rpm_most : (poles configuration count : ℕ) → rpm poles configuration count ≤ 125829120
unfolding rpm
rpm_most poles configuration count = omega (arith, clocks_most configuration, div-le_self (clocks configuration) (poles * count))

-- poles in range
pub poles_range : (poles : ℕ) → poles_right poles ≡ true → (1 ≤ poles) × (poles ≤ 4)
poles_range poles e =
    (leb-true 1 poles (and_left (leb 1 poles) (leb poles 4) e), leb-true poles 4 (and_right (leb 1 poles) (leb poles 4) e))
