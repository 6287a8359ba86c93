-- Laws on quotient and remainder.
use mathlib.Core.Path.{◌≡◌, ap, ◌∙◌}
use mathlib.Core.Logic.{◌↔◌}
use Prim.Native.Nat.{ℕ, zero, suc, ◌+◌, ◌-◌, ◌*◌, ◌/◌, ◌%◌, ◌^◌, ◌≤◌, ◌<◌}
use native.Mathlib.Omega.{arith}
use native.Mathlib.Nat.{add_assoc, suc-mul, two-pow-succ, one-le-pow, div-add-mod', div-lt_iff_lt-mul, add-div_right, div-eq_of_lt}
use native.Mathlib.Numerals.{add-one}
use lib.Arith.{digits_div, digits_mod}
use lib.Dec.{eqb}
use borrow.Author.Tests.{eqb-true, eqb-false}
use Rattle.laws.proofs.Tests.{by_test}

-- a number's quotient and remainder, by any way to write it with a rest below the divisor
divided : (m q u r : ℕ) → r < u → m ≡ q * u + r → (m / u ≡ q) × (m % u ≡ r)
divided m q u r h e = (ap (λ (x : ℕ). x / u) e ∙ digits_div q h, ap (λ (x : ℕ). x % u) e ∙ digits_mod q h)

-- one more, while the remainder stays below the divisor
pub one_more : (m u : ℕ) → m % u + 1 < u → ((m + 1) / u ≡ m / u) × ((m + 1) % u ≡ m % u + 1)
one_more m u h = divided (m + 1) (m / u) u (m % u + 1) h (omega (arith, div-add-mod' m u))

-- one more, where the remainder comes to the divisor
pub one_round : (m u : ℕ) → m % u + 1 ≡ u → ((m + 1) / u ≡ m / u + 1) × ((m + 1) % u ≡ 0)
one_round m u h =
    divided (m + 1) (m / u + 1) u 0 (omega arith) (rw (add-one (m / u), suc-mul (m / u) u) (omega (arith, div-add-mod' m u)))

-- a quotient that is rounded up is at most n where n times the divisor is enough
pub rounded_up : (m u n : ℕ) → 1 ≤ u → (m + (u - 1)) / u ≤ n ↔ m ≤ n * u
rounded_up m u n h =
    let p = suc-mul n u in
    let b : (m + (u - 1)) / u < suc n ↔ m + (u - 1) < suc n * u = div-lt_iff_lt-mul h in (
      λ e. let l : m + (u - 1) < suc n * u = b.0 (omega arith) in omega arith,
      λ e. let l : (m + (u - 1)) / u < suc n = b.1 (omega arith) in omega arith,
    )

two_pow_some : (n : ℕ) → 0 < 2 ^ n
two_pow_some n = one-le-pow n 2 (omega arith)

-- a power of two that is added leaves the bits below its own
pub bit_below : (b i n : ℕ) → i < n → (b + 2 ^ n) / 2 ^ i % 2 ≡ b / 2 ^ i % 2
bit_below b i zero h = absurd (omega arith)
bit_below b i (suc n) h =
    rw (two-pow-succ n, ← add_assoc b (2 ^ n) (2 ^ n))
    (by_test (eqb i n)
    (λ t. rw (eqb-true i n t, add-div_right (b + 2 ^ n) (two_pow_some n), add-div_right b (two_pow_some n)) (omega arith))
    (λ f. let l : i < n = omega (arith, eqb-false i n f) in bit_below (b + 2 ^ n) i n l ∙ bit_below b i n l))

-- and sets its own, in a number below it
pub bit_own : (b n : ℕ) → b < 2 ^ n → (b + 2 ^ n) / 2 ^ n % 2 ≡ 1
bit_own b n h = rw (add-div_right b (two_pow_some n), div-eq_of_lt h)
