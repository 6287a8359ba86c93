-- A table's rule, from a test that computes.
use mathlib.Core.Path.{◌≡◌}
use mathlib.Core.Bool.{Bool, true, ◌&&◌}
use mathlib.Core.List.{List, [], ◌∷◌}
use Prim.Native.Nat.{ℕ, zero, suc, ◌<◌}
use native.Mathlib.Nat.{le_of_suc-le-suc, not-suc-le-zero}
use lib.ListN.{length, get_or}
use Rattle.laws.proofs.Tests.{and_left, and_right}

-- the test holds of each place and its entry
abbrev pub every : (ℕ → ℕ → Bool) → List ℕ → Bool
every test [] = true
every test (x ∷ xs) = test 0 x && every (λ (i : ℕ). test (suc i)) xs

-- a test that holds over the whole list holds at each entry
pub entry : (test : ℕ → ℕ → Bool) (xs : List ℕ) → every test xs ≡ true → (i : ℕ) → i < length xs → test i (get_or xs i 0) ≡ true
entry test [] e i h = absurd (not-suc-le-zero h)
entry test (x ∷ xs) e zero h = and_left (test 0 x) (every (λ (i : ℕ). test (suc i)) xs) e
entry test (x ∷ xs) e (suc i) h =
    entry (λ (k : ℕ). test (suc k)) xs (and_right (test 0 x) (every (λ (k : ℕ). test (suc k)) xs) e) i (le_of_suc-le-suc h)
