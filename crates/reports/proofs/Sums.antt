-- The least, the greatest and the sum of numbers: with one more behind them.
use Rattle.std.proofs.Common.{◌≡◌, ℕ, suc, ◌+◌, min, max, false, cond, eqb, List, [], ◌∷◌, ◌++◌, length, refl, arith, ne_eqb}
use Rattle.reports.specs.Figures.{least, greatest, sum}

pub least_more : (l : List ℕ) (x : ℕ) → least (l ++ (x ∷ [])) ≡ cond (eqb (length l) 0) x (min (least l) x)
unfolding least
least_more [] x = refl
least_more (n ∷ []) x = refl
least_more (n ∷ m ∷ l) x =
    let some : eqb (suc (length l)) 0 ≡ false = ne_eqb (suc (length l)) 0 (λ z. omega arith) in
    let more : eqb (suc (suc (length l))) 0 ≡ false = ne_eqb (suc (suc (length l))) 0 (λ z. omega arith) in
    rw more (omega (arith, rw some at (least_more (m ∷ l) x)))

pub greatest_more : (l : List ℕ) (x : ℕ) → greatest (l ++ (x ∷ [])) ≡ max (greatest l) x
unfolding greatest
greatest_more [] x = omega arith
greatest_more (n ∷ l) x = omega (arith, greatest_more l x)

pub sum_more : (l : List ℕ) (x : ℕ) → sum (l ++ (x ∷ [])) ≡ sum l + x
unfolding sum
sum_more [] x = omega arith
sum_more (n ∷ l) x = omega (arith, sum_more l x)
