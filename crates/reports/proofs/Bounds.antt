-- The least, the greatest and the sum of numbers, and a fan's figures, within their bounds (specs/Promises.antt).
use Rattle.std.proofs.Common.{◌≡◌, ℕ, zero, suc, ◌*◌, ◌^◌, ◌<◌, ◌≤◌, eqb, leb, List, [], ◌∷◌, length, get_or, sym, refl, ◌∙◌, le_of_suc-le-suc, not-suc-le-zero, suc-mul, arith, leb-false, leb-true}
use Rattle.laws.proofs.Tests.{by_test}
use Rattle.reports.specs.Figures.{Sample, least, greatest, sum, speeds, figures_of}
use Rattle.reports.specs.Promises.{Extremes, FiguresRule}
use Rattle.reports.proofs.Added.{both}

between : (l : List ℕ) (i : ℕ) → i < length l → (least l ≤ get_or l i 0) × (get_or l i 0 ≤ greatest l)
unfolding least greatest
between [] i h = absurd (not-suc-le-zero h)
between (n ∷ []) zero h = (omega arith, omega arith)
between (n ∷ []) (suc i) h = absurd (not-suc-le-zero (le_of_suc-le-suc h))
between (n ∷ m ∷ l) zero h = (omega arith, omega arith)
between (n ∷ m ∷ l) (suc i) h = let b = between (m ∷ l) i (le_of_suc-le-suc h) in (omega (arith, b), omega (arith, b))

least_there : (n : ℕ) (l : List ℕ) → (i : ℕ) × (i < suc (length l)) × (get_or (n ∷ l) i 0 ≡ least (n ∷ l))
unfolding least
least_there n [] = (0, omega arith, refl)
least_there n (m ∷ l) =
    let r = least_there m l in
    by_test (leb n (least (m ∷ l))) (λ y. (0, omega arith, omega (arith, leb-true n (least (m ∷ l)) y)))
    (λ f. (suc r.0, omega (arith, r.1), r.2 ∙ omega (arith, leb-false n (least (m ∷ l)) f)))

greatest_there : (n : ℕ) (l : List ℕ) → (i : ℕ) × (i < suc (length l)) × (get_or (n ∷ l) i 0 ≡ greatest (n ∷ l))
unfolding greatest
greatest_there n [] = (0, omega arith, omega arith)
greatest_there n (m ∷ l) =
    let r = greatest_there m l in
    by_test (leb (greatest (m ∷ l)) n) (λ y. (0, omega arith, omega (arith, leb-true (greatest (m ∷ l)) n y)))
    (λ f. (suc r.0, omega (arith, r.1), r.2 ∙ omega (arith, leb-false (greatest (m ∷ l)) n f)))

-- as many times a number that none is below, and that none is above
sum_least : (l : List ℕ) (x : ℕ) → ((i : ℕ) → i < length l → x ≤ get_or l i 0) → length l * x ≤ sum l
unfolding sum
sum_least [] x h = omega arith
sum_least (n ∷ l) x h =
    rw (suc-mul (length l) x) (omega (arith, sum_least l x (λ i k. h (suc i) (omega arith)), h 0 (omega arith)))

sum_greatest : (l : List ℕ) (x : ℕ) → ((i : ℕ) → i < length l → get_or l i 0 ≤ x) → sum l ≤ length l * x
unfolding sum
sum_greatest [] x h = omega arith
sum_greatest (n ∷ l) x h =
    rw (suc-mul (length l) x) (omega (arith, sum_greatest l x (λ i k. h (suc i) (omega arith)), h 0 (omega arith)))

some_there : (l : List ℕ) → 0 < length l
    → ((i : ℕ) × (i < length l) × (get_or l i 0 ≡ least l)) × ((k : ℕ) × (k < length l) × (get_or l k 0 ≡ greatest l))
some_there [] h = absurd (not-suc-le-zero h)
some_there (n ∷ l) h = (least_there n l, greatest_there n l)

pub extremes : Extremes
extremes l =
    (between l, some_there l, sum_least l (least l) (λ i h. (between l i h).0), sum_greatest l (greatest l) (λ i h. (between l i h).1))

pub figures_rule : FiguresRule
unfolding figures_of
figures_rule speed samples =
    let e = extremes (speeds speed samples) in
    (both speed samples, e.2, e.3)

-- where every speed has 32 bits, so has each of the list
first_or : (n : ℕ) (l : List ℕ) → n < 2 ^ 32 → ((i : ℕ) → get_or l i 0 < 2 ^ 32) → (i : ℕ) → get_or (n ∷ l) i 0 < 2 ^ 32
first_or n l h others zero = h
first_or n l h others (suc i) = others i

pub fits_there : (speed : ℕ → ℕ → ℕ) → ((configuration count : ℕ) → speed configuration count < 2 ^ 32) → (samples : List Sample) (i : ℕ)
    → get_or (speeds speed samples) i 0 < 2 ^ 32
unfolding speeds
fits_there speed fits [] i = omega arith
fits_there speed fits (s ∷ rest) i =
    by_test (eqb s.count 0) (λ y. rw y (fits_there speed fits rest i))
    (λ n. rw n (first_or (speed s.configuration s.count) (speeds speed rest) (fits s.configuration s.count) (fits_there speed fits rest) i))

-- and so have the least and the greatest
pub extremes_fit : (l : List ℕ) → ((i : ℕ) → get_or l i 0 < 2 ^ 32) → (least l < 2 ^ 32) × (greatest l < 2 ^ 32)
unfolding least greatest
extremes_fit [] h = (omega arith, omega arith)
extremes_fit (n ∷ l) h =
    let low = least_there n l in
    let high = greatest_there n l in
    (rw (sym low.2) (h low.0), rw (sym high.2) (h high.0))
