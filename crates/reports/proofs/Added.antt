-- The figures of a fan's samples with one more are those with it added.
use Rattle.std.proofs.Common.{◌≡◌, ℕ, ◌+◌, ◌*◌, ◌^◌, ◌<◌, ◌≤◌, true, false, cond, eqb, leb, List, [], ◌∷◌, ◌++◌, length, refl, ap, add-zero, mod-eq_of_lt, arith, length-append}
use borrow.Author.Tests.{lt-leb}
use Rattle.laws.proofs.Tests.{by_test}
use Rattle.reports.specs.Figures.{Sample, sum, speeds, zero_counts, figures_of}
use Rattle.reports.specs.Report.{limit}
use Rattle.reports.specs.Adding.{is_full, with_sample}
use Rattle.reports.proofs.Sums.{least_more, greatest_more, sum_more}

module _ (speed : ℕ → ℕ → ℕ) where
  -- with a sample more
  speeds_zero : (l : List Sample) (s : Sample) → eqb s.count 0 ≡ true → speeds speed (l ++ (s ∷ [])) ≡ speeds speed l
  unfolding speeds
  speeds_zero [] s z = rw z
  speeds_zero (x ∷ l) s z = rw (speeds_zero l s z)

  speeds_more : (l : List Sample) (s : Sample) → eqb s.count 0 ≡ false
      → speeds speed (l ++ (s ∷ [])) ≡ speeds speed l ++ (speed s.configuration s.count ∷ [])
  unfolding speeds
  speeds_more [] s z = rw z
  speeds_more (x ∷ l) s z =
      by_test (eqb x.count 0) (λ y. rw y (speeds_more l s z)) (λ n. rw (n, speeds_more l s z))

  zeros_more : (l : List Sample) (s : Sample) → zero_counts (l ++ (s ∷ [])) ≡ zero_counts l + cond (eqb s.count 0) 1 0
  unfolding zero_counts
  zeros_more [] s = omega arith
  zeros_more (x ∷ l) s = omega (arith, zeros_more l s)

  -- each sample has a speed or count 0
  pub both : (l : List Sample) → length (speeds speed l) + zero_counts l ≡ length l
  unfolding speeds zero_counts
  both [] = refl
  both (x ∷ l) = by_test (eqb x.count 0) (λ y. rw y (omega (arith, both l))) (λ n. rw n (omega (arith, both l)))

  -- so a fan is full when it has as many as the limit
  pub full_is : (l : List Sample) → is_full (figures_of speed l) ≡ leb limit (length l)
  unfolding figures_of
  full_is l = ap (leb limit) (both l)

  -- speeds of 32 bits
  module _ (fits : (configuration count : ℕ) → speed configuration count < 2 ^ 32) where
    pub sum_fits : (l : List Sample) → sum (speeds speed l) ≤ 2 ^ 32 * length l
    unfolding speeds sum
    sum_fits [] = omega arith
    sum_fits (x ∷ l) =
        by_test (eqb x.count 0) (λ y. rw y (omega (arith, sum_fits l)))
        (λ n. rw n (omega (arith, sum_fits l, fits x.configuration x.count)))

    pub figures_more : (l : List Sample) (s : Sample) → length l < limit
        → figures_of speed (l ++ (s ∷ [])) ≡ with_sample s.count (speed s.configuration s.count) (figures_of speed l)
    unfolding figures_of with_sample
    figures_more l s h =
        let rpm : ℕ = speed s.configuration s.count in
        let free : leb limit (length (speeds speed l) + zero_counts l) ≡ false = rw (both l) (lt-leb limit (length l) h) in
        let small : sum (speeds speed l) + rpm < 2 ^ 64 = omega (arith, sum_fits l, fits s.configuration s.count, h) in
        rw (free, zeros_more l s)
        (by_test (eqb s.count 0) (λ y. rw (y, speeds_zero l s y) refl)
        (λ n.
        rw (
          n,
          speeds_more l s n,
          length-append (speeds speed l) (rpm ∷ []),
          least_more (speeds speed l) rpm,
          greatest_more (speeds speed l) rpm,
          sum_more (speeds speed l) rpm,
          mod-eq_of_lt small,
          add-zero (zero_counts l),
        )
        refl))
