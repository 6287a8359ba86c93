-- The figures of a fan, from the list of its samples: 'the number of samples, lowest, highest and total of whole RPM', and how many have count 0.
use Rattle.std.specs.Prelude.{ℕ, ◌+◌, min, max, cond, List, [], ◌∷◌, length, ◌==◌}
use Rattle.reports.specs.declared.Figures.{Figures}

-- a sample that was taken: its count, and the configuration byte of its fan that it met
pub record Sample : Type 0 where
  pub count : ℕ
  pub configuration : ℕ

-- the least of numbers, 0 where there are none
unfoldable pub least : List ℕ → ℕ
least [] = 0
least (n ∷ []) = n
least (n ∷ m ∷ rest) = min n (least (m ∷ rest))

-- the greatest of them
unfoldable pub greatest : List ℕ → ℕ
greatest [] = 0
greatest (n ∷ rest) = max n (greatest rest)

-- their sum
unfoldable pub sum : List ℕ → ℕ
sum [] = 0
sum (n ∷ rest) = n + sum rest

-- the speeds of samples, by configuration and count; 'samples with count 0 are left out'
unfoldable pub speeds : (ℕ → ℕ → ℕ) → List Sample → List ℕ
speeds speed [] = []
speeds speed (s ∷ rest) = cond (s.count == 0) (speeds speed rest) (speed s.configuration s.count ∷ speeds speed rest)

-- 'and counted apart'
unfoldable pub zero_counts : List Sample → ℕ
zero_counts [] = 0
zero_counts (s ∷ rest) = cond (s.count == 0) 1 0 + zero_counts rest

-- the figures of a fan's samples; a fan with none shows 0 for all
unfoldable pub figures_of : (ℕ → ℕ → ℕ) → List Sample → Figures
figures_of speed samples =
    record {
      samples = length (speeds speed samples);
      lowest = least (speeds speed samples);
      highest = greatest (speeds speed samples);
      total = sum (speeds speed samples);
      zeros = zero_counts samples;
    }
