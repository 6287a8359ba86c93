-- Lists of which the first entries are changed.
use Rattle.std.specs.Prelude.{List, [], ◌∷◌, ℕ, zero, suc}

-- the first n entries moved, the others as they were
abbrev pub first_moved : {A : Type 0} → ℕ → (A → A) → List A → List A
first_moved zero move l = l
first_moved (suc n) move [] = []
first_moved (suc n) move (x ∷ xs) = move x ∷ first_moved n move xs
