-- Laws on tests that compute.
use mathlib.Core.Path.{◌≡◌, refl, sym, ◌∙◌}
use mathlib.Core.Bool.{Bool, true, false, ◌&&◌, ◌||◌, false≢true, true≢false}
use Prim.Native.Nat.{ℕ, ◌+◌, ◌-◌, ◌≤◌, ◌<◌}
use native.Mathlib.Omega.{arith}
use lib.Dec.{leb}
use borrow.Author.Tests.{leb-true, leb-false, le-leb}

-- a test is true or false, with the equation
pub by_test {ℓ} : {X : Type ℓ} (t : Bool) → (t ≡ true → X) → (t ≡ false → X) → X
by_test true f g = f refl
by_test false f g = g refl

-- two orders that hold together have the same test
pub leb_same : (a b c d : ℕ) → (a ≤ b → c ≤ d) → (c ≤ d → a ≤ b) → leb a b ≡ leb c d
leb_same a b c d there back =
    by_test (leb a b) (λ e. e ∙ sym (le-leb c d (there (leb-true a b e))))
    (λ e.
    by_test (leb c d) (λ f. absurd (let h : a ≤ b = back (leb-true c d f) in let g : b < a = leb-false a b e in omega arith))
    (λ f. e ∙ sym f))

-- n fits behind p where p and n together fit
pub leb_behind : (p n l : ℕ) → p ≤ l → leb n (l - p) ≡ leb (p + n) l
leb_behind p n l h = leb_same n (l - p) (p + n) l (λ e. omega arith) (λ e. omega arith)

-- both halves of a conjunction that holds
pub and_left : (a b : Bool) → a && b ≡ true → a ≡ true
and_left true b e = refl
and_left false b e = absurd (false≢true e)

pub and_right : (a b : Bool) → a && b ≡ true → b ≡ true
and_right true b e = e
and_right false b e = absurd (false≢true e)

-- both halves of a disjunction that fails
pub or_left : (a b : Bool) → a || b ≡ false → a ≡ false
or_left true b e = e
or_left false b e = refl

pub or_right : (a b : Bool) → a || b ≡ false → b ≡ false
or_right true b e = absurd (true≢false e)
or_right false b e = e

-- a disjunction holds where its second half does
pub or_true : (a b : Bool) → b ≡ true → a || b ≡ true
or_true true b e = refl
or_true false b e = e
