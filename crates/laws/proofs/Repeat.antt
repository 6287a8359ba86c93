-- Laws on a step taken n times.
use mathlib.Core.Path.{◌≡◌, refl, sym, ap, ◌∙◌}
use Prim.Native.Nat.{ℕ, zero, suc, ◌+◌, ◌-◌, ◌≤◌}
use native.Mathlib.Omega.{arith}
use native.Mathlib.Nat.{add-zero, add-suc}
use native.Mathlib.Numerals.{add-one}
use Rattle.laws.specs.Repeat.{repeated}

-- the last step, where there is one
pub last_step : {A : Type 0} (n : ℕ) (f : A → A) (x : A) → 1 ≤ n → repeated n f x ≡ f (repeated (n - 1) f x)
unfolding repeated
last_step zero f x h = absurd (omega arith)
last_step (suc n) f x h = let e : n ≡ suc n - 1 = omega arith in ap (λ (k : ℕ). f (repeated k f x)) e

-- m + n steps are m, then n
pub repeated_add : {A : Type 0} (m n : ℕ) (f : A → A) (x : A) → repeated (m + n) f x ≡ repeated n f (repeated m f x)
unfolding repeated
repeated_add m zero f x = rw (add-zero m)
repeated_add m (suc n) f x = rw (add-suc m n) (ap f (repeated_add m n f x))

-- of n steps the first m, then the rest
pub first_steps : {A : Type 0} (m n : ℕ) (f : A → A) (x : A) → m ≤ n → repeated (n - m) f (repeated m f x) ≡ repeated n f x
first_steps m n f x h =
    let e : m + (n - m) ≡ n = omega arith in sym (repeated_add m (n - m) f x) ∙ ap (λ (k : ℕ). repeated k f x) e

-- the first of n steps, then the rest
pub first_step : {A : Type 0} (n : ℕ) (f : A → A) (x y : A) → 1 ≤ n → y ≡ f x → repeated (n - 1) f y ≡ repeated n f x
unfolding repeated
first_step n f x y h e = ap (repeated (n - 1) f) e ∙ first_steps 1 n f x h

-- what each step keeps, n steps keep
pub repeated_keeps : {A B : Type 0} (v : A → B) (n : ℕ) (f : A → A) (x : A) → ((y : A) → v (f y) ≡ v y) → v (repeated n f x) ≡ v x
unfolding repeated
repeated_keeps v zero f x keep = refl
repeated_keeps v (suc n) f x keep = keep (repeated n f x) ∙ repeated_keeps v n f x keep

-- one step more, where i were taken
pub once_more : {A : Type 0} (f : A → A) (i : ℕ) (x now next : A) → now ≡ repeated i f x → next ≡ f now → next ≡ repeated (i + 1) f x
unfolding repeated
once_more f i x now next e h = rw (h, e, add-one i) refl

-- steps that are the same at each place are the same n times
pub repeated_same : {A : Type 0} (n : ℕ) (f g : A → A) (x : A) → ((y : A) → f y ≡ g y) → repeated n f x ≡ repeated n g x
unfolding repeated
repeated_same zero f g x same = refl
repeated_same (suc n) f g x same = same (repeated n f x) ∙ ap g (repeated_same n f g x same)

-- where a step seen through a view is another step, n steps seen through it are n of the other
pub repeated_through : {A B : Type 0} (view : A → B) (n : ℕ) (f : A → A) (g : B → B) (x : A) → ((y : A) → g (view y) ≡ view (f y))
    → repeated n g (view x) ≡ view (repeated n f x)
unfolding repeated
repeated_through view zero f g x each = refl
repeated_through view (suc n) f g x each = ap g (repeated_through view n f g x each) ∙ each (repeated n f x)
