-- Laws on lists whose entries are changed one by one.
use mathlib.Core.Path.{◌≡◌, refl, sym, ap, ◌∙◌}
use mathlib.Core.List.{List, [], ◌∷◌}
use Prim.Native.Nat.{ℕ, zero, suc, ◌+◌, ◌≤◌, ◌<◌}
use native.Mathlib.Nat.{le_of_suc-le-suc, not-suc-le-zero}
use native.Mathlib.Omega.{arith}
use native.Mathlib.Numerals.{add-one}
use lib.ListN.{length, get_or, set, get_or-map}
use lib.Seq.{map-set_same}
use Rattle.laws.specs.Lists.{first_moved}

-- one more: the entry at n is moved and set
next_set : {A : Type 0} (n : ℕ) (move : A → A) (l : List A) (other : A) → n < length l
    → set (first_moved n move l) n (move (get_or (first_moved n move l) n other)) ≡ first_moved (suc n) move l
next_set n move [] other h = absurd (not-suc-le-zero h)
next_set zero move (x ∷ xs) other h = refl
next_set (suc n) move (x ∷ xs) other h = ap (λ (l : List _). move x ∷ l) (next_set n move xs other (le_of_suc-le-suc h))

pub moved_next : {A : Type 0} (n : ℕ) (move : A → A) (l now : List A) (other x : A) → now ≡ first_moved n move l → x ≡ move (get_or now n other) → n < length l
    → set now n x ≡ first_moved (n + 1) move l
moved_next n move l now other x e f h = rw (f, e, add-one n) (next_set n move l other h)

module _ {A : Type 0} where
  -- each of the first n is the one that was there, moved
  pub moved_at : (n : ℕ) (f : A → A) (l : List A) (i : ℕ) (d : A) → i < n → i < length l → get_or (first_moved n f l) i d ≡ f (get_or l i d)
  moved_at zero f l i d h k = absurd (not-suc-le-zero h)
  moved_at (suc n) f [] i d h k = absurd (not-suc-le-zero k)
  moved_at (suc n) f (x ∷ l) zero d h k = refl
  moved_at (suc n) f (x ∷ l) (suc i) d h k = moved_at n f l i d (le_of_suc-le-suc h) (le_of_suc-le-suc k)

  -- also past the list's end, where the move leaves what stands there
  pub moved_all : (n : ℕ) (f : A → A) (l : List A) (i : ℕ) (d : A) → i < n → f d ≡ d → get_or (first_moved n f l) i d ≡ f (get_or l i d)
  moved_all zero f l i d h e = absurd (not-suc-le-zero h)
  moved_all (suc n) f [] i d h e = sym e
  moved_all (suc n) f (x ∷ l) zero d h e = refl
  moved_all (suc n) f (x ∷ l) (suc i) d h e = moved_all n f l i d (le_of_suc-le-suc h) e

  -- and each past them as it was
  pub moved_past : (n : ℕ) (f : A → A) (l : List A) (i : ℕ) (d : A) → n ≤ i → get_or (first_moved n f l) i d ≡ get_or l i d
  moved_past zero f l i d h = refl
  moved_past (suc n) f [] i d h = refl
  moved_past (suc n) f (x ∷ l) zero d h = absurd (not-suc-le-zero h)
  moved_past (suc n) f (x ∷ l) (suc i) d h = moved_past n f l i d (le_of_suc-le-suc h)

  -- as many entries as before
  pub length_moved : (n : ℕ) (f : A → A) (l : List A) → length (first_moved n f l) ≡ length l
  length_moved zero f l = refl
  length_moved (suc n) f [] = refl
  length_moved (suc n) f (x ∷ l) = ap suc (length_moved n f l)

  -- of no entries none is moved
  pub moved_none : (n : ℕ) (f : A → A) → first_moved n f [] ≡ []
  moved_none zero f = refl
  moved_none (suc n) f = refl

  -- a move that leaves each of the first n leaves the list
  pub moved_still : (n : ℕ) (f : A → A) (l : List A) (d : A) → ((i : ℕ) → i < n → i < length l → f (get_or l i d) ≡ get_or l i d) → first_moved n f l ≡ l
  moved_still zero f l d still = refl
  moved_still (suc n) f [] d still = refl
  moved_still (suc n) f (x ∷ l) d still =
      rw (still 0 (omega arith) (omega arith)) (ap (λ (r : List A). x ∷ r) (moved_still n f l d (λ i h k. still (suc i) (omega arith) (omega arith))))

  -- one move after another is the two together
  pub moved_moved : (n : ℕ) (f g : A → A) (l : List A) → first_moved n f (first_moved n g l) ≡ first_moved n (λ (x : A). f (g x)) l
  moved_moved zero f g l = refl
  moved_moved (suc n) f g [] = refl
  moved_moved (suc n) f g (x ∷ l) = ap (λ (r : List A). f (g x) ∷ r) (moved_moved n f g l)

  -- what the move keeps of an element, in the list and past its end
  pub moved_keeps : {B : Type 0} (v : A → B) (n : ℕ) (f : A → A) → ((x : A) → v (f x) ≡ v x) → (l : List A) (i : ℕ) (d : A)
      → v (get_or (first_moved n f l) i d) ≡ v (get_or l i d)
  moved_keeps v zero f keep l i d = refl
  moved_keeps v (suc n) f keep [] i d = refl
  moved_keeps v (suc n) f keep (x ∷ l) zero d = keep x
  moved_keeps v (suc n) f keep (x ∷ l) (suc i) d = moved_keeps v n f keep l i d

  -- what a change of one element keeps, of any
  pub set_keeps : {B : Type 0} (v : A → B) (l : List A) (k : ℕ) (y : A) (i : ℕ) (d : A) → v y ≡ v (get_or l k d)
      → v (get_or (set l k y) i d) ≡ v (get_or l i d)
  set_keeps v l k y i d e =
      sym (get_or-map v (set l k y) i d) ∙ rw (map-set_same v l k y d e) (get_or-map v l i d)
