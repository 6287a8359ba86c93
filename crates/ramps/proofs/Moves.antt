-- Updates, over plain numbers.
use mathlib.Core.Path.{◌≡◌, sym}
use mathlib.Core.Logic.Iff
use mathlib.Core.Logic.{◌↔◌}
use Prim.Native.Nat.{ℕ, zero, suc, ◌+◌, ◌-◌, ◌*◌, min, max, ◌≤◌, ◌<◌}
use native.Mathlib.Omega.{arith}
use native.Mathlib.Nat.{suc-mul, zero-mul}
use lib.Dec.{leb}
use borrow.Author.Tests.{le-leb, leb-true, leb-false}
use Rattle.laws.specs.Repeat.{repeated}
use Rattle.laws.proofs.Divide.{rounded_up}
use Rattle.laws.proofs.Tests.{by_test}
use Rattle.ramps.specs.Ramp.{distance, moved}
use Rattle.ramps.specs.Promises.{OneUpdate, Updates, Arrives}

-- the goal is above, or below
by_way {ℓ} : {X : Type ℓ} (d g : ℕ) → (d ≤ g → X) → (g ≤ d → X) → X
by_way d g above below =
    by_test (leb d g) (λ t. above (leb-true d g t)) (λ f. below (let h : g < d = leb-false d g f in omega arith))

-- the distance to a goal below
fall : (d g : ℕ) → g ≤ d → distance d g ≡ d - g
fall d g h = omega arith

-- a move up, and a move down
pub up : (d g n : ℕ) → d ≤ g → moved d g n ≡ min g (d + n)
unfolding moved
up d g n h = rw (le-leb d g h) (omega arith)

pub down : (d g n : ℕ) → g ≤ d → moved d g n ≡ max g (d - n)
unfolding moved
down d g n h = by_test (leb d g) (λ t. rw t (omega (arith, leb-true d g t))) (λ f. rw f (omega arith))

-- a move comes to the goal just where it is as long as the distance
there : (d g n : ℕ) → moved d g n ≡ g ↔ distance d g ≤ n
there d g n = by_way d g (λ h. rw (up d g n h) (λ e. omega arith, λ l. omega arith)) (λ h. rw (down d g n h) (λ e. omega arith, λ l. omega arith))

-- how far a move goes, and how far it has yet to go
gone : (d g n : ℕ) → distance d (moved d g n) ≡ min (distance d g) n
gone d g n = by_way d g (λ h. rw (up d g n h) (omega arith)) (λ h. rw (down d g n h, fall d g h) (omega arith))

left : (d g n : ℕ) → distance (moved d g n) g ≡ distance d g - n
left d g n = by_way d g (λ h. rw (up d g n h) (omega arith)) (λ h. rw (down d g n h, fall d g h) (omega arith))

-- a move by 0 stays
pub stays : (d g : ℕ) → moved d g 0 ≡ d
stays d g = by_way d g (λ h. rw (up d g 0 h) (omega arith)) (λ h. rw (down d g 0 h) (omega arith))

pub one_update : OneUpdate
one_update d g s = (gone d g s, rw (gone d g s, left d g s) (omega arith), stays d g, (there g g s).1 (omega arith))

-- two moves are one move by both
pub moved_twice : (d g m n : ℕ) → moved (moved d g m) g n ≡ moved d g (m + n)
moved_twice d g m n =
    by_way d g (λ h. rw (up d g m h, up (min g (d + m)) g n (omega arith), up d g (m + n) h) (omega arith))
    (λ h. rw (down d g m h, down (max g (d - m)) g n (omega arith), down d g (m + n) h) (omega arith))

pub updates : Updates
unfolding repeated
updates zero d g s = rw zero-mul (sym (stays d g))
updates (suc n) d g s = rw (updates n d g s, moved_twice d g (n * s) s, suc-mul n s)

pub arrives : Arrives
arrives n d g s h =
    rw (updates n d g s) (Iff.trans (there d g (n * s)) (Iff.symm (rounded_up (distance d g) s n h)))
