-- Counted ticks.
use mathlib.Core.Path.{◌≡◌, sym, ap, ◌∙◌}
use mathlib.Core.Logic.Iff
use mathlib.Core.Logic.{◌↔◌}
use Prim.Native.Nat.{ℕ, zero, suc, ◌+◌, ◌-◌, ◌*◌, ◌/◌, ◌%◌, max, ◌≤◌, ◌<◌}
use native.Mathlib.Omega.{arith}
use native.Mathlib.Nat.{add-zero, mul-zero, mul-suc, mul_comm, mod-lt, mod-eq_of_lt, div-eq_of_lt, div-lt_iff_lt-mul}
use native.Mathlib.Numerals.{add-one}
use lib.Dec.{leb}
use borrow.Author.Tests.{leb-true, leb-false, le-leb, lt-leb}
use Rattle.laws.specs.Repeat.{repeated}
use Rattle.laws.proofs.Divide.{one_more, one_round}
use Rattle.laws.proofs.Repeat.{first_step, repeated_same}
use Rattle.laws.proofs.Tests.{by_test}
use Rattle.ramps.specs.declared.Ramp.{Ramp}
use Rattle.ramps.specs.Ramp.{moved, counted}
use Rattle.ramps.specs.Promises.{CountedTicks, PastPeriod, ArrivalTick, updates_to}
use Rattle.ramps.proofs.Moves.{stays, moved_twice, updates, arrives}

-- before the period a counted tick waits
pub waits : (g s u : ℕ) (r : Ramp) → r.clock + 1 < u → counted g s u r ≡ record { drive = r.drive; clock = r.clock + 1 }
unfolding counted
waits g s u r h = rw (lt-leb u (r.clock + 1) h)

pub past_period : PastPeriod
unfolding counted
past_period g s u r h = rw (le-leb u (r.clock + 1) h)

-- m ticks counted from clock 0: a step for each whole period, and the clock at what is left
abbrev after : ℕ → ℕ → ℕ → ℕ → ℕ → Ramp
after m d g s u = record { drive = moved d g (s * (m / u)); clock = m % u }

-- one update more
again : (d g s q : ℕ) → moved (moved d g (s * q)) g s ≡ moved d g (s * (q + 1))
again d g s q = moved_twice d g (s * q) s ∙ rw (add-one q, mul-suc)

-- one tick more is counted
next : (m d g s u : ℕ) → 0 < u → counted g s u (after m d g s u) ≡ after (m + 1) d g s u
next m d g s u some =
    by_test (leb u (m % u + 1))
    (λ t.
    let h : u ≤ m % u + 1 = leb-true u (m % u + 1) t in
    let e = one_round m u (omega (arith, mod-lt m some)) in
    past_period g s u (after m d g s u) h
    ∙ rw (e.0, e.1) (ap (λ (x : ℕ). record { drive = x; clock = 0 }) (again d g s (m / u))))
    (λ t.
    let h : m % u + 1 < u = leb-false u (m % u + 1) t in
    let e = one_more m u h in
    waits g s u (after m d g s u) h ∙ rw (e.0, e.1))

pub counted_ticks : CountedTicks
unfolding repeated
counted_ticks zero g s u r h = rw (add-zero, mod-eq_of_lt h, div-eq_of_lt h, mul-zero, stays r.drive g)
counted_ticks (suc n) g s u r h =
    let e : r.clock + n + 1 ≡ r.clock + suc n = omega arith in
    ap (counted g s u) (counted_ticks n g s u r h)
    ∙ next (r.clock + n) r.drive g s u (omega arith)
    ∙ ap (λ (m : ℕ). after m r.drive g s u) e

-- as long as no update comes, the clock counts n
pub short_ticks : (n g s u : ℕ) (r : Ramp) → r.clock + n < u
    → repeated n (counted g s u) r ≡ record { drive = r.drive; clock = r.clock + n }
short_ticks n g s u r h =
    counted_ticks n g s u r (omega arith) ∙ rw (mod-eq_of_lt h, div-eq_of_lt h, mul-zero, stays r.drive g)

-- a period of 0 is as one of 1: the clock acts at each tick
some_period : (g s u : ℕ) (r : Ramp) → counted g s (max u 1) r ≡ counted g s u r
some_period g s zero r = past_period g s 1 r (omega arith) ∙ sym (past_period g s 0 r (omega arith))
some_period g s (suc u) r = let e : max (suc u) 1 ≡ suc u = omega arith in ap (λ (k : ℕ). counted g s k r) e

-- the first of n ticks, then the rest with a period of at least 1
pub first_rest : (n g s u : ℕ) (r first : Ramp) → 1 ≤ n → first ≡ counted g s u r
    → repeated (n - 1) (counted g s (max u 1)) first ≡ repeated n (counted g s u) r
first_rest n g s u r first h e =
    repeated_same (n - 1) (counted g s (max u 1)) (counted g s u) first (some_period g s u)
    ∙ first_step n (counted g s u) r first h e

-- a quotient is at least k where k times the divisor is not more
at_least : (k m u : ℕ) → 0 < u → k ≤ m / u ↔ k * u ≤ m
at_least k m u h =
    let b : m / u < k ↔ m < k * u = div-lt_iff_lt-mul h in (
      λ e. by_test (leb (k * u) m) (leb-true (k * u) m) (λ f. let l : m / u < k = b.1 (leb-false (k * u) m f) in absurd (omega arith)),
      λ e. by_test (leb k (m / u)) (leb-true k (m / u)) (λ f. let l : m < k * u = b.0 (leb-false k (m / u) f) in absurd (omega arith)),
    )

pub arrival_tick : ArrivalTick
arrival_tick n g s u r h some =
    let d = r.drive in
    let p = r.clock in
    let q = (p + n) / u in
    let k = updates_to d g s in
    let more : k * u ≤ p + n ↔ k * u - p ≤ n = (λ e. omega arith, λ e. omega arith) in
    rw (counted_ticks n g s u r h, mul_comm s q, ← updates q d g s)
    (Iff.trans (arrives q d g s some) (Iff.trans (at_least k (p + n) u (omega arith)) more))
