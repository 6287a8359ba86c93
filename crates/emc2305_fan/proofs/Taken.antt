-- Data bytes for one fan: one more, and none past F.
use mathlib.Core.Path.{◌≡◌, refl, sym, ap}
use mathlib.Core.Bool.{Bool, true, false, not, ◌&&◌, ◌||◌}
use mathlib.Core.List.{List, [], ◌∷◌}
use Prim.Native.Nat.{ℕ, zero, suc, ◌+◌, ◌-◌, min, ◌≤◌, ◌<◌}
use native.Mathlib.Omega.{arith}
use native.Mathlib.Numerals.{add-one}
use lib.ListN.{length, get_or, take, drop}
use lib.Seq.{drop-cons, take-nil}
use Rattle.laws.proofs.Tests.{and_left}
use Rattle.emc2305_fan.specs.declared.Fan.{Fan}
use Rattle.emc2305_fan.specs.State.{with_wish, with_clock}
use Rattle.emc2305_fan.specs.Registers.{closed_loop, locked, stores}
use Rattle.emc2305_fan.specs.Stored.{put, wish_taken, clears_clock, clock_set, settled, programs, takes, byte_taken, bytes_taken, bytes_program}
use Rattle.emc2305_fan.proofs.Offsets.{stores_none}
use Rattle.emc2305_fan.proofs.Steps.{writes}

-- what follows from a byte: the wish and the clock, each one way and the other
pub takes_wish : (was : Bool) (f : Fan) → (not was && closed_loop f) ≡ true → with_wish f.drive f ≡ wish_taken was f
unfolding wish_taken
takes_wish was f e = rw e

pub leaves_wish : (was : Bool) (f : Fan) → (not was && closed_loop f) ≡ false → f ≡ wish_taken was f
unfolding wish_taken
leaves_wish was f e = rw e

pub clears : (o : ℕ) (f : Fan) → clears_clock o f ≡ true → with_clock 0 f ≡ clock_set o f
unfolding clock_set
clears o f e = rw e

pub leaves_clock : (o : ℕ) (f : Fan) → clears_clock o f ≡ false → f ≡ clock_set o f
unfolding clock_set
leaves_clock o f e = rw e

module _ (lock : Bool) (o byte : ℕ) (f : Fan) where
  -- a byte that is stored, and one that is not
  pub stored : takes lock f o ≡ true → settled (clock_set o (wish_taken (closed_loop f) (put o byte f))) ≡ byte_taken lock o byte f
  stored t = rw t (sym (writes o byte f (and_left (stores f o) (not (lock && locked o)) t)))

  pub refused : takes lock f o ≡ false → f ≡ byte_taken lock o byte f
  refused t = rw t

-- no byte past F
pub past_last : (lock : Bool) (o : ℕ) (bytes : List ℕ) (f : Fan) → 16 ≤ o → (bytes_taken lock o bytes f ≡ f) × (bytes_program lock o bytes f ≡ false)
unfolding bytes_taken bytes_program
past_last lock o [] f h = (refl, refl)
past_last lock o (byte ∷ rest) f h =
    let none : stores f o ≡ false = sym (stores_none f o (omega arith)) in
    rw (none) (past_last lock (o + 1) rest f (omega arith))

or_or : (a b c : Bool) → ((a || b) || c) ≡ (a || (b || c))
or_or true b c = refl
or_or false b c = refl

module _ (lock : Bool) (first i : ℕ) (bytes : List ℕ) (f next : Fan) (h : i < length bytes)
    (e : next ≡ byte_taken lock (first + i) (get_or bytes i 0) f) where
  one_on : first + (i + 1) ≡ first + i + 1
  one_on = omega arith

  -- one byte more
  pub taken_next : bytes_taken lock (first + (i + 1)) (drop (i + 1) bytes) next ≡ bytes_taken lock (first + i) (drop i bytes) f
  unfolding bytes_taken
  taken_next = rw (drop-cons bytes i 0 h, one_on, add-one i, e) refl

  -- and whether it programmed the fan
  pub programs_next : (was now : Bool) → now ≡ (was || (takes lock f (first + i) && programs (first + i) (get_or bytes i 0)))
      → (now || bytes_program lock (first + (i + 1)) (drop (i + 1) bytes) next) ≡ (was || bytes_program lock (first + i) (drop i bytes) f)
  unfolding bytes_program
  programs_next was now p = rw (drop-cons bytes i 0 h, one_on, add-one i, e, p) (or_or was _ _)

-- the bytes past F are for no offset: those before them do all
pub own_alone : (lock : Bool) (first : ℕ) (bytes : List ℕ) (f : Fan) (n : ℕ) → min (length bytes) (16 - first) ≤ n
    → (bytes_taken lock first (take n bytes) f ≡ bytes_taken lock first bytes f)
    × (bytes_program lock first (take n bytes) f ≡ bytes_program lock first bytes f)
unfolding bytes_taken bytes_program
own_alone lock first [] f n h = rw (take-nil n) (refl, refl)
own_alone lock first (byte ∷ rest) f zero h = let p = past_last lock first (byte ∷ rest) f (omega arith) in (sym p.0, sym p.1)
own_alone lock first (byte ∷ rest) f (suc n) h =
    let p = own_alone lock (first + 1) rest (byte_taken lock first byte f) n (omega arith) in
    (p.0, ap (λ (t : Bool). (takes lock f first && programs first byte) || t) p.1)
