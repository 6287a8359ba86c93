-- The status bits as a byte, bit by bit.
use mathlib.Core.Path.{◌≡◌, refl, sym, ap}
use mathlib.Core.Bool.{Bool, true, false, cond, ◌&&◌, ◌||◌, or-false}
use mathlib.Core.List.{List, [], ◌∷◌}
use Prim.Native.Nat.{ℕ, zero, suc, min, ◌+◌, ◌*◌, ◌%◌, ◌^◌, ◌≤◌, ◌<◌}
use native.Mathlib.Omega.{arith}
use native.Mathlib.Nat.{two-pow-succ, one-le-pow, one-mul, zero-mul, mod-eq_of_lt}
use mir.Val.{bool_byte}
use lib.Dec.{leb, ltb, eqb}
use lib.ListN.{get_or}
use lib.Pow.{pow_mono}
use borrow.Author.Tests.{leb-true, ltb-true, ltb-false, eqb-true, eqb-false}
use Rattle.laws.specs.Lists.{first_moved}
use Rattle.laws.proofs.Lists.{moved_still}
use Rattle.laws.proofs.Tables.{entry}
use Rattle.laws.proofs.Tests.{by_test}
use Rattle.emc2305_parts.specs.declared.Part.{Part}
use Rattle.emc2305_parts.specs.Parts.{fans_of}
use Rattle.emc2305_parts.proofs.Counts.{few_fans}
use Rattle.emc2305_fan.specs.declared.Bit.{Bit}
use Rattle.emc2305_fan.specs.declared.Bit.TheVariants.{Stall, Spin}
use Rattle.emc2305_fan.specs.declared.Fan.{Fan}
use Rattle.emc2305_fan.specs.Status.{standing, bit_read}
use Rattle.emc2305_fan.proofs.Statuses.{nothing_read}
use Rattle.emc2305_chip.specs.declared.Chip.{Chip}
use Rattle.emc2305_chip.specs.declared.Own.{Own}
use Rattle.emc2305_chip.specs.declared.Own.TheVariants.{Configuration, Status, StallStatus, SpinStatus, DriveFailStatus, Enable, Output, Lock, Identity}
use Rattle.emc2305_chip.specs.State.{fan_count, with_fans, with_expired}
use Rattle.emc2305_chip.specs.Fans.{no_fan, fan_at, bits_of, interrupts, interrupting}
use Rattle.emc2305_chip.specs.Registers.{stall_byte, spin_byte, status_byte, own_shown, own_cleared}
use Rattle.emc2305_chip.proofs.Ways.{flag_small}

-- the weights of the bits for fans 1 to 5
abbrev weights : List ℕ
weights = 1 ∷ 2 ∷ 4 ∷ 8 ∷ 16 ∷ []

pub weight_is : (i : ℕ) → i < 5 → get_or weights i 0 ≡ 2 ^ i
weight_is i h = eqb-true (get_or weights i 0) (2 ^ i) (entry (λ (k x : ℕ). eqb x (2 ^ k)) weights refl i h)

pub weight_within : (i : ℕ) → i < 5 → (1 ≤ get_or weights i 0) × (get_or weights i 0 ≤ 16)
weight_within i h = (
  leb-true 1 (get_or weights i 0) (entry (λ (k x : ℕ). leb 1 x) weights refl i h),
  leb-true (get_or weights i 0) 16 (entry (λ (k x : ℕ). leb x 16) weights refl i h),
)

pub bits_small : (which : Bit) (fans : List Fan) (i : ℕ) → bits_of which fans i < 2 ^ i
unfolding bits_of
bits_small which fans zero = omega arith
bits_small which fans (suc i) =
    let h = bits_small which fans i in
    let k = flag_small (standing which (fan_at fans i)) (2 ^ i) _ refl in
    let e = two-pow-succ i in
    omega arith

-- a byte of 0 has no bit that stands
unflagged : (b : Bool) (n w : ℕ) → 1 ≤ w → n + cond b w 0 ≡ 0 → b ≡ false
unflagged true n w h e = absurd (omega arith)
unflagged false n w h e = refl

unwatched : (b : Bool) (n : ℕ) → cond b 0x80 0 + n ≡ 0 → b ≡ false
unwatched true n e = absurd (omega arith)
unwatched false n e = refl

none_stands : (which : Bit) (fans : List Fan) (n i : ℕ) → bits_of which fans n ≡ 0 → i < n → standing which (fan_at fans i) ≡ false
unfolding bits_of
none_stands which fans zero i e h = absurd (omega arith)
none_stands which fans (suc n) i e h =
    by_test (eqb i n) (λ t. rw (eqb-true i n t) (unflagged (standing which (fan_at fans n)) (bits_of which fans n) (2 ^ n) (one-le-pow n 2 (omega arith)) e))
    (λ t. none_stands which fans n i (omega arith) (omega (arith, eqb-false i n t)))

-- so that a read changes nothing
pub none_read : (which : Bit) (c : Chip) → bits_of which c.fans (fan_count c) ≡ 0 → with_fans (first_moved (fan_count c) (bit_read which) c.fans) c ≡ c
none_read which c e =
    ap (λ (l : List Fan). with_fans l c)
    (moved_still (fan_count c) (bit_read which) c.fans no_fan
    (λ i k l. nothing_read which (fan_at c.fans i) (none_stands which c.fans (fan_count c) i e k)))

-- a status byte of 0: a read of it clears nothing
no_watch : (c : Chip) → status_byte c ≡ 0 → c.expired ≡ false
no_watch c e = unwatched c.expired (cond (eqb (spin_byte c) 0) 0 0x02 + cond (eqb (stall_byte c) 0) 0 0x01) e

pub nothing_cleared : (own : Own) (c : Chip) → own_shown c own ≡ 0 → own_cleared own c ≡ c
nothing_cleared Configuration c e = refl
nothing_cleared Status c e = ap (λ (b : Bool). with_expired b c) (sym (no_watch c e))
nothing_cleared StallStatus c e = none_read Stall c e
nothing_cleared SpinStatus c e = none_read Spin c e
nothing_cleared DriveFailStatus c e = refl
nothing_cleared Enable c e = refl
nothing_cleared (Output i) c e = refl
nothing_cleared Lock c e = refl
nothing_cleared (Identity i) c e = refl

-- of i places gone through, the first n are those that the part has
pub within_count : (n i : ℕ) → ltb i n ≡ true → (min i n ≡ i) × (min (i + 1) n ≡ suc i)
within_count n i t = let h = ltb-true i n t in (omega arith, omega arith)

pub past_count : (n i : ℕ) → ltb i n ≡ false → min (i + 1) n ≡ min i n
past_count n i t = let h = ltb-false i n t in omega arith

pub none_yet : (n : ℕ) → min 0 n ≡ 0
none_yet n = omega arith

pub all_places : (part : Part) (n i : ℕ) → n ≡ fans_of part → 5 ≤ i → min i n ≡ fans_of part
all_places part n i e h = rw e (omega (arith, few_fans part))

-- a fan's bit at its place in a byte
pub weighed_is : (b : Bool) (i x : ℕ) → i < 5 → x ≡ bool_byte b → x * 2 ^ i % 256 ≡ cond b (2 ^ i) 0
weighed_is true i x h e =
    let k : 2 ^ i ≤ 16 = rw (sym (weight_is i h)) (weight_within i h).1 in rw (e, one-mul (2 ^ i)) (mod-eq_of_lt (omega arith))
weighed_is false i x h e = rw (e, zero-mul (2 ^ i)) refl

-- one place more
module _ (which : Bit) (fans : List Fan) (n i byte w : ℕ) (b : Bool) (sofar : byte ≡ bits_of which fans (min i n))
    (weighed : w ≡ cond (ltb i n && b) (2 ^ i) 0) where
  pub bits_next : b ≡ standing which (fan_at fans i) → byte + w ≡ bits_of which fans (min (i + 1) n)
  unfolding bits_of
  bits_next e =
      by_test (ltb i n) (λ t. rw (sofar, weighed, t, e, (within_count n i t).0, (within_count n i t).1))
      (λ t. rw (sofar, weighed, t, past_count n i t) (omega arith))

  -- the bits of five fans fit a byte
  pub bits_fit : i < 5 → byte + w < 256
  bits_fit h =
      let k : 2 ^ i ≤ 16 = rw (sym (weight_is i h)) (weight_within i h).1 in
      let s : 2 ^ min i n ≤ 2 ^ i = pow_mono (omega arith) in
      rw (sofar, weighed) (omega (arith, bits_small which fans (min i n), flag_small (ltb i n && b) (2 ^ i) _ refl))

pub interrupting_next : (enable : ℕ) (fans : List Fan) (n i : ℕ) (on x : Bool) → on ≡ interrupting enable fans (min i n) → x ≡ interrupts enable i (fan_at fans i)
    → (on || (ltb i n && x)) ≡ interrupting enable fans (min (i + 1) n)
unfolding interrupting
interrupting_next enable fans n i on x sofar e =
    by_test (ltb i n) (λ t. rw (sofar, t, e, (within_count n i t).0, (within_count n i t).1))
    (λ t. rw (sofar, t, past_count n i t, or-false (interrupting enable fans (min i n))))
