-- The status bytes and what clears them, the alert line.
use mathlib.Core.Path.{◌≡◌, refl, sym, ap, ◌∙◌}
use mathlib.Core.Bool.{Bool, true, false, cond, not, ◌&&◌, ◌||◌, false≢true, or-true}
use mathlib.Core.List.{List}
use Prim.Native.Nat.{ℕ, zero, suc, ◌+◌, ◌<◌}
use native.Mathlib.Omega.{arith}
use native.Mathlib.Nat.{add-zero, div-eq_of_lt}
use lib.Dec.{eqb}
use borrow.Author.Tests.{eqb-true, eqb-false}
use Rattle.laws.specs.Lists.{first_moved}
use Rattle.laws.proofs.Lists.{moved_all}
use Rattle.laws.proofs.Divide.{bit_below, bit_own}
use Rattle.laws.proofs.Tests.{by_test, and_left, and_right}
use Rattle.emc2305_fan.specs.declared.Bit.{Bit}
use Rattle.emc2305_fan.specs.declared.Bit.TheVariants.{Stall, Spin}
use Rattle.emc2305_fan.specs.declared.Fan.{Fan}
use Rattle.emc2305_fan.specs.Spin.{too_slow}
use Rattle.emc2305_fan.specs.Registers.{bit}
use Rattle.emc2305_fan.specs.Status.{standing, other, stuck, bit_read}
use Rattle.emc2305_fan.proofs.Statuses.{status_read}
use Rattle.emc2305_chip.specs.State.{fan_count}
use Rattle.emc2305_chip.specs.Map.{register_of}
use Rattle.emc2305_chip.specs.Fans.{no_fan, fan_at, bits_of, interrupts, interrupting}
use Rattle.emc2305_chip.specs.Registers.{stall_byte, spin_byte, cleared_at}
use Rattle.emc2305_chip.specs.Promises.{StatusBits, ReadClears, Alert}
use Rattle.emc2305_chip.proofs.Bits.{bits_small}
use Rattle.emc2305_chip.proofs.Ways.{masked, alert_watch, alert_fans}

module _ (which : Bit) (fans : List Fan) where
  -- the bit of a fan is that of its status
  bits_at : (i n : ℕ) → i < n → bit i (bits_of which fans n) ≡ standing which (fan_at fans i)
  unfolding bits_of
  bits_at i zero h = absurd (omega arith)
  bits_at i (suc n) h =
      let b = bits_of which fans n in
      let s = standing which (fan_at fans n) in
      let small = bits_small which fans n in
      by_test (eqb i n)
      (λ t.
      rw (eqb-true i n t)
      (by_test s (λ u. rw (u, bit_own b n small)) (λ u. rw (u, add-zero b, div-eq_of_lt small))))
      (λ t.
      let l : i < n = omega (arith, eqb-false i n t) in
      by_test s (λ u. rw (u, bit_below b i n l) (bits_at i n l)) (λ u. rw (u, add-zero b) (bits_at i n l)))

-- 24h of three tests
status_of : (expired no_spin noStall : Bool)
    → let byte : ℕ = cond expired 0x80 0 + (cond no_spin 0 0x02 + cond noStall 0 0x01) in
    (bit 7 byte ≡ expired) × (bit 1 byte ≡ not no_spin) × (bit 0 byte ≡ not noStall)
status_of true true true = (refl, refl, refl)
status_of true true false = (refl, refl, refl)
status_of true false true = (refl, refl, refl)
status_of true false false = (refl, refl, refl)
status_of false true true = (refl, refl, refl)
status_of false true false = (refl, refl, refl)
status_of false false true = (refl, refl, refl)
status_of false false false = (refl, refl, refl)

pub status_bits : StatusBits
status_bits c =
    let s = status_of c.expired (eqb (spin_byte c) 0) (eqb (stall_byte c) 0) in (
      bits_small Stall c.fans (fan_count c),
      bits_small Spin c.fans (fan_count c),
      λ i h. (bits_at Stall c.fans i (fan_count c) h, bits_at Spin c.fans i (fan_count c) h),
      s.0,
      s.1,
      s.2,
    )

-- fans of which the first n have the same bits
bits_same : (which : Bit) (fans others : List Fan) (n : ℕ) → ((i : ℕ) → i < n → standing which (fan_at fans i) ≡ standing which (fan_at others i))
    → bits_of which fans n ≡ bits_of which others n
unfolding bits_of
bits_same which fans others zero h = refl
bits_same which fans others (suc n) h = rw (bits_same which fans others n (λ i k. h i (omega arith)), h n (omega arith))

-- a fan, one of 25h and 26h read for the first n; none stands past the fifth, and none of it changes
no_fan_read : (which : Bit) → bit_read which no_fan ≡ no_fan
unfolding bit_read stuck too_slow
no_fan_read Stall = refl
no_fan_read Spin = refl

read_at_lem : (which : Bit) (fans : List Fan) (n i : ℕ) → i < n → fan_at (first_moved n (bit_read which) fans) i ≡ bit_read which (fan_at fans i)
read_at_lem which fans n i h = moved_all n (bit_read which) fans i no_fan h (no_fan_read which)

-- a bit of what is read, and the bits of the other
own_bit : (which : Bit) (fans : List Fan) (n i : ℕ) → i < n
    → bit i (bits_of which (first_moved n (bit_read which) fans) n) ≡ (bit i (bits_of which fans n) && stuck (fan_at fans i))
own_bit which fans n i h =
    bits_at which (first_moved n (bit_read which) fans) i n h ∙ ap (standing which) (read_at_lem which fans n i h) ∙ (status_read which (fan_at fans i)).0
    ∙ rw (bits_at which fans i n h)

other_bits : (which : Bit) (fans : List Fan) (n : ℕ) → bits_of (other which) (first_moved n (bit_read which) fans) n ≡ bits_of (other which) fans n
other_bits which fans n =
    bits_same (other which) _ fans n (λ i h. ap (standing (other which)) (read_at_lem which fans n i h) ∙ (status_read which (fan_at fans i)).1)

pub read_clears : ReadClears
unfolding cleared_at register_of
read_clears c = (
  λ i h. (own_bit Stall c.fans (fan_count c) i h, own_bit Spin c.fans (fan_count c) i h),
  other_bits Stall c.fans (fan_count c),
  refl,
  other_bits Spin c.fans (fan_count c),
  refl,
  refl,
  refl,
  refl,
)

-- one of the first n fans interrupts: which, and that it does
module _ (enable : ℕ) (fans : List Fan) where
  abbrev stands : ℕ → Bool
  stands i = (fan_at fans i).stalled || (fan_at fans i).failed

  found : (n : ℕ) → interrupting enable fans n ≡ true → (i : ℕ) × (i < n) × (bit i enable ≡ true) × (stands i ≡ true)
  unfolding interrupting
  found zero e = absurd (false≢true e)
  found (suc n) e =
      by_test (interrupting enable fans n) (λ t. let r = found n t in (r.0, omega (arith, r.1), r.2, r.3))
      (λ f.
      let own : interrupts enable n (fan_at fans n) ≡ true = rw f at e in
      (n, omega arith, and_left (bit n enable) (stands n) own, and_right (bit n enable) (stands n) own))

  raised : (n i : ℕ) → i < n → bit i enable ≡ true → stands i ≡ true → interrupting enable fans n ≡ true
  unfolding interrupting
  raised zero i h b s = absurd (omega arith)
  raised (suc n) i h b s =
      by_test (eqb i n)
      (λ t. let own : interrupts enable i (fan_at fans i) ≡ true = rw (b, s) in rw (← eqb-true i n t, own, or-true _))
      (λ f. rw (raised n i (omega (arith, eqb-false i n f)) b s))

pub alert : Alert
alert c = (
  λ mask. sym (masked c mask),
  λ mask watch. sym (alert_watch c mask watch),
  λ mask watch.
      rw (← alert_fans c mask watch) (λ e. found c.enable c.fans (fan_count c) e, λ r. raised c.enable c.fans (fan_count c) r.0 r.1 r.2 r.3),
)
