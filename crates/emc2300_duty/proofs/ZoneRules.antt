-- The promises of one zone (specs/Promises.antt).
use mathlib.Core.Path.{◌≡◌, refl}
use Prim.Native.Nat.{ℕ, zero, suc, ◌-◌, ◌*◌, ◌/◌, ◌≤◌, ◌<◌, min}
use native.Mathlib.Omega.{arith}
use native.Mathlib.Nat.{mul-le-mul_left, mul-zero, zero-div, mul-div_cancel, div-le_of_le-mul, le-div_iff_mul-le, div-mul-le_self, div-zero, min-eq_left, min-eq_right}
use lib.Dec.{leb}
use borrow.Author.Tests.{leb-true}
use Rattle.laws.proofs.Tables.{entry}
use Rattle.emc2300_duty.specs.declared.Zone.{Zone}
use Rattle.emc2300_duty.specs.Zones.{above_least, ranges, range_of, rise, zone_asks}
use Rattle.emc2300_duty.specs.Promises.{SignedBytes, AtLow, PastRange, OnLine, Within, ZoneRises, at}

-- no range of a byte is 0
pub some_range : (z : Zone) → z.configuration < 256 → 1 ≤ range_of z
some_range z h = leb-true 1 (range_of z) (entry (λ (k x : ℕ). leb 1 x) ranges refl (z.configuration / 16) (omega arith))

-- a part of the range gives a part of the way
pub part_of : (way part range : ℕ) → part ≤ range → way * part / range ≤ way
part_of way part range h = div-le_of_le-mul range (omega (arith, mul-le-mul_left way h))

-- a greater number has no smaller quotient, by 0 too, which gives 0
quotient_rises : (n m d : ℕ) → n ≤ m → n / d ≤ m / d
quotient_rises n m zero h = rw (div-zero n) (omega arith)
quotient_rises n m (suc d) h = (le-div_iff_mul-le {k = suc d} {x = n / suc d} {y = m} (omega arith)).1 (omega (arith, div-mul-le_self n (suc d)))

pub signed_bytes : SignedBytes
unfolding above_least
signed_bytes byte h = (λ l. omega arith, λ l. omega arith)

pub at_low : AtLow
unfolding zone_asks
at_low minimum z h =
    let none : min (rise z) (range_of z) ≡ 0 = omega arith in
    rw (none, mul-zero (255 - minimum), zero-div (range_of z)) (omega arith)

pub past_range : PastRange
unfolding zone_asks
past_range minimum z byte h l =
    rw (min-eq_right l, mul-div_cancel (255 - minimum) (some_range z byte)) (omega arith)

pub on_line : OnLine
unfolding zone_asks
on_line minimum z h = rw (min-eq_left h)

pub within : Within
unfolding zone_asks
within minimum z h =
    let p = part_of (255 - minimum) (min (rise z) (range_of z)) (range_of z) (omega arith) in
    (omega arith, omega arith)

pub zone_rises : ZoneRises
unfolding zone_asks
zone_rises minimum cold warm z h =
    let less : min (rise (at cold z)) (range_of z) ≤ min (rise (at warm z)) (range_of z) = omega arith in
    omega (arith, quotient_rises _ _ (range_of z) (mul-le-mul_left (255 - minimum) less))
