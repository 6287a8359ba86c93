-- The promises of the speed of one sample (specs/Promises.antt).
use mathlib.Core.Path.{◌≡◌, refl, sym, ap, ◌∙◌}
use Prim.Native.Nat.{ℕ, ◌+◌, ◌*◌, ◌/◌, ◌≤◌}
use native.Mathlib.Omega.{arith}
use native.Mathlib.Nat.{mul-le-mul, mul_comm, one-mul, le-div_iff_mul-le, div-div-eq-div-mul, mul-div-mul_left}
use borrow.Author.Tests.{ne_eqb}
use Rattle.emc2305_speed.specs.Speed.{rpm, rpm_by_high_byte}
use Rattle.emc2305_speed.specs.Promises.{SpeedExamples, SpeedRange, Slower, Poles, HighBytes}
use Rattle.emc2305_speed.proofs.Factors.{clocks, clocks_least, rpm_most}

-- a smaller divisor never gives a smaller quotient
smaller_divisor : (n d e : ℕ) → 1 ≤ d → d ≤ e → n / e ≤ n / d
smaller_divisor n d e h l =
    let at-d = le-div_iff_mul-le {k = d} {x = n / e} {y = n} h in
    let at-e = le-div_iff_mul-le {k = e} {x = n / e} {y = n} (omega arith) in
    at-d.1 (omega (arith, mul-le-mul {n₁ = n / e} {m₁ = d} {n₂ = n / e} {m₂ = e} (omega arith) l, at-e.0 (omega arith)))

pub speed_examples : SpeedExamples
unfolding rpm
speed_examples = (refl, refl, refl, refl, refl, refl, refl, refl, refl, refl, refl, refl)

pub speed_range : SpeedRange
unfolding rpm
speed_range poles configuration count p q h l =
    let some = mul-le-mul p h in
    let few = mul-le-mul q l in
    let least = le-div_iff_mul-le {k = poles * count} {x = 120} {y = clocks configuration} (omega (arith, some)) in (
      least.1 (omega (arith, few, clocks_least configuration)),
      rpm_most poles configuration count,
    )

pub slower : Slower
unfolding rpm
slower poles configuration count more p h =
    smaller_divisor (clocks configuration) (poles * count) (poles * (count + more)) (omega (arith, mul-le-mul p h))
    (mul-le-mul {n₁ = poles} {n₂ = poles} (omega arith) (omega arith))

-- poles divide what one pole gives
divided : (poles configuration count : ℕ) → rpm poles configuration count ≡ rpm 1 configuration count / poles
unfolding rpm
divided poles configuration count =
    ap (λ (d : ℕ). clocks configuration / d) (mul_comm poles count)
    ∙ sym (div-div-eq-div-mul (clocks configuration) count poles)
    ∙ ap (λ (d : ℕ). clocks configuration / d / poles) (sym (one-mul count))

pub poles_divide : Poles
poles_divide configuration count h =
    let two = divided 2 configuration count in (
      λ poles p. divided poles configuration count,
      omega (arith, two),
      omega (arith, two),
    )

pub high_bytes : HighBytes
unfolding rpm
high_bytes byte h l =
    let plain : rpm_by_high_byte byte ≡ rpm 2 0x28 (32 * byte) = rw (ne_eqb byte 0 (λ z. omega arith)) (sym (mul-div-mul_left {m = 2} 7864320 (32 * byte) (omega arith))) in (
      plain,
      λ count e. (
        rw plain (smaller_divisor 15728640 (2 * (32 * byte)) (2 * count) (omega arith) (omega (arith, e))),
        smaller_divisor 15728640 (2 * count) (2 * (32 * byte + 32)) (omega (arith, e)) (omega (arith, e)),
      ),
    )
