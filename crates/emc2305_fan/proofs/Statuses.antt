-- A read of 25h or of 26h.
use mathlib.Core.Path.{◌≡◌, refl, sym, ap}
use mathlib.Core.Bool.{Bool, true, false, and-true, and-false}
use Rattle.laws.proofs.Tests.{by_test}
use Rattle.emc2305_fan.specs.declared.Bit.{Bit}
use Rattle.emc2305_fan.specs.declared.Bit.TheVariants.{Stall, Spin}
use Rattle.emc2305_fan.specs.declared.Fan.{Fan}
use Rattle.emc2305_fan.specs.State.{with_stalled, with_failed}
use Rattle.emc2305_fan.specs.Status.{standing, other, bit_cleared, but_status, stuck, bit_read}
use Rattle.emc2305_fan.specs.Promises.{StatusRead}

-- of a fan that is stuck, and of one that is not
pub kept : (which : Bit) (f : Fan) → stuck f ≡ true → bit_read which f ≡ f
unfolding bit_read
kept which f t = rw t

pub cleared : (which : Bit) (f : Fan) → stuck f ≡ false → bit_read which f ≡ bit_cleared which f
unfolding bit_read
cleared which f t = rw t

-- what clearing a bit keeps, a read of it keeps
pub by_clearing : (P : Fan → Type 0) (which : Bit) (f : Fan) → P f → P (bit_cleared which f) → P (bit_read which f)
by_clearing P which f p q = by_test (stuck f) (λ t. rw (kept which f t) p) (λ t. rw (cleared which f t) q)

-- a bit that does not stand
pub nothing_read : (which : Bit) (f : Fan) → standing which f ≡ false → bit_read which f ≡ f
nothing_read Stall f e = by_clearing (λ (g : Fan). g ≡ f) Stall f refl (ap (λ (b : Bool). with_stalled b f) (sym e))
nothing_read Spin f e = by_clearing (λ (g : Fan). g ≡ f) Spin f refl (ap (λ (b : Bool). with_failed b f) (sym e))

gone : (which : Bit) (f : Fan) → standing which (bit_cleared which f) ≡ false
gone Stall f = refl
gone Spin f = refl

other_stands : (which : Bit) (f : Fan) → standing (other which) (bit_cleared which f) ≡ standing (other which) f
other_stands Stall f = refl
other_stands Spin f = refl

aside : (which : Bit) (f : Fan) → but_status (bit_cleared which f) ≡ but_status f
aside Stall f = refl
aside Spin f = refl

pub status_read : StatusRead
status_read which f = (
  by_test (stuck f) (λ t. rw (kept which f t, t, and-true (standing which f)))
      (λ t. rw (cleared which f t, t, and-false (standing which f)) (gone which f)),
  by_clearing (λ (g : Fan). standing (other which) g ≡ standing (other which) f) which f refl (other_stands which f),
  by_clearing (λ (g : Fan). but_status g ≡ but_status f) which f refl (aside which f),
)
