-- Every part at its defaults is as the five-fan part at its own.
use mathlib.Core.Path.{refl}
use mathlib.Core.Bool.{true}
use mathlib.Core.List.{List, [], ◌∷◌}
use Prim.Native.Nat.{ℕ, zero, suc, ◌<◌}
use native.Mathlib.Omega.{arith}
use Rattle.emc2305_parts.specs.declared.Part.TheVariants.{Emc2301, Emc2302, Emc2303, Emc2305}
use Rattle.emc2305_parts.specs.Parts.{part_with, table_reset}
use Rattle.emc2305_fan.specs.declared.Fan.{Fan}
use Rattle.emc2305_fan.specs.Registers.{power_on}
use Rattle.emc2305_chip.specs.Fans.{fan_at}
use Rattle.emc2305_chip.specs.Registers.{at_defaults}
use Rattle.emc2305.specs.Step.{taken}
use Rattle.emc2305_part_promises.specs.Alike.{Undriven, FansAlike}
use Rattle.emc2305_part_promises.specs.Promises.{StartsAlike, PoweredAlike}

-- what holds of a fan holds of five of it
pub each_of_five : (P : Fan → Type 0) (f : Fan) → P f → (i : ℕ) → i < 5 → P (fan_at (f ∷ f ∷ f ∷ f ∷ f ∷ []) i)
each_of_five P f p zero h = p
each_of_five P f p (suc zero) h = p
each_of_five P f p (suc (suc zero)) h = p
each_of_five P f p (suc (suc (suc zero))) h = p
each_of_five P f p (suc (suc (suc (suc zero)))) h = p
each_of_five P f p (suc (suc (suc (suc (suc i))))) h = absurd (omega arith)

-- five fans at power-on, beside themselves
fans_start : (count : ℕ) (defaults : List ℕ)
    → let f : Fan = power_on defaults in
    let five : List Fan = f ∷ f ∷ f ∷ f ∷ f ∷ [] in
    FansAlike count five five
unfolding power_on
fans_start count defaults = (refl, refl, λ i h. refl, λ i h. each_of_five Undriven (power_on defaults) (refl, refl, refl) i)

-- every part has the same reset bytes
pub starts_alike : StartsAlike
unfolding at_defaults
starts_alike Emc2301 powered address = ((refl, fans_start 1 table_reset.fan), refl)
starts_alike Emc2302 powered address = ((refl, fans_start 2 table_reset.fan), refl)
starts_alike Emc2303 powered address = ((refl, fans_start 3 table_reset.fan), refl)
starts_alike Emc2305 powered address = ((refl, fans_start 5 table_reset.fan), refl)

pub powered_alike : PoweredAlike
unfolding taken
powered_alike log address fans c d = (starts_alike (part_with fans) true address).0
