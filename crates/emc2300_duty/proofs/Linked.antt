-- What linked zones ask, zone by zone.
use mathlib.Core.Path.{◌≡◌}
use mathlib.Core.List.{List, [], ◌∷◌}
use lib.ListN.{length}
use Prim.Native.Nat.{ℕ, max}
use native.Mathlib.Omega.{arith}
use Rattle.std.specs.List.{filter, fold, enumerate_from}
use Rattle.emc2300_duty.specs.declared.Zone.{Zone}
use Rattle.emc2300_duty.specs.Zones.{zone_asks}
use Rattle.emc2300_duty.specs.Duty.{is_linked, linked_duty}

-- a fold of the larger over the linked of three zones comes to the largest that they ask
pub over_three : (mode minimum : ℕ) (zones : List Zone) → length zones ≡ 3
    → fold (λ (most : ℕ) (x : ℕ × Zone). max most (zone_asks minimum x.1)) 0 (filter (λ (x : ℕ × Zone). is_linked mode x.0) (enumerate_from 0 zones)) ≡ linked_duty mode minimum zones
unfolding linked_duty
over_three mode minimum [] h = absurd (omega arith)
over_three mode minimum (a ∷ []) h = absurd (omega arith)
over_three mode minimum (a ∷ b ∷ []) h = absurd (omega arith)
over_three mode minimum (a ∷ b ∷ c ∷ []) h = grind arith
over_three mode minimum (a ∷ b ∷ c ∷ d ∷ zones) h = absurd (omega arith)
