-- What an event that is in range tells a step.
use mathlib.Core.Path.{◌≡◌, subst}
use mathlib.Core.Bool.{Bool, true}
use mathlib.Core.List.{List}
use Prim.Native.Nat.{ℕ, ◌+◌, ◌≤◌, ◌<◌}
use native.Mathlib.Omega.{arith}
use lib.Dec.{leb}
use lib.ListN.{length}
use borrow.Author.Tests.{leb-true}
use Rattle.laws.proofs.Tests.{and_left, and_right}
use Rattle.eventlog.specs.declared.Event.{Event}
use Rattle.eventlog.specs.declared.Event.TheVariants.{Sample, Wish, Transfer}
use Rattle.eventlog.specs.Range.{fan_in_range, range_number}
use Rattle.eventlog.proofs.Ranges.{fan_right_lem, place_within, one_byte}

module _ (log : List ℕ) (event : Event) (good : range_number log event ≡ 0) where
  in_range_as : (other : Event) → event ≡ other → range_number log other ≡ 0
  in_range_as other e = subst (λ (x : Event). range_number log x ≡ 0) e good

  from_fan : (fan : ℕ) → fan_in_range fan ≡ true → (1 ≤ fan) × (fan ≤ 5)
  from_fan fan e = (leb-true 1 fan (and_left (leb 1 fan) (leb fan 5) e), leb-true fan 5 (and_right (leb 1 fan) (leb fan 5) e))

  -- the fan of a sample or a wish
  pub sample_fan : (fan count : ℕ) → event ≡ Sample fan count → (1 ≤ fan) × (fan ≤ 5)
  sample_fan fan count e = from_fan fan (fan_right_lem log (Sample fan count) (in_range_as (Sample fan count) e))

  pub wish_fan : (fan drive : ℕ) → event ≡ Wish fan drive → (1 ≤ fan) × (fan ≤ 5)
  wish_fan fan drive e = from_fan fan (fan_right_lem log (Wish fan drive) (in_range_as (Wish fan drive) e))

  -- the bytes of a transfer lie within the log, and a read has one
  pub sent_within : (reads : Bool) (to place n : ℕ) → event ≡ Transfer reads to place n → place + n ≤ length log
  sent_within reads to place n e = place_within log reads to place n (in_range_as (Transfer reads to place n) e)

  pub clocked_within : (reads : Bool) (to place n : ℕ) → event ≡ Transfer reads to place n → reads ≡ true → place < length log
  clocked_within reads to place n e r =
      omega (arith, sent_within reads to place n e, one_byte log reads to place n (in_range_as (Transfer reads to place n) e) r)
