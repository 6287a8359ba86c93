-- What an event that is taken does to a chip, kind by kind.
use mathlib.Core.Path.{◌≡◌, refl}
use mathlib.Core.Bool.{Bool, true, false}
use mathlib.Core.List.{List}
use Prim.Native.Nat.{ℕ}
use Rattle.eventlog.specs.declared.Event.{Event}
use Rattle.eventlog.specs.declared.Event.TheVariants.{PowerOn, Ticks, Sample, Wish, Transfer, PowerOnPart}
use Rattle.eventlog.specs.Kinds.{on_ticks, on_sample, on_wish, on_transfer, is_power_on}
use Rattle.emc2305_parts.specs.declared.Part.{Part}
use Rattle.emc2305_parts.specs.declared.Part.TheVariants.{Emc2305}
use Rattle.emc2305_parts.specs.Parts.{part_with}
use Rattle.emc2305_chip.specs.declared.Chip.{Chip}
use Rattle.emc2305_chip.specs.Registers.{at_defaults}
use Rattle.emc2305.specs.Step.{taken}

-- an event that the EMC2305 does not take: it leaves every chip as it is, and what is said of power-ons, ticks, samples, wishes and transfers is not said of it
pub record Idle (event : Event) : Type 1 where
  pub powers_none : is_power_on event ≡ false
  pub leaves : (log : List ℕ) (c : Chip) → taken log event c ≡ c
  pub no_ticks : {X : Type 0} (other : X) (of : ℕ → X) → on_ticks other of event ≡ other
  pub no_sample : {X : Type 0} (other : X) (of : ℕ → ℕ → X) → on_sample other of event ≡ other
  pub no_wish : {X : Type 0} (other : X) (of : ℕ → ℕ → X) → on_wish other of event ≡ other
  pub no_transfer : {X : Type 0} (other : X) (of : Bool → ℕ → ℕ → ℕ → X) → on_transfer other of event ≡ other

-- a power-on, of whichever part: every chip is at that part's defaults after it, and what is said of ticks, samples, wishes and transfers is not said of it
pub record Powering (event : Event) : Type 1 where
  pub part : Part
  pub address : ℕ
  pub powers : is_power_on event ≡ true
  pub resets : (log : List ℕ) (c : Chip) → taken log event c ≡ at_defaults part true address
  pub no_ticks : {X : Type 0} (other : X) (of : ℕ → X) → on_ticks other of event ≡ other
  pub no_sample : {X : Type 0} (other : X) (of : ℕ → ℕ → X) → on_sample other of event ≡ other
  pub no_wish : {X : Type 0} (other : X) (of : ℕ → ℕ → X) → on_wish other of event ≡ other
  pub no_transfer : {X : Type 0} (other : X) (of : Bool → ℕ → ℕ → ℕ → X) → on_transfer other of event ≡ other

power_on_five : (address : ℕ) → Powering (PowerOn address)
unfolding taken
power_on_five address =
    record {
      part = Emc2305;
      address = address;
      powers = refl;
      resets = λ log c. refl;
      no_ticks = λ other of. refl;
      no_sample = λ other of. refl;
      no_wish = λ other of. refl;
      no_transfer = λ other of. refl;
    }

power_on_part : (address fans : ℕ) → Powering (PowerOnPart address fans)
unfolding taken
power_on_part address fans =
    record {
      part = part_with fans;
      address = address;
      powers = refl;
      resets = λ log c. refl;
      no_ticks = λ other of. refl;
      no_sample = λ other of. refl;
      no_wish = λ other of. refl;
      no_transfer = λ other of. refl;
    }

-- P holds of every event if it holds of a power-on, of ticks, of a sample, of a wish, of a read, of a write, and of one that is idle, as none is today
pub by_effect : (P : Event → Type 0) → ((event : Event) → Powering event → P event) → ((count : ℕ) → P (Ticks count))
    → ((fan count : ℕ) → P (Sample fan count)) → ((fan drive : ℕ) → P (Wish fan drive)) → ((to place n : ℕ) → P (Transfer true to place n))
    → ((to place n : ℕ) → P (Transfer false to place n)) → ((event : Event) → Idle event → P event) → (event : Event) → P event
by_effect P power-on ticks sample wish reads writes idle (PowerOn address) = power-on (PowerOn address) (power_on_five address)
by_effect P power-on ticks sample wish reads writes idle (Ticks count) = ticks count
by_effect P power-on ticks sample wish reads writes idle (Sample fan count) = sample fan count
by_effect P power-on ticks sample wish reads writes idle (Wish fan drive) = wish fan drive
by_effect P power-on ticks sample wish reads writes idle (Transfer true to place n) = reads to place n
by_effect P power-on ticks sample wish reads writes idle (Transfer false to place n) = writes to place n
by_effect P power-on ticks sample wish reads writes idle (PowerOnPart address fans) = power-on (PowerOnPart address fans) (power_on_part address fans)
