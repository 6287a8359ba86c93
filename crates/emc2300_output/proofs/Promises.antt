-- The rules of the fixed tables, and the examples.
use mathlib.Core.Path.{refl}
use Prim.Native.Nat.{ℕ, ◌+◌, ◌*◌, ◌/◌}
use lib.Dec.{eqb}
use lib.ListN.{get_or}
use borrow.Author.Tests.{eqb-true}
use Rattle.laws.specs.Repeat.{repeated}
use Rattle.laws.proofs.Tables.{entry}
use Rattle.ramps.specs.Ramp.{moved, counted}
use Rattle.emc2300_duty.specs.Zones.{above_least, at_limit, zone_asks}
use Rattle.emc2300_duty.specs.Duty.{is_linked, limit_reached, linked_fault, linked_duty, automatic, by_mode, asked}
use Rattle.emc2300_output.specs.Tables.{rates, lengths}
use Rattle.emc2300_output.specs.Ramp.{ramp_control}
use Rattle.emc2300_output.specs.Settling.{started, duty_set, settled}
use Rattle.emc2300_output.specs.Tick.{spin_ticked, ticked}
use Rattle.emc2300_output.specs.Promises.{step_times, spin_times, RateRule, LengthRule}
use Rattle.emc2300_output.specs.Examples.{Examples}

pub rate_rule : RateRule
rate_rule i h =
    eqb-true (get_or rates i 0) ((2 * get_or step_times i 0 + 24) / 25)
    (entry (λ (k x : ℕ). eqb x ((2 * get_or step_times k 0 + 24) / 25)) rates refl i h)

pub length_rule : LengthRule
length_rule i h =
    eqb-true (25 * get_or lengths i 0) (2 * get_or spin_times i 0) (entry (λ (k x : ℕ). eqb (25 * x) (2 * get_or spin_times k 0)) lengths refl i h)

pub examples_hold : Examples
unfolding repeated moved counted above_least at_limit zone_asks is_linked limit_reached linked_fault linked_duty automatic by_mode asked ramp_control started duty_set settled spin_ticked ticked
examples_hold = refl
