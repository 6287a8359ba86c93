-- `emc2305::steps::taken` meets its contract.
use native.Mathlib.Omega.{arith}
use Rattle.emc2305.proofs.Ranged.{sample_fan, wish_fan, sent_within}
use Rattle.emc2305.proofs.steps.taken.Goals as goal

pub overflow_sub-fan : goal.overflow_sub-fan
overflow_sub-fan c = (sample_fan _ _ c.args.checked.in_range _ _ c.in-Sample.is).0

pub overflow_sub-fan-in-Wish : goal.overflow_sub-fan-in-Wish
overflow_sub-fan-in-Wish c = (wish_fan _ _ c.args.checked.in_range _ _ c.in-Wish.is).0

pub overflow_add-place : goal.overflow_add-place
overflow_add-place c = omega (arith, sent_within _ _ c.args.checked.in_range _ _ _ _ c.in-Transfer.is)

pub slice_bounds-sent-end : goal.slice_bounds-sent-end
slice_bounds-sent-end c = sent_within _ _ c.args.checked.in_range _ _ _ _ c.in-Transfer.is
