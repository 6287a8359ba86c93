-- `emc2305::steps::reply_length` meets its contract.
use Rattle.emc2305.proofs.Ranged.{clocked_within}
use Rattle.emc2305.proofs.steps.reply_length.Goals as goal

pub bounds-checked-place : goal.bounds-checked-place
bounds-checked-place c = clocked_within _ _ c.args.checked.in_range _ _ _ _ c.in-Transfer.is c.if-reads.true
