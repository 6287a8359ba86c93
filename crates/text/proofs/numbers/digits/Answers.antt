use Rattle.text.proofs.Lengths.{decimal_counts}
use Rattle.text.proofs.numbers.digits.Goals as goal

pub returns-clause-counts : goal.returns-clause-counts
returns-clause-counts c =
    let e = c.checked_ilog10.ensures in
    rw c.unwrap_or.ensures (decimal_counts c.args.n c.checked_ilog10.result e.none e.power_le e.next_power_gt e.bound)
