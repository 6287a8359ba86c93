use Rattle.text.proofs.Rowed.{Rowed}
use Rattle.text.proofs.rows.lay.Given as goal

abbrev pub invariant-loop-n : goal.invariant-loop-n
invariant-loop-n l = Rowed l.rest l.fn.out l.out l.at l.n-index
