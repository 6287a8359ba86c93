use Rattle.text.proofs.Digits.{Shown}
use Rattle.text.proofs.numbers.lay_digits.Given as goal

abbrev pub invariant-loop-at : goal.invariant-loop-at
invariant-loop-at l = Shown l.n l.fn.out l.out l.rest l.at
