use Rattle.reports.proofs.Laying.{Lining}
use Rattle.reports.proofs.lines.lay_fans.Given as goal

abbrev pub invariant-loop-i : goal.invariant-loop-i
invariant-loop-i l = Lining l.fn.fans l.initial.out l.out l.at l.i
