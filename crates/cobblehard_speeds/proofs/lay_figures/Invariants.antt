-- `cobblehard_speeds::lay_figures` meets its contract.
use Rattle.cobblehard_speeds.proofs.Figures.{Filling}
use Rattle.cobblehard_speeds.proofs.lay_figures.Given as goal

abbrev pub invariant-loop-i : goal.invariant-loop-i
invariant-loop-i l = Filling l.fans l.initial.out l.out l.i
