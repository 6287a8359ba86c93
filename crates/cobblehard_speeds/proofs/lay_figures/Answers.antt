-- `cobblehard_speeds::lay_figures` meets its contract.
use native.Mathlib.Omega.{arith}
use Rattle.cobblehard_speeds.proofs.Figures.{figure_on, filled}
use Rattle.cobblehard_speeds.proofs.lay_figures.Goals as goal

pub loop-i-preserved : goal.loop-i-preserved
loop-i-preserved c = figure_on _ _ _ _ c.loop-i.invariant (omega arith) (omega arith) _ c.figure_at.ensures

pub returns : goal.returns
returns c = filled _ _ _ _ c.loop-i.invariant (omega arith)
