-- `cobblehard_speeds::figure_at` meets its contract.
use mathlib.Core.Path.{sym}
use Rattle.cobblehard_speeds.proofs.Figures.{got_figure}
use Rattle.cobblehard_speeds.proofs.figure_at.Goals as goal

pub returns : goal.returns
returns c = rw c.row-row.ensures (sym (got_figure c.args.fans c.args.i c.requires))
