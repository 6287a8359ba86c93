-- What is left of the room and what is still to come differ as the room and the whole do.
use Rattle.std.proofs.Common.{length, drop, ◌≡◌, ◌+◌}
use Rattle.text.specs.Text.{row_rest}
use Rattle.text.proofs.rows.fits.Given as goal

abbrev pub invariant-loop-n : goal.invariant-loop-n
invariant-loop-n l = l.left + length (row_rest l.rest) ≡ l.room + length (row_rest (drop l.n-index l.rest))
