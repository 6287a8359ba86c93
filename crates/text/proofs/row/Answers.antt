-- A row behind no word.
use Rattle.text.specs.Text.{row_of}
use Rattle.text.proofs.row.Goals as goal

pub returns : goal.returns
unfolding row_of
returns c = c.worded_row.ensures
