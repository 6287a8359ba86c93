-- The figures that pass to C (include/cobblehard.h).
use Rattle.std.specs.Prelude.{ℕ, List, length, take}
use Rattle.laws.specs.Buffer.{laid_over}
use Rattle.reports.specs.declared.Figures.{Figures}
use Rattle.reports.specs.Lines.{all_figures}

-- the buffer after a report: as many of its 25 figures at the front as there is room for, and the entries past them as they were
unfoldable pub figures_laid : List Figures → List ℕ → List ℕ
figures_laid fans buffer = laid_over (take (length buffer) (all_figures fans)) buffer
