-- The figures of a report in their order, and as text: 'a line a fan: fan, samples, lowest, highest, total, zero counts, in decimal with a space between; then
-- `end PLACE`, or `stop PLACE NUMBER`'.
use Rattle.std.specs.Prelude.{ℕ, zero, suc, List, [], ◌∷◌, ◌++◌, slice_index_or}
use Rattle.text.specs.Text.{row_of, report_end}
use Rattle.reports.specs.declared.Figures.{Figures}

-- the figures of a fan that has no samples
abbrev pub no_figures : Figures
no_figures = record { samples = 0; lowest = 0; highest = 0; total = 0; zeros = 0 }

-- the five figures of a fan, in their order
abbrev pub figures_row : Figures → List ℕ
figures_row f = f.samples ∷ f.lowest ∷ f.highest ∷ f.total ∷ f.zeros ∷ []

-- those of the first n fans, one fan behind the other
unfoldable pub figures_rows : ℕ → List Figures → List ℕ
figures_rows zero fans = []
figures_rows (suc n) fans = figures_rows n fans ++ figures_row (slice_index_or fans n no_figures)

-- 'there are always five lines and 25 figures'
abbrev pub all_figures : List Figures → List ℕ
all_figures fans = figures_rows 5 fans

-- the lines of the first n fans
unfoldable pub fan_lines : ℕ → List Figures → List ℕ
fan_lines zero fans = []
fan_lines (suc n) fans = fan_lines n fans ++ row_of (suc n) (figures_row (slice_index_or fans n no_figures))

-- the text of a report
unfoldable pub report_text : List Figures → ℕ → ℕ → List ℕ
report_text fans place number = fan_lines 5 fans ++ report_end place number
