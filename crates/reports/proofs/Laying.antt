-- The lines of the fans, laid one behind the other in a buffer that has room for the longest report.
use Rattle.std.proofs.Common.{◌≡◌, Some, None, ℕ, zero, suc, ◌+◌, ◌*◌, ◌<◌, ◌≤◌, List, ◌++◌, length, get_or, ap, add-one, arith, length-append}
use Rattle.laws.specs.Buffer.{laid_over}
use Rattle.laws.proofs.Buffer.{lent_from, back_from}
use Rattle.laws.proofs.Laid.{Laid, same_length}
use Rattle.text.specs.Text.{row_of, report_end}
use Rattle.text.proofs.Lines.{row_length, report_end_length}
use Rattle.text.proofs.Wholes.{Whole, taken, not_taken}
use Rattle.reports.specs.declared.Figures.{Figures}
use Rattle.reports.specs.Lines.{no_figures, figures_row, fan_lines, report_text}

-- how long the lines of fans are, and a report
lines_length : (n : ℕ) (fans : List Figures) → length (fan_lines n fans) ≤ 126 * n
unfolding fan_lines
lines_length zero fans = omega arith
lines_length (suc n) fans =
    let row : List ℕ = figures_row (get_or fans n no_figures) in
    omega (arith, lines_length n fans, row_length (suc n) row, length-append (fan_lines n fans) (row_of (suc n) row))

pub text_length : (fans : List Figures) (place number : ℕ) → length (report_text fans place number) ≤ 677
unfolding report_text
text_length fans place number =
    omega (arith, lines_length 5 fans, report_end_length place number, length-append (fan_lines 5 fans) (report_end place number))

-- how far it has come: the lines of the first i fans are laid
pub record Lining (fans : List Figures) (out₀ out : List ℕ) (at i : ℕ) : Type 0 where
  pub few : i ≤ 5
  pub short : at ≤ 126 * i
  pub long : length out₀ ≡ 677
  pub lain : Laid out₀ out at (fan_lines i fans)

module _ (fans : List Figures) (out₀ out : List ℕ) (at i : ℕ) (l : Lining fans out₀ out at i) where
  pub at_within : at ≤ length out
  at_within = omega (arith, l.short, l.few, l.long, same_length out₀ out at (fan_lines i fans) l.lain (omega (arith, l.short, l.few, l.long)))

  pub keeps : length out ≡ length out₀
  keeps = same_length out₀ out at (fan_lines i fans) l.lain (omega (arith, l.short, l.few, l.long))

  -- one more
  module _ (next : i < 5) (row : List ℕ) (is : row ≡ figures_row (get_or fans i no_figures)) (part : List ℕ) where
    abbrev line : List ℕ
    line = row_of (i + 1) row

    behind : at ≤ length out₀
    behind = omega (arith, l.short, l.few, l.long)

    five : length line ≤ 126
    five = omega (arith, row_length (i + 1) row, ap length is)

    -- it has room
    pub no_none : Whole line (lent_from at out) None part → ⊥
    no_none says =
        omega (
          arith,
          not_taken out₀ out at (fan_lines i fans) l.lain behind line part says,
          length-append (fan_lines i fans) line,
          l.lain.counts,
          l.short,
          l.few,
          l.long,
          five,
          next,
        )

    more : fan_lines i fans ++ row_of (i + 1) row ≡ fan_lines (i + 1) fans
    unfolding fan_lines
    more = rw (is, add-one i)

    pub line_on : (n : ℕ) → Whole line (lent_from at out) (Some n) part → Lining fans out₀ (back_from at out part) (at + n) (i + 1)
    line_on n says =
        let laid_on = taken out₀ out at (fan_lines i fans) l.lain behind line part n says in
        record {
          few = omega arith;
          short = omega (arith, l.short, five, laid_on.counts, l.lain.counts, length-append (fan_lines i fans) line);
          long = l.long;
          lain = rw (← more) laid_on;
        }

-- and the last line behind them
module _ (fans : List Figures) (place number : ℕ) (out₀ out : List ℕ) (long : length out₀ ≡ 677) (at : ℕ)
    (laid : (at ≡ length (fan_lines 5 fans)) × (out ≡ laid_over (fan_lines 5 fans) out₀)) where
  fans_laid : Laid out₀ out at (fan_lines 5 fans)
  fans_laid = record { counts = laid.0; holds = laid.1 }

  behind_fans : at ≤ length out₀
  behind_fans = omega (arith, laid.0, long, lines_length 5 fans)

  pub fans_within : at ≤ length out
  fans_within = rw (same_length out₀ out at (fan_lines 5 fans) fans_laid behind_fans) behind_fans

  module _ (part : List ℕ) where
    pub no_end : Whole (report_end place number) (lent_from at out) None part → ⊥
    no_end says =
        omega (
          arith,
          not_taken out₀ out at (fan_lines 5 fans) fans_laid behind_fans (report_end place number) part says,
          length-append (fan_lines 5 fans) (report_end place number),
          long,
          lines_length 5 fans,
          report_end_length place number,
        )

    pub text_laid : (n : ℕ) → Whole (report_end place number) (lent_from at out) (Some n) part
        → Laid out₀ (back_from at out part) (at + n) (report_text fans place number)
    unfolding report_text
    text_laid n says = taken out₀ out at (fan_lines 5 fans) fans_laid behind_fans (report_end place number) part n says
