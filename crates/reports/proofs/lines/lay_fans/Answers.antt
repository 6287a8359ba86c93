-- `reports::lines::lay_fans` meets its contract.
use Rattle.std.proofs.Common.{◌≡◌, ℕ, refl, ap, arith, Some}
use Rattle.laws.proofs.Laid.{all_laid}
use Rattle.reports.specs.Lines.{fan_lines}
use Rattle.reports.proofs.Laying.{at_within, no_none, line_on}
use Rattle.reports.proofs.lines.lay_fans.Goals as goal

pub loop-i-init : goal.loop-i-init
unfolding fan_lines
loop-i-init c =
    record {
      few = omega arith;
      short = omega arith;
      long = c.requires;
      lain = record { counts = refl; holds = refl };
    }

pub slice_bounds-row-count : goal.slice_bounds-row-count
slice_bounds-row-count c = at_within _ _ _ _ _ c.loop-i.invariant

pub returns-in_err-line : goal.returns-in_err-line
returns-in_err-line c =
    absurd (no_none _ _ _ _ _ c.loop-i.invariant (omega arith) _ c.row-row.ensures _ c.in_err-line.ensures)

pub loop-i-preserved : goal.loop-i-preserved
loop-i-preserved c = line_on _ _ _ _ _ c.loop-i.invariant (omega arith) _ c.row-row.ensures _ _ c.in_ok-line.ensures

pub returns : goal.returns
returns c =
    let l = c.loop-i.invariant in
    let all : c.loop-i.i ≡ 5 = omega arith in
    let laid = all_laid _ _ _ _ l.lain _ (ap (λ (n : ℕ). fan_lines n c.args.fans) all) in
    (ap Some laid.0, laid.1)
