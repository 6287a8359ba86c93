-- `reports::lines::lay_all` meets its contract.
use Rattle.std.proofs.Common.{◌≡◌, ap, length, Some}
use Rattle.reports.specs.Lines.{fan_lines}
use Rattle.reports.proofs.Laying.{no_end, text_laid}
use Rattle.reports.proofs.lines.lay_all.Goals as goal

pub returns-in_err-last : goal.returns-in_err-last
returns-in_err-last c =
    let fans = c.in_ok-at.ensures in
    let at : c.in_ok-at.at ≡ length (fan_lines 5 c.args.fans) = let e = fans.0 in cc in
    absurd (no_end c.args.fans c.args.place c.args.number _ _ c.requires _ (at, fans.1) _ c.in_err-last.ensures)

pub returns : goal.returns
returns c =
    let fans = c.in_ok-at.ensures in
    let at : c.in_ok-at.at ≡ length (fan_lines 5 c.args.fans) = let e = fans.0 in cc in
    let laid = text_laid c.args.fans c.args.place c.args.number _ _ c.requires _ (at, fans.1) _ _ c.in_ok-last.ensures in
    (ap Some laid.counts, laid.holds)
