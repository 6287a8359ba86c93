-- `emc2305_report::speeds` meets its contract.
use Rattle.std.proofs.Common.{rules, ◌≡◌, true, false, refl}
use Rattle.reports.proofs.SameReport.{report_is}
use Rattle.emc2305_speed.specs.Speed.{poles_right}
use Rattle.emc2305_report.specs.Speeds.{gauge, speeds_of}
use Rattle.emc2305_report.proofs.Fits.{speed_fits}
use Rattle.emc2305_report.proofs.speeds.Goals as goal

pub returns-then-not-poles_right : goal.returns-then-not-poles_right
unfolding speeds_of
returns-then-not-poles_right c =
    let off : poles_right c.args.poles ≡ false = search rules in
    rw (off, c.no_fans-fans.ensures) refl

pub returns : goal.returns
unfolding speeds_of
returns c =
    let a = c.args in
    let on : poles_right a.poles ≡ true = search rules in
    rw on
    (report_is (gauge a.poles) (speed_fits a.poles) a.log.now _ _ _ _ _
    (rw (c.unpowered.ensures, c.no_fans-fans.ensures) at c.walk-walked.ensures))
