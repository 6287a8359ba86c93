-- `emc2305_report::tell` meets its contract.
use Rattle.std.proofs.Common.{rules, ◌≡◌, sym, refl, ap, ◌∙◌}
use Rattle.eventlog.specs.Numbers.{number_stopped}
use Rattle.windows.specs.Window.{waits, wants_last}
use Rattle.text.proofs.Wholes.{fitted}
use Rattle.reports.proofs.Calls.{waits_called, lays_called}
use Rattle.emc2305_report.specs.Speeds.{gauge}
use Rattle.emc2305_report.proofs.tell.Goals as goal

pub returns-then-waits : goal.returns-then-waits
returns-then-waits c =
    let a = c.args in
    waits_called (gauge a.poles) _ a.place a.window.now a.ended a.out.now _ c.walk-walked.ensures _ refl
    (ap (waits a.ended) (sym (c.from-reading.ensures ∙ c.read.ensures)) ∙ sym c.waits.ensures ∙ c.if-waits.true)

pub returns : goal.returns
returns c =
    let a = c.args in
    let number : c.map_or-number.result ≡ number_stopped c.walk-walked.result.stop = search rules in
    rw c.unwrap_or.ensures
    (lays_called (gauge a.poles) _ a.place a.window.now a.ended a.out.now _ c.walk-walked.ensures _ refl
    (ap (waits a.ended) (sym (c.from-reading.ensures ∙ c.read.ensures)) ∙ sym c.waits.ensures ∙ c.if-waits.false) _ _ _
    (fitted _ _ _ _ (rw number at c.lay-text.ensures)) _ (c.wants_last.ensures ∙ ap wants_last c.is_some.ensures))
