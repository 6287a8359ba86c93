-- The promises of a report (specs/Promises.antt).
use Rattle.std.proofs.Common.{◌≡◌, ℕ, ◌+◌, ◌^◌, ◌<◌, ◌≤◌, leb, List, length, sym, refl, ap, ◌∙◌, ⊎_elim, zero-add, arith, take_all, le-ltb, leb-true}
use Rattle.eventlog.specs.Numbers.{number_read}
use Rattle.eventlog.specs.Reading.{read_at}
use Rattle.records.specs.Records.{records_of}
use Rattle.records.specs.Promises.{place_after}
use Rattle.walks.specs.Device.{Lawful}
use Rattle.walks.specs.Run.{run_of}
use Rattle.walks.proofs.Ends as run_ends
use Rattle.walks.proofs.Rooms as run-rooms
use Rattle.reports.specs.Figures.{Sample, speeds, figures_of}
use Rattle.reports.specs.Samples.{Gauge, samples_of}
use Rattle.reports.specs.Report.{limit, reported, report_of}
use Rattle.reports.specs.Lines.{no_figures}
use Rattle.reports.specs.Promises.{SameReport, FiguresFit, AsRun}
use Rattle.reports.proofs.Added.{both, sum_fits}
use Rattle.reports.proofs.Bounds.{fits_there, extremes_fit}
use Rattle.reports.proofs.Calls.{text_at, told_is}
use Rattle.reports.proofs.Fronts.{each_one, got_up}
use Rattle.reports.proofs.Limits.{reported_within, takes_all}
use Rattle.reports.proofs.SameReport.{comes_whole}

module _ (g : Gauge) (fits : (configuration count : ℕ) → g.speed configuration count < 2 ^ 32) where
  pub same_report : SameReport g
  unfolding report_of
  same_report log = told_is g log ∙ ap (text_at g 0) (comes_whole g fits log) ∙ rw (zero-add (place_after 0 (reported g log))) refl

  -- the figures of a fan's samples, where these are within the limit
  all_fit : (samples : List Sample) → length samples ≤ limit
      → ((figures_of g.speed samples).samples + (figures_of g.speed samples).zeros ≤ 65535)
      × ((figures_of g.speed samples).lowest < 2 ^ 32)
      × ((figures_of g.speed samples).highest < 2 ^ 32)
      × ((figures_of g.speed samples).total < 2 ^ 48)
  unfolding figures_of
  all_fit samples h =
      let e = extremes_fit (speeds g.speed samples) (fits_there g.speed fits samples) in
      (omega (arith, both g.speed samples), e.0, e.1, omega (arith, sum_fits g.speed fits samples))

  pub figures_fit : FiguresFit g
  unfolding report_of
  figures_fit log i h =
      let own = samples_of g log (i + 1) (reported g log) in
      let few = leb-true (length own) limit (each_one 5 1 (λ fan. leb (length (samples_of g log fan (reported g log))) limit) (reported_within g log) i h) in
      rw (got_up 5 1 (λ fan. figures_of g.speed (samples_of g log fan (reported g log))) i no_figures h) (all_fit own few)

  pub as_run : Lawful g.device → AsRun g
  unfolding report_of
  as_run lawful log room h other =
      let d = g.device in
      let run = run_of d log room in
      let turn = run_ends.in_turn_lem d lawful log room in
      let not-8 : run.number ≡ 8 → ⊥ = (run-rooms.enough_room d lawful log room 0).1 h in
      let records : run.records ≡ length (records_of log) = turn.1 not-8 in
      let place : run.place ≡ place_after 0 (records_of log) =
      turn.4 ∙ ap (place_after 0) (take_all run.records (records_of log) (omega (arith, records))) in
      let number : number_read (read_at log run.place) ≡ run.number =
      ⊎_elim (λ e. rw e.1 (sym e.0))
      (⊎_elim (λ e. rw e.2 refl) (λ e. absurd (not-8 e.0))) (run_ends.three_ways d lawful log room) in
      rw (takes_all g log other, le-ltb (length (records_of log)) (length (records_of log)) (omega arith))
      (rw (← place) number, sym place, sym records)
