-- A log that goes on: the report walks on from where it had come, and not at all after 14 (specs/Promises.antt).
use Rattle.std.proofs.Common.{◌≡◌, ℕ, ◌+◌, ◌^◌, ◌<◌, true, false, eqb, List, ◌++◌, sym, refl, ap, ◌∙◌, eqb-true}
use borrow.Author.Tests.{eqb-false}
use Rattle.laws.proofs.Tests.{by_test}
use Rattle.eventlog.specs.declared.Event.{Event}
use Rattle.eventlog.specs.declared.reading.Reading.TheVariants.{Record}
use Rattle.eventlog.specs.Reading.{read_at}
use Rattle.eventlog.proofs.Accepted.{accepted, read_good}
use Rattle.eventlog.proofs.ByKind.{no_sample}
use Rattle.eventlog.proofs.SaidElsewhere.{said_longer}
use Rattle.records.proofs.AllRecords.{record_then}
use Rattle.records.proofs.Along.{over, along, records_at, none_at}
use Rattle.walks.specs.Device.{Lawful}
use Rattle.windows.proofs.Tellings.{record_longer}
use Rattle.reports.specs.Samples.{Gauge, is_taken}
use Rattle.reports.specs.Report.{Report, report_of}
use Rattle.reports.specs.Adding.{Reported, at_full, with_event, past_limit, fans_after, report, Come, come_over, come_from}
use Rattle.reports.specs.Promises.{AfterLimit, NoSamples, LaterAside}
use Rattle.reports.proofs.Limits.{not_fourteen}
use Rattle.reports.proofs.SameReport.{comes_whole}

module _ (g : Gauge) (lawful : Lawful g.device) (log more : List ℕ) where
  -- a record of the log does in the longer one what it does in the log
  module _ (place : ℕ) (event : Event) (next : ℕ) (e : read_at log place ≡ Record event next) where
    longer_record : read_at (log ++ more) place ≡ Record event next
    longer_record = record_longer log more place event next e

    same_past : (r : Reported g) → past_limit g (log ++ more) event r ≡ past_limit g log event r
    same_past r =
        let s = lawful.goes_by_said r.state (log ++ more) log event event 32 (read_good (log ++ more) place event next longer_record)
        (read_good log place event next e) (said_longer log more event (accepted log place event next e).good) in
        rw s.0 refl

    same_next : (r : Reported g) → (report g).next r (log ++ more) event ≡ (report g).next r log event
    same_next r =
        let s = lawful.goes_by_said r.state (log ++ more) log event event 32 (read_good (log ++ more) place event next longer_record)
        (read_good log place event next e) (said_longer log more event (accepted log place event next e).good) in
        rw (s.0, s.1) refl

  -- what the walk over the longer log comes to, where the walk over the log came to `c`
  abbrev GoesOn : ℕ → ℕ → Reported g → Come g → Type 0
  GoesOn place n r c =
      ((c.number ≡ 14 → come_from g (log ++ more) place n r ≡ c)
      × ((c.number ≡ 14 → ⊥) → come_from g (log ++ more) place n r ≡ come_from g (log ++ more) c.place c.records c.reported))

  abbrev Continues : ℕ → Type 0
  Continues place = (n : ℕ) (r : Reported g) → GoesOn place n r (come_from g log place n r)

  continues_none : (place : ℕ) → over (read_at log place) ≡ true → Continues place
  unfolding come_over
  continues_none place o n r = rw (none_at log place o) (λ z. absurd (not_fourteen log place z), λ z. refl)

  continues_record : (place : ℕ) (event : Event) (next : ℕ) → read_at log place ≡ Record event next → Continues next → Continues place
  unfolding come_over
  continues_record place event next e rest n r =
      let here = record_then log place event next e in
      let there = record_then (log ++ more) place event next (longer_record place event next e) in
      by_test (past_limit g log event r)
      (λ y.
      rw (here, y)
      (λ z. rw (there, same_past place event next e r, y) refl, λ z. absurd (z refl)))
      (λ f.
      rw (here, there, same_past place event next e r, f, same_next place event next e r)
      (rest (n + 1) ((report g).next r log event)))

  pub continues : (place : ℕ) → Continues place
  continues = along log Continues continues_none continues_record

-- records that hold no sample leave the figures
module _ (g : Gauge) (log : List ℕ) where
  abbrev Leaves : ℕ → Type 0
  Leaves place = (n : ℕ) (r : Reported g) → NoSamples (records_at log place) → (come_from g log place n r).reported.fans ≡ r.fans

  leaves_record : (place : ℕ) (event : Event) (next : ℕ) → read_at log place ≡ Record event next → Leaves next → Leaves place
  unfolding come_over NoSamples at_full with_event
  leaves_record place event next e rest n r none =
      let here = record_then log place event next e in
      let h = rw here at none in
      let past : past_limit g log event r ≡ false =
      by_test (is_taken g log event r.state) (λ y. rw y (no_sample false _ event h.0)) (λ f. rw f) in
      let same : fans_after g log event r ≡ r.fans =
      by_test (is_taken g log event r.state) (λ y. rw y (no_sample r.fans _ event h.0)) (λ f. rw f) in
      rw (here, past) (rest (n + 1) ((report g).next r log event) h.1 ∙ same)

  leaves : (place : ℕ) → Leaves place
  unfolding come_over
  leaves = along log Leaves (λ place o n r none. rw (none_at log place o) refl) leaves_record

module _ (g : Gauge) (fits : (configuration count : ℕ) → g.speed configuration count < 2 ^ 32) (lawful : Lawful g.device) where
  -- the report of where a walk comes to
  abbrev report_at : Come g → Report
  report_at c = record { number = c.number; place = c.place; records = c.records; fans = c.reported.fans }

  walked : List ℕ → Come g
  walked log = come_from g log 0 0 (report g).begun

  whole : (log : List ℕ) → report_at (walked log) ≡ report_of g log
  unfolding report_of walked
  whole log = ap report_at (comes_whole g fits log)

  pub after_limit : AfterLimit g
  unfolding walked
  after_limit log more e =
      let same = (continues g lawful log more 0 0 (report g).begun).0 (ap (λ (r : Report). r.number) (whole log) ∙ e) in
      sym (whole (log ++ more)) ∙ ap report_at same ∙ whole log

  pub later_aside : LaterAside g
  unfolding walked
  later_aside log more none =
      by_test (eqb (report_of g log).number 14)
      (λ y. ap (λ (r : Report). r.fans) (after_limit log more (eqb-true (report_of g log).number 14 y)))
      (λ n.
      let c = walked log in
      let is = whole log in
      let on = (continues g lawful log more 0 0 (report g).begun).1 (λ z. eqb-false (report_of g log).number 14 n (sym (ap (λ (r : Report). r.number) is) ∙ z)) in
      let left = leaves g (log ++ more) c.place c.records c.reported (rw (sym (ap (λ (r : Report). r.place) is)) at none) in
      sym (ap (λ (r : Report). r.fans) (whole (log ++ more))) ∙ ap (λ (d : Come g). d.reported.fans) on ∙ left ∙ ap (λ (r : Report). r.fans) is)
