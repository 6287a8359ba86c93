-- A report tells nothing before its end: a call lays the text of where it comes to, or waits for more.
use Rattle.std.proofs.Common.{◌≡◌, ℕ, ◌+◌, ◌-◌, ◌%◌, ◌^◌, Bool, true, false, cond, leb, List, [], length, refl, ◌∙◌, subst, arith, le-leb}
use native.Mathlib.Nat.{sub-zero}
use Rattle.laws.proofs.Laid.{Fitted}
use Rattle.laws.proofs.Tests.{by_test}
use Rattle.eventlog.specs.declared.Event.{Event}
use Rattle.eventlog.specs.declared.reading.Reading.{Reading}
use Rattle.eventlog.specs.declared.reading.Reading.TheVariants.{Record}
use Rattle.eventlog.specs.Reading.{read_at}
use Rattle.records.specs.Records.{records_of}
use Rattle.records.proofs.AllRecords.{record_then}
use Rattle.records.proofs.Along.{over, along, records_at, none_at}
use Rattle.windows.specs.declared.Wants.{Wants}
use Rattle.windows.specs.declared.Wants.TheVariants.{Input}
use Rattle.windows.specs.Teller.{told_from, told}
use Rattle.windows.specs.Window.{waits, wants_last, Paused, closed, call_over, called, answered, out_after, Called}
use Rattle.windows.proofs.Tellings.{told_at, told_none, told_record}
use Rattle.reports.specs.Lines.{report_text}
use Rattle.reports.specs.Samples.{Gauge}
use Rattle.reports.specs.Adding.{Reported, past_limit, report, Come, come_over, come_from}
use Rattle.reports.proofs.Tellers.{text_there}

module _ (g : Gauge) where
  -- the text of where a report comes to
  abbrev pub text_at : ℕ → Come g → List ℕ
  text_at first c = report_text c.reported.fans (first + c.place) c.number

  module _ (log : List ℕ) (first : ℕ) where
    abbrev Tells : ℕ → Type 0
    Tells place = (n : ℕ) (r : Reported g) → told_at (report g) log first place r ≡ text_at first (come_from g log place n r)

    tells_none : (place : ℕ) → over (read_at log place) ≡ true → Tells place
    unfolding come_over
    tells_none place o n r = told_none (report g) log first place r o ∙ rw (none_at log place o) refl

    tells_record : (place : ℕ) (event : Event) (next : ℕ) → read_at log place ≡ Record event next → Tells next → Tells place
    unfolding come_over
    tells_record place event next e rest n r =
        told_record (report g) log first place event next r e
        ∙ rw (record_then log place event next e)
        (by_test (past_limit g log event r) (λ y. rw y refl) (λ f. rw f (rest (n + 1) ((report g).next r log event))))

    pub tells : (place : ℕ) → Tells place
    tells = along log Tells tells_none tells_record

  -- so what is told of a log is the text of where the report comes to
  pub told_is : (log : List ℕ) → told (report g) log ≡ text_at 0 (come_from g log 0 0 (report g).begun)
  unfolding told told_from records_of
  told_is log = tells log 0 0 0 (report g).begun

  module _ (window : List ℕ) (first : ℕ) (ended : Bool) (room : ℕ) where
    -- a call that has come so far waits for more, or lays the text
    abbrev paused_at : Come g → Paused (report g)
    paused_at c =
        cond (waits ended (read_at window c.place))
        (record { progress = record { state = c.reported; used = c.place; text = [] }; wants = Input })
        (closed (report g) room (text_at first c) (record { state = c.reported; used = c.place; text = [] }))

    abbrev Calls : ℕ → Type 0
    Calls place =
        (n : ℕ) (r : Reported g)
        → call_over (report g) window first ended room (records_at window place) (record { state = r; used = place; text = [] })
        ≡ paused_at (come_from g window place n r)

    calls_none : (place : ℕ) → over (read_at window place) ≡ true → Calls place
    unfolding come_over call_over
    calls_none place o n r = rw (none_at window place o) refl

    waits_not : (reading : Reading) (event : Event) (next : ℕ) → reading ≡ Record event next → waits ended reading ≡ false
    waits_not reading event next e = by_test ended (λ y. rw (e, y)) (λ f. rw (e, f))

    calls_record : (place : ℕ) (event : Event) (next : ℕ) → read_at window place ≡ Record event next → Calls next → Calls place
    unfolding come_over call_over
    calls_record place event next e rest n r =
        rw (record_then window place event next e)
        (by_test (past_limit g window event r) (λ y. rw (y, waits_not (read_at window place) event next e) refl)
        (λ f. rw (f, le-leb 0 (room - 0) (omega arith)) (rest (n + 1) ((report g).next r window event))))

    pub calls : (place : ℕ) → Calls place
    calls = along window Calls calls_none calls_record

  -- what the code of a call has answered, where its walk came to `c`
  module _ (r : Reported g) (first : ℕ) (window : List ℕ) (ended : Bool) (out : List ℕ) (c : Come g) (is : c ≡ come_from g window 0 0 r)
      (place : ℕ) (stands : place ≡ (first + c.place) % 2 ^ 64) where
    called_is : called (report g) r first window ended (length out) ≡ paused_at window first ended (length out) c
    unfolding called records_of
    called_is = rw is (calls window first ended (length out) 0 0 r)

    pub waits_called : waits ended (read_at window c.place) ≡ true → Called (report g) r first window ended out c.reported place c.place 0 Input out
    unfolding answered out_after
    waits_called w = record { answers = rw (called_is, w, stands) refl; lays = rw (called_is, w) refl }

    lays_so : waits ended (read_at window c.place) ≡ false → (fits : Bool) (len : ℕ) (last : List ℕ) → Fitted (text_at first c) out fits len last
        → (wants : Wants) → wants ≡ wants_last fits → Called (report g) r first window ended out c.reported place c.place len wants last
    unfolding answered out_after
    lays_so w fits len last fitted wants so =
        by_test (leb (length (text_at first c)) (length out))
        (λ y.
        record {
          answers = rw (called_is, w, sub-zero (length out), stands, so, fitted.fits_is, fitted.len_is, y) refl;
          lays = fitted.lays ∙ rw (called_is, w, sub-zero (length out), y) refl;
        })
        (λ n.
        record {
          answers = rw (called_is, w, sub-zero (length out), stands, so, fitted.fits_is, fitted.len_is, n) refl;
          lays = fitted.lays ∙ rw (called_is, w, sub-zero (length out), n) refl;
        })

    -- the text goes by the place as a 64-bit number
    pub lays_called : waits ended (read_at window c.place) ≡ false → (fits : Bool) (len : ℕ) (last : List ℕ)
        → Fitted (report_text c.reported.fans place c.number) out fits len last → (wants : Wants) → wants ≡ wants_last fits
        → Called (report g) r first window ended out c.reported place c.place len wants last
    lays_called w fits len last fitted =
        let same : report_text c.reported.fans place c.number ≡ text_at first c = rw stands (text_there c.reported.fans (first + c.place) c.number) in
        lays_so w fits len last (subst (λ (text : List ℕ). Fitted text out fits len last) same fitted)
