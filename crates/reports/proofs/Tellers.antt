-- A report is a teller as the theorems on windows ask for (specs/Teller.antt of `windows`).
use Rattle.std.proofs.Common.{◌≡◌, ℕ, ◌%◌, ◌^◌, false, List, sym, refl, ap, ◌∙◌, arith}
use Rattle.eventlog.specs.declared.Event.{Event}
use Rattle.eventlog.specs.declared.Event.TheVariants.{Ticks}
use Rattle.eventlog.specs.Kinds.{on_sample}
use Rattle.eventlog.specs.Layout.{Said, transfer, itself, said}
use Rattle.eventlog.proofs.ByKind.{by_transfer, no_transfer}
use Rattle.text.proofs.Lines.{report_end_there}
use Rattle.walks.specs.Device.{Lawful}
use Rattle.windows.specs.Teller.{Steady, Short}
use Rattle.reports.specs.declared.Figures.{Figures}
use Rattle.reports.specs.Lines.{report_text}
use Rattle.reports.specs.Samples.{Gauge}
use Rattle.reports.specs.Adding.{at_full, with_event, report}
use Rattle.reports.proofs.Laying.{text_length}

-- what is said of samples goes by what an event says
abbrev event_of_lem : Said → Event
event_of_lem (transfer reads address bytes) = Ticks 0
event_of_lem (itself event) = event

same_sample : {X : Type 0} (other : X) (of : ℕ → ℕ → X) (a b : List ℕ) (e f : Event) → said a e ≡ said b f → on_sample other of e ≡ on_sample other of f
same_sample other of a b e f same = sym (shown a e) ∙ ap (λ (s : Said). on_sample other of (event_of_lem s)) same ∙ shown b f
  where
    shown : (log : List ℕ) (event : Event) → on_sample other of (event_of_lem (said log event)) ≡ on_sample other of event
    shown log event =
        by_transfer event (λ reads address place n is. rw is refl) (λ no. rw (no_transfer (itself event) _ event no) refl)

pub text_there : (fans : List Figures) (place number : ℕ) → report_text fans (place % 2 ^ 64) number ≡ report_text fans place number
unfolding report_text
text_there fans place number = rw (report_end_there (place % 2 ^ 64) place number refl) refl

module _ (g : Gauge) (lawful : Lawful g.device) where
  pub steady : Steady (report g)
  unfolding at_full with_event
  steady =
      record {
        goes_by_said = λ r a b e f place good-a good-b same.
            let s = lawful.goes_by_said r.state a b e f 32 good-a good-b same in (
              rw (s.0, same_sample false _ a b e f same) refl,
              refl,
              rw (s.0, s.1, same_sample r.fans _ a b e f same) refl,
            );
        piece_places = λ r log event place. refl;
        closing_places = λ r place number. text_there r.fans place number;
      }

  pub short : Short (report g) 677
  short =
      record {
        piece_short = λ r log place event next at e. omega arith;
        closing_short = λ r place number. text_length r.fans place number;
      }
