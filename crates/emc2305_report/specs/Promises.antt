-- What is promised of the EMC2305's report of speeds: what Promises.antt of `reports` and of `windows` say of any, and what is its own. docs/CLAIMS.md names the
-- file of each proof.
use Rattle.std.specs.Prelude.{◌≡◌, ℕ, ◌<◌, ◌≤◌, true, false, ◌↔◌, List, ◌∷◌, ◌≢◌}
use Rattle.eventlog.specs.declared.Event.TheVariants.{Sample}
use Rattle.records.specs.Records.{Found}
use Rattle.windows.specs.Promises as windows
use Rattle.reports.specs.Samples.{next_on, samples_from}
use Rattle.reports.specs.Adding.{report}
use Rattle.reports.specs.Promises as reports
use Rattle.emc2305_speed.specs.Speed.{poles_right, rpm}
use Rattle.emc2305_chip.specs.declared.Chip.{Chip}
use Rattle.emc2305_chip.specs.State.{fan_count}
use Rattle.emc2305_report.specs.Speeds.{gauge, refused, speeds_of}

-- 13 just where the poles are outside 1 to 4, and then all else is 0; never 8, and none of 6, 7 and 21, after which it walks on
abbrev pub Numbers : Type 0
Numbers =
    (poles : ℕ) (log : List ℕ)
    → ((speeds_of poles log).number ≡ 13 ↔ poles_right poles ≡ false)
    × (poles_right poles ≡ false → speeds_of poles log ≡ refused)
    × ((speeds_of poles log).number ≢ 8)
    × ((speeds_of poles log).number ≢ 6)
    × ((speeds_of poles log).number ≢ 7)
    × ((speeds_of poles log).number ≢ 21)

-- of poles in range, a sample with a count above 0 is shown with its RPM
abbrev pub Shown : Type 0
Shown = (poles configuration count : ℕ) → poles_right poles ≡ true → 1 ≤ count → (gauge poles).speed configuration count ≡ rpm poles configuration count

-- a sample changes no fan's Configuration 1; one of another fan leaves a fan's samples as they are from the state after it on
abbrev pub FansApart : Type 0
FansApart =
    (poles : ℕ) (log : List ℕ) (c : Chip) (other count fan place next : ℕ) (rest : List Found)
    → ((gauge poles).configuration (next_on (gauge poles) log (Sample other count) c) fan ≡ (gauge poles).configuration c fan)
    × ((other ≢ fan)
    → samples_from (gauge poles) log fan (record { place = place; event = Sample other count; next = next } ∷ rest) c
    ≡ samples_from (gauge poles) log fan rest (next_on (gauge poles) log (Sample other count) c))

-- a sample of a fan that the chip does not have leaves the chip as it was, and counts nowhere
abbrev pub AbsentAside : Type 0
AbsentAside =
    (poles : ℕ) (log : List ℕ) (c : Chip) (other count fan place next : ℕ) (rest : List Found) → fan_count c < other
    → (next_on (gauge poles) log (Sample other count) c ≡ c)
    × (samples_from (gauge poles) log fan (record { place = place; event = Sample other count; next = next } ∷ rest) c
    ≡ samples_from (gauge poles) log fan rest c)

-- what is told of a log, a window at a time, is the text of its report
abbrev pub SameReport : Type 0
SameReport = (poles : ℕ) → reports.SameReport (gauge poles)

-- no figure overflows
abbrev pub FiguresFit : Type 0
FiguresFit = (poles : ℕ) → reports.FiguresFit (gauge poles)

-- when a report ends with 14, and how many records it takes
abbrev pub LimitRule : Type 0
LimitRule = (poles : ℕ) → reports.LimitRule (gauge poles)

-- where it does not, number, place and records are those of a run with room for every reply
abbrev pub AsRun : Type 0
AsRun = (poles : ℕ) → reports.AsRun (gauge poles)

-- after 14 the report is that of the records before it, whatever follows
abbrev pub AfterLimit : Type 0
AfterLimit = (poles : ℕ) → reports.AfterLimit (gauge poles)

-- a log that is extended by records that hold no sample has the same figures
abbrev pub LaterAside : Type 0
LaterAside = (poles : ℕ) → reports.LaterAside (gauge poles)

-- over any cutting into windows the text is that of the whole log
abbrev pub AnyCutting : Type 0
AnyCutting = (poles : ℕ) → windows.AnyCutting (report (gauge poles))

-- a call uses no more than the window; its text fits the buffer and stands at its front; the rest of the buffer is untouched
abbrev pub Kept : Type 0
Kept = (poles : ℕ) → windows.Kept (report (gauge poles))

-- no call is in vain: with 37 bytes of the log, or all that is left, and room for 677, it uses some of the window or lays the text
abbrev pub Onward : Type 0
Onward = (poles : ℕ) → windows.Onward (report (gauge poles)) 677

-- a program that calls with as much as that comes to the end
abbrev pub Finishes : Type 0
Finishes = (poles : ℕ) → windows.Finishes (report (gauge poles)) 677

-- more input is never wanted where nothing follows
abbrev pub EndedWants : Type 0
EndedWants = (poles : ℕ) → windows.EndedWants (report (gauge poles))
