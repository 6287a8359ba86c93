-- What is promised of a report, on any device. docs/CLAIMS.md names the file of each proof.
use Rattle.std.specs.Prelude.{◌≡◌, ℕ, ◌+◌, ◌*◌, ◌^◌, ◌<◌, ◌≤◌, true, false, ◌↔◌, List, [], ◌∷◌, ◌++◌, length, take, ◌≢◌, slice_index, slice_index_or}
use Rattle.eventlog.specs.Kinds.{is_sample}
use Rattle.records.specs.Records.{Found, records_from, records_of}
use Rattle.walks.specs.Run.{run_of}
use Rattle.windows.specs.Teller.{told}
use Rattle.reports.specs.Figures.{Sample, least, greatest, sum, figures_of}
use Rattle.reports.specs.Samples.{Gauge}
use Rattle.reports.specs.Report.{within_limit, reported, report_of}
use Rattle.reports.specs.Lines.{no_figures, report_text}
use Rattle.reports.specs.Adding.{report}

-- every number lies between the least and the greatest, which are two of them; their sum lies between the least and the greatest times how many they are
abbrev pub Extremes : Type 0
Extremes =
    (l : List ℕ)
    → ((i : ℕ) → i < length l → (least l ≤ slice_index l i) × (slice_index l i ≤ greatest l))
    × (0 < length l → ((i : ℕ) × (i < length l) × (slice_index l i ≡ least l)) × ((k : ℕ) × (k < length l) × (slice_index l k ≡ greatest l)))
    × (length l * least l ≤ sum l) × (sum l ≤ length l * greatest l)

-- each sample of a fan is counted once, among those with a speed or among those with count 0; the total is at least number x lowest and at most number x highest
abbrev pub FiguresRule : Type 0
FiguresRule =
    (speed : ℕ → ℕ → ℕ) (samples : List Sample)
    → ((figures_of speed samples).samples + (figures_of speed samples).zeros ≡ length samples)
    × ((figures_of speed samples).samples * (figures_of speed samples).lowest ≤ (figures_of speed samples).total)
    × ((figures_of speed samples).total ≤ (figures_of speed samples).samples * (figures_of speed samples).highest)

-- what is told of a log, a window at a time, is the text of its report
abbrev pub SameReport : Gauge → Type 0
SameReport g = (log : List ℕ) → told (report g) log ≡ report_text (report_of g log).fans (report_of g log).place (report_of g log).number

-- no figure overflows: of each fan the samples are at most 65,535, those with count 0 included, speeds have 32 bits, and the total has 48
abbrev pub FiguresFit : Gauge → Type 0
FiguresFit g =
    (log : List ℕ) (i : ℕ) → i < 5
    → ((slice_index_or (report_of g log).fans i no_figures).samples + (slice_index_or (report_of g log).fans i no_figures).zeros ≤ 65535)
    × ((slice_index_or (report_of g log).fans i no_figures).lowest < 2 ^ 32)
    × ((slice_index_or (report_of g log).fans i no_figures).highest < 2 ^ 32)
    × ((slice_index_or (report_of g log).fans i no_figures).total < 2 ^ 48)

-- a report takes as many of the log's records as it counts; with these no fan has more than 65,535 samples; it is 14 just where a fan has more in the whole log, and
-- then with one record more a fan has
abbrev pub LimitRule : Gauge → Type 0
LimitRule g =
    (log : List ℕ)
    → (reported g log ≡ take (report_of g log).records (records_of log))
    × (within_limit g log (reported g log) ≡ true)
    × ((report_of g log).number ≡ 14 ↔ within_limit g log (records_of log) ≡ false)
    × ((report_of g log).number ≡ 14 → within_limit g log (take ((report_of g log).records + 1) (records_of log)) ≡ false)

-- where a report does not end with 14, its number, its place and its count of records are those of a run that has 32 bytes for each record
abbrev pub AsRun : Gauge → Type 0
AsRun g =
    (log : List ℕ) (room : ℕ) → 32 * length (records_of log) ≤ room → ((report_of g log).number ≢ 14)
    → ((report_of g log).number ≡ (run_of g.device log room).number)
    × ((report_of g log).place ≡ (run_of g.device log room).place)
    × ((report_of g log).records ≡ (run_of g.device log room).records)

-- after 14 the report is that of the records before it, whatever follows
abbrev pub AfterLimit : Gauge → Type 0
AfterLimit g = (log more : List ℕ) → (report_of g log).number ≡ 14 → report_of g (log ++ more) ≡ report_of g log

-- records that hold no sample
unfoldable pub NoSamples : List Found → Type 0
NoSamples [] = Unit
NoSamples (found ∷ rest) = (is_sample found.event ≡ false) × NoSamples rest

-- a log that is extended so that the records from its report's place on hold no sample has the same figures
abbrev pub LaterAside : Gauge → Type 0
LaterAside g =
    (log more : List ℕ)
    → NoSamples (records_from (length (log ++ more)) (log ++ more) (report_of g log).place)
    → (report_of g (log ++ more)).fans ≡ (report_of g log).fans
