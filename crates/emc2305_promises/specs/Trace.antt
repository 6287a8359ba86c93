-- Demand 3 over a log: the part of a run between two of its records.
use Rattle.std.specs.Prelude.{◌≡◌, true, List, ℕ, ◌+◌, ◌*◌, ◌/◌, ◌%◌}
use Rattle.emc2305_fan.specs.Ramp.{moved}
use Rattle.walks.specs.Run.{Walk}
use Rattle.walks.specs.Sequence.{Handed}
use Rattle.walks.specs.Sequence as any
use Rattle.walks.specs.Promises as promised
use Rattle.emc2305.specs.Device.{emc2305}
use Rattle.emc2305_promises.specs.Ramp.{throughout, taken_ticks, undisturbed, Ramping}

-- how far a run has come after j of the records that it walks
abbrev pub walk_after : List ℕ → ℕ → ℕ → Walk emc2305
walk_after = any.walk_after emc2305

-- the events of the n records that it walks next, as it hands them to its steps: with its log, and the rest of the reply buffer
abbrev pub part : List ℕ → ℕ → ℕ → ℕ → List Handed
part = any.part emc2305

-- the chip after j + n records is the chip after j, with the events of n records run on it; after all of them it is the chip at the run's end
abbrev pub PartOfRun : Type 0
PartOfRun = promised.PartOfRun emc2305

-- demand 3 between two records of a run
abbrev pub RampInRun : Type 0
RampInRun =
    (log : List ℕ) (room j n i d g s u p : ℕ)
    → Ramping i d g s u p (walk_after log room j).state
    → throughout (undisturbed i) (part log room j n) (walk_after log room j).state ≡ true
    → let t : ℕ = taken_ticks (part log room j n) (walk_after log room j).state in
    Ramping i (moved d g (s * ((p + t) / u))) g s u ((p + t) % u) (walk_after log room (j + n)).state
