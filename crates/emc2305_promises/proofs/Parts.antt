-- The part of a run between two of its records (specs/Trace.antt).
use Rattle.walks.proofs.Sequences as any
use Rattle.emc2305.specs.Device.{emc2305}
use Rattle.emc2305.proofs.Device.{lawful}
use Rattle.emc2305_promises.specs.Trace.{walk_after, part, PartOfRun, RampInRun}
use Rattle.emc2305_promises.proofs.Demand3.{ramp_promise}

pub part_of_run : PartOfRun
part_of_run = any.part_of_run emc2305 lawful

pub ramp_in_run : RampInRun
ramp_in_run log room j n i d g s u p before quiet =
    rw ((part_of_run log room).0 j n) (ramp_promise i d g s u p (walk_after log room j).state (part log room j n) before quiet)
