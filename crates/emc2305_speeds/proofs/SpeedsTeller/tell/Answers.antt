use Rattle.windows.proofs.Buffers.{laid_within}
use Rattle.emc2305_report.proofs.Promises.{steady}
use Rattle.emc2305_speeds.proofs.SpeedsTeller.tell.Goals as goal

pub returns : goal.returns
returns c = record { told = c.tell.ensures; within = laid_within (steady c.args.self.now.poles) c.tell.ensures }
