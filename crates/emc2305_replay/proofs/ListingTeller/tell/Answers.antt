use Rattle.windows.proofs.Buffers.{laid_within}
use Rattle.emc2305_listing.proofs.Promises.{steady}
use Rattle.emc2305_replay.proofs.ListingTeller.tell.Goals as goal

pub returns : goal.returns
returns c = record { told = c.list.ensures; within = laid_within steady c.list.ensures }
