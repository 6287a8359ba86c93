use Rattle.std.proofs.Common.{arith}
use Rattle.text.proofs.Rowed.{here, next_room, one_rowed, all_rowed}
use Rattle.text.proofs.rows.lay.Goals as goal

pub lay_next-at-requires : goal.lay_next-at-requires
lay_next-at-requires c = next_room _ _ _ _ _ c.loop-n.invariant c.requires (omega arith)

pub loop-n-preserved : goal.loop-n-preserved
loop-n-preserved c =
    let laid = c.lay_next-at.ensures in
    one_rowed _ _ _ _ _ c.loop-n.invariant c.requires (omega arith) _ _ laid.0 laid.1

pub bounds-out-at : goal.bounds-out-at
bounds-out-at c = here _ _ _ _ _ c.loop-n.invariant c.requires

pub returns : goal.returns
returns c = all_rowed _ _ _ _ _ c.loop-n.invariant c.requires (omega arith)
