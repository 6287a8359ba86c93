use Rattle.std.proofs.Common.{arith}
use Rattle.streams.proofs.Saying.{still_held, more_held}
use Rattle.streams.proofs.write_out.Goals as goal
use Rattle.streams.proofs.write_out.Goals.{in-Ok, in-Err}

pub loop-preserved : goal.loop-preserved
loop-preserved g c =
    elim c.match-write.branch [
      | in-Ok w ↦ rw w.done-is (record {
        first = λ e. absurd (omega (arith, e, c.if-done-text.false));
        within = omega (arith, w.in-Ok.ensures.bound);
        bytes = more_held _ _ _ _ _ _ c.loop.invariant.bytes w.in-Ok.ensures.bytes;
      })
      | in-Err w ↦ rw w.done-is (record {
        first = λ e. absurd (omega (arith, e, c.if-done-text.false));
        within = c.loop.invariant.within;
        bytes = still_held _ _ _ _ c.loop.invariant.bytes w.in-Err.ensures.bytes;
      })
    ]
