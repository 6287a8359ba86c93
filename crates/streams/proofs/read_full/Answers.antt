use Rattle.std.proofs.Common.{rules}
use Rattle.streams.proofs.Reading.{front_more, more_read}
use Rattle.streams.proofs.read_full.Goals as goal

pub loop-len-preserved : goal.loop-len-preserved
loop-len-preserved g c =
    record {
      within = search rules;
      bytes = more_read _ _ _ _ _ _
          (front_more _ _ _ _ _ c.loop-len.invariant.within c.in-Ok-1-to-max.ensures.bound.0)
          c.loop-len.invariant.bytes c.in-Ok-1-to-max.ensures.bytes.0;
    }
