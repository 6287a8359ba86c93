use Rattle.std.proofs.Common.{ℕ, ap, ◌∙◌}
use Rattle.emc2305_chip.specs.Fans.{any_busy}
use Rattle.emc2305_chip.proofs.Bits.{none_yet, all_places}
use Rattle.emc2305_chip.proofs.Together.{busy_next}
use Rattle.emc2305_chip.proofs.fans.any_busy.Goals as goal

pub loop-i-init : goal.loop-i-init
unfolding any_busy
loop-i-init c = rw (none_yet c.fans-n.result)

pub loop-i-preserved : goal.loop-i-preserved
loop-i-preserved c = busy_next c.args.fans c.fans-n.result c.loop-i.i c.loop-i.on c.is_busy.result c.loop-i.invariant c.is_busy.ensures

pub returns : goal.returns
returns c =
    c.loop-i.invariant
    ∙ ap (λ (k : ℕ). any_busy c.args.fans k) (all_places c.args.part c.fans-n.result c.loop-i.i c.fans-n.ensures c.loop-i-test.false)
