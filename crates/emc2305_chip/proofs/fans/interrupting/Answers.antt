use Rattle.std.proofs.Common.{ℕ, refl, ap, ◌∙◌}
use Rattle.emc2305_chip.specs.Fans.{fan_at, interrupts, interrupting}
use Rattle.emc2305_chip.proofs.Bits.{none_yet, all_places, interrupting_next}
use Rattle.emc2305_chip.proofs.fans.interrupting.Goals as goal

pub loop-i-init : goal.loop-i-init
unfolding interrupting
loop-i-init c = rw (none_yet c.fans-n.result)

pub loop-i-preserved : goal.loop-i-preserved
loop-i-preserved c =
    let l = c.loop-i in
    interrupting_next c.args.enable c.args.fans c.fans-n.result l.i l.on (interrupts c.args.enable l.i (fan_at c.args.fans l.i)) l.invariant refl

pub returns : goal.returns
returns c =
    c.loop-i.invariant
    ∙ ap (λ (k : ℕ). interrupting c.args.enable c.args.fans k) (all_places c.args.part c.fans-n.result c.loop-i.i c.fans-n.ensures c.loop-i-test.false)
