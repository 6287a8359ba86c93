use Rattle.std.proofs.Common.{◌≡◌, ℕ, arith, sym, ap, ◌∙◌}
use Rattle.laws.specs.Repeat.{repeated}
use Rattle.emc2305_chip.specs.Ticks.{chip_ticked}
use Rattle.emc2305_chip.proofs.Together.{fires_first, quiet_first}
use Rattle.emc2305_chip.proofs.Chip.ticks.Goals as goal

-- the tick in which the watchdog fires
pub loop-left-preserved-then-fires : goal.loop-left-preserved-then-fires
loop-left-preserved-then-fires c =
    fires_first c.loop-left.left c.loop-left.chip _ _ _ (omega arith) (sym c.fires.ensures ∙ c.if-fires.true) c.all_fired.ensures c.tick.ensures
    c.with_watch-chip.ensures
    ∙ c.loop-left.invariant

-- those in which it does not
pub loop-left-preserved : goal.loop-left-preserved
loop-left-preserved c =
    quiet_first c.loop-left.left c.loop-left.chip _ c.quiet-quiet.ensures _ _ c.all_ticks.ensures c.with_watch-chip-else-fires.ensures
    ∙ c.loop-left.invariant

pub returns : goal.returns
unfolding repeated
returns c =
    let e : c.loop-left.left ≡ 0 = omega arith in
    ap (λ (k : ℕ). repeated k chip_ticked c.loop-left.chip) (sym e) ∙ c.loop-left.invariant
