use Rattle.std.proofs.Common.{arith, sym, ◌∙◌}
use mathlib.Core.Path.{ap₂}
use borrow.Author.Tests.{ne_eqb}
use Rattle.emc2305_chip.specs.Map.{of_fan}
use Rattle.emc2305_chip.proofs.Maps.{maps_fan, maps_low, maps_high}
use Rattle.emc2305_chip.proofs.map.register_of.Goals as goal

pub returns-in-3-to-7 : goal.returns-in-3-to-7
returns-in-3-to-7 c =
    let a = c.args in
    c.of_fan.ensures ∙ sym (maps_fan a.fans a.address (omega arith) (omega arith) ∙ ap₂ (of_fan a.fans) (omega arith) (omega arith))

-- below 20h
pub returns-in_default : goal.returns-in_default
returns-in_default c =
    let a = c.args.address in
    sym
    (maps_low c.args.fans a (omega arith) (ne_eqb a 0x20 (omega arith)) (ne_eqb a 0x24 (omega arith)) (ne_eqb a 0x25 (omega arith))
    (ne_eqb a 0x26 (omega arith)) (ne_eqb a 0x27 (omega arith)) (ne_eqb a 0x29 (omega arith)))

-- 80h to DFh
pub returns-in_default-2 : goal.returns-in_default-2
returns-in_default-2 c =
    let a = c.args.address in
    sym (maps_high c.args.fans a (omega arith) (omega arith) (ne_eqb a 0xEF (omega arith)))
