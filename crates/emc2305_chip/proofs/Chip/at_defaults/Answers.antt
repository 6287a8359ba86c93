use Rattle.std.proofs.Common.{rules}
use Rattle.emc2305_parts.specs.Parts.{reset_of}
use Rattle.emc2305_fan.specs.declared.Fan.{Fan}
use Rattle.emc2305_fan.specs.Registers.{power_on}
use Rattle.emc2305_chip.specs.Registers.{at_defaults}
use Rattle.emc2305_chip.proofs.Chip.at_defaults.Goals as goal

-- each of the five places gets a power-on's state
pub returns : goal.returns
unfolding at_defaults
returns c =
    rw (c.each-fans.ensures (λ (x : Fan). power_on (reset_of c.args.part).fan) (λ x y e. search rules), c.reset-reset.ensures)
