-- The page's examples compute to its figures (specs/Examples.antt).
use mathlib.Core.Path.{refl}
use Rattle.emc2300_duty.specs.Zones.{above_least, at_limit, zone_asks}
use Rattle.emc2300_duty.specs.Duty.{is_linked, limit_reached, linked_fault, linked_duty, automatic, by_mode, asked}
use Rattle.emc2300_duty.specs.Examples.{Examples}

pub examples : Examples
unfolding above_least at_limit zone_asks is_linked limit_reached linked_fault linked_duty automatic by_mode asked
examples = refl
