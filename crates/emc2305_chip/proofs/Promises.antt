-- The promises (specs/Promises.antt) that no other file here proves.
use mathlib.Core.Path.{refl}
use lib.Seq.{get_or-set_same, get_or-set_other}
use Rattle.emc2305_parts.specs.declared.Part.TheVariants.{Emc2301, Emc2302, Emc2303, Emc2305}
use Rattle.emc2305_fan.specs.Registers.{shown, power_on}
use Rattle.emc2305_chip.specs.State.{fan_count}
use Rattle.emc2305_chip.specs.Map.{register_of}
use Rattle.emc2305_chip.specs.Fans.{no_fan, fan_at, bits_of}
use Rattle.emc2305_chip.specs.Registers.{at_defaults, shown_at, cleared_at, stores_at, written_at}
use Rattle.emc2305_chip.specs.Promises.{OneFan, Defaults, AbsentRegisters}
use Rattle.emc2305_chip.proofs.Maps.{fan_map}

pub one_fan : OneFan
one_fan c i move = (
  λ h. get_or-set_same c.fans i (move (fan_at c.fans i)) no_fan h,
  λ k h. get_or-set_other c.fans i k (move (fan_at c.fans i)) no_fan h,
)

pub defaults_shown : Defaults
unfolding shown power_on register_of bits_of at_defaults shown_at
defaults_shown Emc2301 address = refl
defaults_shown Emc2302 address = refl
defaults_shown Emc2303 address = refl
defaults_shown Emc2305 address = refl

pub absent_registers : AbsentRegisters
unfolding shown_at cleared_at stores_at written_at
absent_registers c i offset byte k h l =
    let e = (fan_map (fan_count c) i offset h l).1 k in
    (rw e, rw e, rw e, rw e)
