-- Status: the fan's bits of 25h and 26h, and what a read of one of these leaves.
use Rattle.std.specs.Prelude.{Bool, false, cond, ◌&&◌, ltb}
use Rattle.emc2305_fan.specs.declared.Bit.{Bit}
use Rattle.emc2305_fan.specs.declared.Bit.TheVariants.{Stall, Spin}
use Rattle.emc2305_fan.specs.declared.Fan.{Fan}
use Rattle.emc2305_fan.specs.State.{with_stalled, with_failed}
use Rattle.emc2305_fan.specs.Spin.{too_slow}

-- the status bits of a fan: 25h stall, 26h spin
abbrev pub standing : Bit → Fan → Bool
standing Stall f = f.stalled
standing Spin f = f.failed

-- the other of the two
abbrev pub other : Bit → Bit
other Stall = Spin
other Spin = Stall

-- a fan with one of them cleared
abbrev pub bit_cleared : Bit → Fan → Fan
bit_cleared Stall f = with_stalled false f
bit_cleared Spin f = with_failed false f

-- a fan but for both of them
abbrev pub but_status : Fan → Fan
but_status f = bit_cleared Stall (bit_cleared Spin f)

-- the latest reading's high byte is above Valid Count while the drive is above 0
unfoldable pub stuck : Fan → Bool
stuck f = too_slow f && ltb 0 f.drive

-- a read of 25h or of 26h clears the fan's bit there, unless the fan is stuck
unfoldable pub bit_read : Bit → Fan → Fan
bit_read which f = cond (stuck f) f (bit_cleared which f)
