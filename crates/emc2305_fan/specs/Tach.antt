-- Tach and watchdog: a sample, and what the watchdog does to a fan.
use Rattle.std.specs.Prelude.{ℕ, ◌*◌, ◌/◌, ◌%◌, Bool, true, cond, not, ◌&&◌, ltb, set}
use Rattle.emc2305_fan.specs.declared.Fan.{Fan}
use Rattle.emc2305_fan.specs.State.{with_registers, with_stalled}
use Rattle.emc2305_fan.specs.Registers.{configuration1, closed_loop}
use Rattle.emc2305_fan.specs.Spin.{started, ended, too_slow}

-- the high byte of c x 8 is c / 32, whole part; of a count past 8191 the low 13 bits are taken
abbrev pub count_high : ℕ → ℕ
count_high count = count / 32 % 256

-- the low byte of c x 8
abbrev pub count_low : ℕ → ℕ
count_low count = count % 32 * 8

-- a sample c makes the reading registers c x 8
unfoldable pub with_reading : ℕ → Fan → Fan
with_reading count f = with_registers (set (set f.registers 0xE (count_high count)) 0xF (count_low count)) f

-- stall is judged when drive is above 0, no spin-up runs and the power-up watch isn't running
abbrev pub judged : Bool → Fan → Bool
judged powerUpWatch f = ltb 0 f.drive && (not f.spin.running && not powerUpWatch)

-- a stall sets the 25h bit, and in closed loop starts a spin-up
unfoldable pub stall : Fan → Fan
stall f = cond (closed_loop f) (started (with_stalled true f)) (with_stalled true f)

-- a reading that is judged, with its high byte above Valid Count, is a stall
abbrev pub judged_stall : Bool → Fan → Fan
judged_stall powerUpWatch f = cond (judged powerUpWatch f && too_slow f) (stall f) f

-- a sample: the reading is kept, then judged
unfoldable pub sampled : ℕ → Bool → Fan → Fan
sampled count powerUpWatch f = judged_stall powerUpWatch (with_reading count f)

-- the watchdog: Setting FFh, drive 255, loop off, spin-up ended, update clock 0
unfoldable pub fired : Fan → Fan
fired f = ended 255 (with_registers (set (set f.registers 0x0 0xFF) 0x2 (configuration1 f % 128)) f)
