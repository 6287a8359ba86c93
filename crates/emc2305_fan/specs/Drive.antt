-- Drive: goal, wish, ramp control, step, period.
use Rattle.std.specs.Prelude.{ℕ, ◌%◌, max, Bool, cond, not, ◌&&◌, eqb, get_or}
use Rattle.emc2305_fan.specs.declared.Fan.{Fan}
use Rattle.emc2305_fan.specs.Tables.{periods}
use Rattle.emc2305_fan.specs.State.{with_wish}
use Rattle.emc2305_fan.specs.Registers.{bit, setting, configuration1, configuration2, max_step, minimum_drive, target_high, closed_loop}

-- "driver off": closed loop with target high FFh
abbrev pub driver_off : Fan → Bool
driver_off f = closed_loop f && eqb (target_high f) 0xFF

-- goal: direct, the stored Setting; driver off, 0; closed loop otherwise, the larger of wish and Minimum Drive
unfoldable pub goal : Fan → ℕ
goal f = cond (closed_loop f) (cond (driver_off f) 0 (max f.wish (minimum_drive f))) (setting f)

-- ramp control: always in closed loop with the driver on; in direct mode when Configuration 2 bit 6 is 1
unfoldable pub under_ramp : Fan → Bool
under_ramp f = cond (closed_loop f) (not (driver_off f)) (bit 6 (configuration2 f))

-- step: Max Step modulo 64
abbrev pub step : Fan → ℕ
step f = max_step f % 64

-- period by Configuration 1 bits 0..2
abbrev pub period : Fan → ℕ
period f = get_or periods (configuration1 f % 8) 0

-- a wish is kept only in closed loop, else it is taken and does nothing
unfoldable pub wished : ℕ → Fan → Fan
wished wish f = cond (closed_loop f) (with_wish wish f) f
