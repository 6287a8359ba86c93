-- What is promised of a fan; the proofs are in proofs/.
use Rattle.std.specs.Prelude.{ℕ, ◌+◌, ◌-◌, ◌*◌, ◌/◌, ◌%◌, min, ◌≤◌, ◌<◌, ◌≡◌, ◌↔◌, Bool, true, false, cond, ◌&&◌, ◌||◌, List, [], ◌∷◌, get_or, set}
use Rattle.laws.specs.Repeat.{repeated}
use Rattle.emc2305_fan.specs.declared.Bit.{Bit}
use Rattle.emc2305_fan.specs.declared.Fan.{Fan}
use Rattle.emc2305_fan.specs.declared.SpinUp.{SpinUp}
use Rattle.emc2305_fan.specs.Tables.{periods, lengths, levels}
use Rattle.emc2305_fan.specs.State.{with_drive, with_clock, with_failed}
use Rattle.emc2305_fan.specs.Registers.{bit, setting, configuration1, configuration2, spin_up, closed_loop, stores}
use Rattle.emc2305_fan.specs.Ramp.{distance, moved}
use Rattle.emc2305_fan.specs.Drive.{driver_off, goal, under_ramp, step, period, wished}
use Rattle.emc2305_fan.specs.Spin.{spin_length, spin_level, spin_on, in_spin, started, ended, too_slow, last_tick}
use Rattle.emc2305_fan.specs.Tick.{ticked}
use Rattle.emc2305_fan.specs.Stored.{written}
use Rattle.emc2305_fan.specs.Tach.{count_high, count_low, with_reading, judged, sampled, fired}
use Rattle.emc2305_fan.specs.Status.{standing, other, but_status, stuck, bit_read}

-- the levels are 30 to 65 percent of 255, rounded down, in steps of 5
abbrev pub LevelRule : Type 0
LevelRule = (i : ℕ) → i < 8 → get_or levels i 0 ≡ (30 + 5 * i) * 255 / 100

-- the update times of the datasheet in ms
abbrev pub update_times : List ℕ
update_times = 100 ∷ 200 ∷ 300 ∷ 400 ∷ 500 ∷ 800 ∷ 1200 ∷ 1600 ∷ []

-- the spin-up times of the datasheet in ms
abbrev pub spin_times : List ℕ
spin_times = 250 ∷ 500 ∷ 1000 ∷ 2000 ∷ []

-- the periods are the update times in ticks of 12.5 ms: two ticks are 25 ms
abbrev pub PeriodRule : Type 0
PeriodRule = (i : ℕ) → i < 8 → 25 * get_or periods i 0 ≡ 2 * get_or update_times i 0

-- the lengths are the spin-up times in ticks
abbrev pub LengthRule : Type 0
LengthRule = (i : ℕ) → i < 4 → 25 * get_or lengths i 0 ≡ 2 * get_or spin_times i 0

-- one ramp update moves by exactly the smaller of distance and step, never passes the goal, and step 0 and d = g stay
abbrev pub OneUpdate : Type 0
OneUpdate =
    (d g s : ℕ)
    → (distance d (moved d g s) ≡ min (distance d g) s)
    × (distance d (moved d g s) + distance (moved d g s) g ≡ distance d g)
    × (moved d g 0 ≡ d)
    × (moved g g s ≡ g)

-- d after n ramp updates
abbrev pub after_updates : ℕ → ℕ → ℕ → ℕ → ℕ
after_updates n d g s = repeated n (λ (x : ℕ). moved x g s) d

-- n updates move by the smaller of the distance and n times the step
abbrev pub Updates : Type 0
Updates = (n d g s : ℕ) → after_updates n d g s ≡ moved d g (n * s)

-- the distance over the step, rounded up
abbrev pub updates_to : ℕ → ℕ → ℕ → ℕ
updates_to d g s = (distance d g + (s - 1)) / s

-- with a step of at least 1 the drive arrives after exactly that many updates, and stays
abbrev pub Arrives : Type 0
Arrives = (n d g s : ℕ) → 1 ≤ s → after_updates n d g s ≡ g ↔ updates_to d g s ≤ n

-- n ticks under ramp control, not in spin-up, the clock below the period: what the clock counts, where the drive is, and nothing else moves
abbrev pub RampTicks : Type 0
RampTicks =
    (n : ℕ) (f : Fan)
    → under_ramp f ≡ true
    → f.spin.running ≡ false
    → f.clock < period f
    → repeated n ticked f
    ≡ with_drive (moved f.drive (goal f) (step f * ((f.clock + n) / period f))) (with_clock ((f.clock + n) % period f) f)

-- an update clock at or past its period acts at the next counted tick
abbrev pub PastPeriod : Type 0
PastPeriod =
    (f : Fan)
    → under_ramp f ≡ true
    → f.spin.running ≡ false
    → period f ≤ f.clock + 1
    → ticked f ≡ with_drive (moved f.drive (goal f) (step f)) (with_clock 0 f)

-- n ticks in a spin-up and before its last: the same spin-up n ticks on, with its drive, and nothing else moves
abbrev pub SpinTicks : Type 0
SpinTicks =
    (n : ℕ) (s : SpinUp) (f : Fan)
    → s.running ≡ true
    → s.ticks + n < s.length
    → repeated n ticked (in_spin s f) ≡ in_spin (spin_on n s) f

-- a fan's drive after n ticks
abbrev pub drive_after : Fan → ℕ → ℕ
drive_after f n = (repeated n ticked f).drive

-- the drive n ticks from the start and before the last: 255 in the first quarter unless bit 5 is 1, the level otherwise
abbrev pub SpinDrives : Type 0
SpinDrives =
    (n : ℕ) (f : Fan)
    → n < spin_length f
    → (bit 5 (spin_up f) ≡ false → n < spin_length f / 4 → drive_after (started f) n ≡ 255)
    × (spin_length f / 4 ≤ n → drive_after (started f) n ≡ spin_level f)
    × (bit 5 (spin_up f) ≡ true → drive_after (started f) n ≡ spin_level f)

-- the last tick of a spin-up, or one past it, in direct mode: it ends at the level, or without ramp control at Setting; the high byte above
-- Valid Count sets the 26h bit
abbrev pub LastDirect : Type 0
LastDirect =
    (f : Fan)
    → f.spin.running ≡ true
    → f.spin.length ≤ f.spin.ticks + 1
    → closed_loop f ≡ false
    → ticked f ≡ ended (cond (bit 6 (configuration2 f)) f.spin.level (setting f)) (with_failed (f.failed || too_slow f) f)

-- the last tick of a spin-up, or one past it, in closed loop: the high byte above Valid Count sets the 26h bit and starts again; else it ends at the level, with the driver off at 0
abbrev pub LastClosed : Type 0
LastClosed =
    (f : Fan)
    → f.spin.running ≡ true
    → f.spin.length ≤ f.spin.ticks + 1
    → closed_loop f ≡ true
    → (too_slow f ≡ true → ticked f ≡ started (with_failed true f))
    × (too_slow f ≡ false → ticked f ≡ ended (cond (driver_off f) 0 f.spin.level) f)

-- a fan after all ticks of a spin-up, with nothing between them
abbrev pub spun_up : Fan → Fan
spun_up f = repeated (spin_length f) ticked (started f)

-- in direct mode it is at the level fixed at the start, or without ramp control at Setting, and the 26h bit as the reading says
abbrev pub SpunDirect : Type 0
SpunDirect =
    (f : Fan)
    → closed_loop f ≡ false
    → spun_up f ≡ ended (cond (bit 6 (configuration2 f)) (spin_level f) (setting f)) (with_failed (f.failed || too_slow f) f)

-- in closed loop it is at its start again with the 26h bit set, or at the level, with the driver off at 0
abbrev pub SpunClosed : Type 0
SpunClosed =
    (f : Fan)
    → closed_loop f ≡ true
    → (too_slow f ≡ true → spun_up f ≡ started (with_failed true f))
    × (too_slow f ≡ false → spun_up f ≡ ended (cond (driver_off f) 0 (spin_level f)) f)

-- what each move leaves in the registers: only a stored write, a sample and the watchdog change any, each those it names
abbrev pub RegistersAfter : Type 0
RegistersAfter =
    (f : Fan)
    → ((ticked f).registers ≡ f.registers)
    × ((wish : ℕ) → (wished wish f).registers ≡ f.registers)
    × ((offset byte : ℕ) → (written offset byte f).registers ≡ cond (stores f offset) (set f.registers offset byte) f.registers)
    × ((count : ℕ) (watch : Bool) → (sampled count watch f).registers ≡ set (set f.registers 0xE (count_high count)) 0xF (count_low count))
    × ((fired f).registers ≡ set (set f.registers 0x0 0xFF) 0x2 (configuration1 f % 128))

-- what each move leaves of the status bits: the last tick of a spin-up sets that of 26h exactly when the reading is too slow, a sample that of 25h
-- exactly when it is judged and too slow; a wish, a write and the watchdog leave both, and no move clears one
abbrev pub StatusAfter : Type 0
StatusAfter =
    (f : Fan)
    → ((ticked f).stalled ≡ f.stalled)
    × ((ticked f).failed ≡ (f.failed || (f.spin.running && (last_tick f.spin && too_slow f))))
    × ((count : ℕ) (watch : Bool)
    → let g : Fan = with_reading count f in
    ((sampled count watch f).stalled ≡ (f.stalled || (judged watch g && too_slow g))) × ((sampled count watch f).failed ≡ f.failed))
    × ((which : Bit)
    → ((wish : ℕ) → standing which (wished wish f) ≡ standing which f)
    × ((offset byte : ℕ) → standing which (written offset byte f) ≡ standing which f)
    × (standing which (fired f) ≡ standing which f))

-- a read of 25h or of 26h: the fan's bit there stands afterwards exactly when it stood and the fan is stuck; the other bit and all else stay
abbrev pub StatusRead : Type 0
StatusRead =
    (which : Bit) (f : Fan)
    → (standing which (bit_read which f) ≡ (standing which f && stuck f))
    × (standing (other which) (bit_read which f) ≡ standing (other which) f)
    × (but_status (bit_read which f) ≡ but_status f)

-- the reading registers of a count up to 8191 are the count times 8, their high byte c / 32
abbrev pub ReadingRule : Type 0
ReadingRule = (c : ℕ) → c ≤ 8191 → (256 * count_high c + count_low c ≡ 8 * c) × (count_high c ≡ c / 32)
