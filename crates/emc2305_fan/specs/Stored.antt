-- A write to one of the fan's registers.
use Rattle.std.specs.Prelude.{ℕ, ◌+◌, Bool, false, cond, not, ◌&&◌, ◌||◌, List, [], ◌∷◌, ltb, eqb, set}
use Rattle.emc2305_fan.specs.declared.Fan.{Fan}
use Rattle.emc2305_fan.specs.State.{with_registers, with_drive, with_wish, with_clock}
use Rattle.emc2305_fan.specs.Registers.{bit, closed_loop, locked, stores}
use Rattle.emc2305_fan.specs.Drive.{driver_off, goal, under_ramp}
use Rattle.emc2305_fan.specs.Spin.{started, ended}

-- the byte is stored whole
abbrev pub put : ℕ → ℕ → Fan → Fan
put offset byte f = with_registers (set f.registers offset byte) f

-- turning the loop on, bit 7 from 0 to 1, makes the wish the present drive
unfoldable pub wish_taken : Bool → Fan → Fan
wish_taken wasClosed f = cond (not wasClosed && closed_loop f) (with_wish f.drive f) f

-- a stored write to Configuration 1 or 2 clears the update clock; so does driver off
abbrev pub clears_clock : ℕ → Fan → Bool
clears_clock offset f = (eqb offset 0x2 || eqb offset 0x3) || driver_off f

-- the update clock at 0 where the write clears it
unfoldable pub clock_set : ℕ → Fan → Fan
clock_set offset f = cond (clears_clock offset f) (with_clock 0 f) f

-- what the stored write does to a spin-up: goal 0 ends it with drive 0
abbrev pub spin_held : Fan → Fan
spin_held f = cond (eqb (goal f) 0) (ended 0 f) f

-- drive 0 before the write, goal above 0 after it
abbrev pub spin_starts : Fan → Bool
spin_starts f = eqb f.drive 0 && ltb 0 (goal f)

-- what the stored write does to the drive out of spin-up: it starts one, or without ramp control drive equals goal at once
abbrev pub drive_set : Fan → Fan
drive_set f = cond (spin_starts f) (started f) (cond (under_ramp f) f (with_drive (goal f) f))

-- what the stored write does to spin-up and drive, in spin-up and out of it
unfoldable pub settled : Fan → Fan
settled f = cond f.spin.running (spin_held f) (drive_set f)

-- a write: the byte, then wish, clock, spin-up and drive; one that is not stored changes nothing
unfoldable pub written : ℕ → ℕ → Fan → Fan
written offset byte f = cond (stores f offset) (settled (clock_set offset (wish_taken (closed_loop f) (put offset byte f)))) f

-- a write that programs the fan: one to Setting, or one that sets Configuration 1 bit 7
abbrev pub programs : ℕ → ℕ → Bool
programs offset byte = eqb offset 0x0 || (eqb offset 0x2 && bit 7 byte)

-- whether a write to the offset is stored, with the lock on or off
abbrev pub takes : Bool → Fan → ℕ → Bool
takes lock f offset = stores f offset && not (lock && locked offset)

-- a data byte for the offset
abbrev pub byte_taken : Bool → ℕ → ℕ → Fan → Fan
byte_taken lock offset byte f = cond (takes lock f offset) (written offset byte f) f

-- data bytes in turn, from an offset on
unfoldable pub bytes_taken : Bool → ℕ → List ℕ → Fan → Fan
bytes_taken lock offset [] f = f
bytes_taken lock offset (byte ∷ rest) f = bytes_taken lock (offset + 1) rest (byte_taken lock offset byte f)

-- whether one of them is stored and programs the fan
unfoldable pub bytes_program : Bool → ℕ → List ℕ → Fan → Bool
bytes_program lock offset [] f = false
bytes_program lock offset (byte ∷ rest) f = (takes lock f offset && programs offset byte) || bytes_program lock (offset + 1) rest (byte_taken lock offset byte f)
