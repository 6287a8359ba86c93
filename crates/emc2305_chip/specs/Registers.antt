-- The chip's registers: power-on, status, the alert line, what a read shows and clears, the lock, what a write stores.
use Rattle.std.specs.Prelude.{Bool, true, false, cond, not, ◌&&◌, ◌||◌, [], ◌∷◌, ℕ, ◌+◌, eqb, get_or, set}
use Rattle.laws.specs.Lists.{first_moved}
use Rattle.emc2305_parts.specs.declared.Part.{Part}
use Rattle.emc2305_parts.specs.declared.Part.TheVariants.{Emc2305}
use Rattle.emc2305_parts.specs.Parts.{reset_of, identity_of}
use Rattle.emc2305_fan.specs.declared.Bit.TheVariants.{Stall, Spin}
use Rattle.emc2305_fan.specs.declared.Fan.{Fan}
use Rattle.emc2305_fan.specs.Registers.{bit, power_on, shown, locked}
use Rattle.emc2305_fan.specs.Stored.{written, takes}
use Rattle.emc2305_fan.specs.Status.{bit_read}
use Rattle.emc2305_watchdog.specs.declared.Watch.TheVariants.{PowerUp}
use Rattle.emc2305_chip.specs.declared.Chip.{Chip}
use Rattle.emc2305_chip.specs.declared.Own.{Own}
use Rattle.emc2305_chip.specs.declared.Own.TheVariants.{Configuration, Status, StallStatus, SpinStatus, DriveFailStatus, Enable, Output, Lock, Identity}
use Rattle.emc2305_chip.specs.declared.Register.{Register}
use Rattle.emc2305_chip.specs.declared.Register.TheVariants.{OfFan, OfChip, Undefined}
use Rattle.emc2305_chip.specs.State.{fan_count, with_fans, with_configuration, with_enable, with_outputs, with_lock, with_expired}
use Rattle.emc2305_chip.specs.Map.{register_of}
use Rattle.emc2305_chip.specs.Fans.{fan_at, bits_of, interrupting}
use Rattle.emc2305_chip.specs.Watching.{programmed_by, configured_by}

-- every default of the part, unlocked; pointer and status 0; the power-up watch starts. Absent fans have a power-on's state too.
unfoldable pub at_defaults : Part → Bool → ℕ → Chip
at_defaults part powered address =
    let fan : Fan = power_on (reset_of part).fan in
    record {
      powered = powered;
      address = address;
      fans = fan ∷ fan ∷ fan ∷ fan ∷ fan ∷ [];
      configuration = (reset_of part).configuration;
      enable = (reset_of part).enable;
      outputs = (reset_of part).outputs;
      lock = (reset_of part).lock;
      pointer = 0;
      expired = false;
      watch = PowerUp 0;
      part = part;
    }

-- the chip before any power-on has five fans
abbrev pub unpowered : Chip
unpowered = at_defaults Emc2305 false 0

-- one fan changed, the others as they were
abbrev pub on_fan : ℕ → (Fan → Fan) → Chip → Chip
on_fan i move c = with_fans (set c.fans i (move (fan_at c.fans i))) c

-- 25h stall, bit i - 1 for fan i; those of absent fans are 0
abbrev pub stall_byte : Chip → ℕ
stall_byte c = bits_of Stall c.fans (fan_count c)

-- 26h spin, bit i - 1 for fan i, likewise
abbrev pub spin_byte : Chip → ℕ
spin_byte c = bits_of Spin c.fans (fan_count c)

-- 24h: bit 7 WATCH, bit 1 any of 26h, bit 0 any of 25h
abbrev pub status_byte : Chip → ℕ
status_byte c = cond c.expired 0x80 0 + (cond (eqb (spin_byte c) 0) 0 0x02 + cond (eqb (stall_byte c) 0) 0 0x01)

-- the alert line is on when MASK is 0 and WATCH is set or a 25h or 26h bit stands whose fan's bit in 29h is 1
unfoldable pub alert_line : Chip → Bool
alert_line c = not (bit 7 c.configuration) && (c.expired || interrupting c.enable c.fans (fan_count c))

-- what a read of one of the chip's own registers shows; 27h reads 00h
abbrev pub own_shown : Chip → Own → ℕ
own_shown c Configuration = c.configuration
own_shown c Status = status_byte c
own_shown c StallStatus = stall_byte c
own_shown c SpinStatus = spin_byte c
own_shown c DriveFailStatus = 0x00
own_shown c Enable = c.enable
own_shown c (Output i) = get_or c.outputs i 0
own_shown c Lock = c.lock
own_shown c (Identity i) = get_or (identity_of c.part) i 0

-- what a read shows; an undefined register reads 00h
abbrev pub shown_of : Chip → Register → ℕ
shown_of c (OfFan i offset) = shown (fan_at c.fans i) offset
shown_of c (OfChip own) = own_shown c own
shown_of c Undefined = 0x00

-- the chip's own registers of which a read clears something: 24h to 26h
abbrev pub clears : Own → Bool
clears Configuration = false
clears Status = true
clears StallStatus = true
clears SpinStatus = true
clears DriveFailStatus = false
clears Enable = false
clears (Output i) = false
clears Lock = false
clears (Identity i) = false

-- reading 25h or 26h clears the bit there of each fan that is not stuck; reading 24h clears WATCH
abbrev pub own_cleared : Own → Chip → Chip
own_cleared Configuration c = c
own_cleared Status c = with_expired false c
own_cleared StallStatus c = with_fans (first_moved (fan_count c) (bit_read Stall) c.fans) c
own_cleared SpinStatus c = with_fans (first_moved (fan_count c) (bit_read Spin) c.fans) c
own_cleared DriveFailStatus c = c
own_cleared Enable c = c
own_cleared (Output i) c = c
own_cleared Lock c = c
own_cleared (Identity i) c = c

-- no other read clears anything
abbrev pub cleared_of : Register → Chip → Chip
cleared_of (OfFan i offset) c = c
cleared_of (OfChip own) c = own_cleared own c
cleared_of Undefined c = c

-- bit 0 of EFh is 1
abbrev pub is_locked : Chip → Bool
is_locked c = bit 0 c.lock

-- what the lock guards of the chip's own registers: 20h and EFh
abbrev pub own_guarded : Own → Bool
own_guarded Configuration = true
own_guarded Status = false
own_guarded StallStatus = false
own_guarded SpinStatus = false
own_guarded DriveFailStatus = false
own_guarded Enable = false
own_guarded (Output i) = false
own_guarded Lock = true
own_guarded (Identity i) = false

-- and of all: besides those the fans' locked registers
abbrev pub guarded : Register → Bool
guarded (OfFan i offset) = locked offset
guarded (OfChip own) = own_guarded own
guarded Undefined = false

-- the chip's own registers that can be written: 24h to 27h and the identity bytes are read only
abbrev pub writable : Own → Bool
writable Configuration = true
writable Status = false
writable StallStatus = false
writable SpinStatus = false
writable DriveFailStatus = false
writable Enable = true
writable (Output i) = true
writable Lock = true
writable (Identity i) = false

-- whether a write to one of them is stored
abbrev pub own_stores : Chip → Own → Bool
own_stores c own = writable own && not (is_locked c && own_guarded own)

-- whether a write is stored; an undefined register stores nothing
abbrev pub stores_in : Chip → Register → Bool
stores_in c (OfFan i offset) = takes (is_locked c) (fan_at c.fans i) offset
stores_in c (OfChip own) = own_stores c own
stores_in c Undefined = false

-- a stored write to a fan's register
unfoldable pub fan_stored : ℕ → ℕ → ℕ → Chip → Chip
fan_stored i offset byte c = programmed_by offset byte (on_fan i (written offset byte) c)

-- a stored write to one of the chip's own
abbrev pub own_stored : Own → ℕ → Chip → Chip
own_stored Configuration byte c = configured_by byte (with_configuration byte c)
own_stored Status byte c = c
own_stored StallStatus byte c = c
own_stored SpinStatus byte c = c
own_stored DriveFailStatus byte c = c
own_stored Enable byte c = with_enable byte c
own_stored (Output i) byte c = with_outputs (set c.outputs i byte) c
own_stored Lock byte c = with_lock byte c
own_stored (Identity i) byte c = c

-- a write to one of them; one that is not stored changes nothing
abbrev pub own_written : Own → ℕ → Chip → Chip
own_written own byte c = cond (own_stores c own) (own_stored own byte c) c

-- what a stored write does
abbrev pub stored_of : Register → ℕ → Chip → Chip
stored_of (OfFan i offset) byte c = fan_stored i offset byte c
stored_of (OfChip own) byte c = own_stored own byte c
stored_of Undefined byte c = c

-- what stands at an address of the chip
abbrev pub register_at : Chip → ℕ → Register
register_at c address = register_of (fan_count c) address

-- what a read of an address shows
unfoldable pub shown_at : Chip → ℕ → ℕ
shown_at c address = shown_of c (register_at c address)

-- the chip that a read of an address leaves
unfoldable pub cleared_at : ℕ → Chip → Chip
cleared_at address c = cleared_of (register_at c address) c

-- whether a write to an address is stored
unfoldable pub stores_at : Chip → ℕ → Bool
stores_at c address = stores_in c (register_at c address)

-- a write to an address; one that is not stored changes nothing here
unfoldable pub written_at : ℕ → ℕ → Chip → Chip
written_at address byte c = cond (stores_at c address) (stored_of (register_at c address) byte c) c
