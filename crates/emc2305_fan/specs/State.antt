-- A fan with one part changed and all else as it was.
use Rattle.std.specs.Prelude.{ℕ, Bool, List}
use Rattle.emc2305_fan.specs.declared.Fan.{Fan}
use Rattle.emc2305_fan.specs.declared.SpinUp.{SpinUp}

-- with other register bytes
abbrev pub with_registers : List ℕ → Fan → Fan
with_registers x f =
    record { registers = x; drive = f.drive; wish = f.wish; clock = f.clock; spin = f.spin; stalled = f.stalled; failed = f.failed }

-- with another drive
abbrev pub with_drive : ℕ → Fan → Fan
with_drive x f =
    record { registers = f.registers; drive = x; wish = f.wish; clock = f.clock; spin = f.spin; stalled = f.stalled; failed = f.failed }

-- with another wish
abbrev pub with_wish : ℕ → Fan → Fan
with_wish x f =
    record { registers = f.registers; drive = f.drive; wish = x; clock = f.clock; spin = f.spin; stalled = f.stalled; failed = f.failed }

-- with another count in the update clock
abbrev pub with_clock : ℕ → Fan → Fan
with_clock x f =
    record { registers = f.registers; drive = f.drive; wish = f.wish; clock = x; spin = f.spin; stalled = f.stalled; failed = f.failed }

-- with another spin-up
abbrev pub with_spin : SpinUp → Fan → Fan
with_spin x f =
    record { registers = f.registers; drive = f.drive; wish = f.wish; clock = f.clock; spin = x; stalled = f.stalled; failed = f.failed }

-- with another bit of 25h
abbrev pub with_stalled : Bool → Fan → Fan
with_stalled x f =
    record { registers = f.registers; drive = f.drive; wish = f.wish; clock = f.clock; spin = f.spin; stalled = x; failed = f.failed }

-- with another bit of 26h
abbrev pub with_failed : Bool → Fan → Fan
with_failed x f =
    record { registers = f.registers; drive = f.drive; wish = f.wish; clock = f.clock; spin = f.spin; stalled = f.stalled; failed = x }
