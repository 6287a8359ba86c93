-- How many fans a chip has; and a chip with one field changed, all else as it was.
use Rattle.std.specs.Prelude.{Bool, List, ℕ}
use Rattle.emc2305_parts.specs.Parts.{fans_of}
use Rattle.emc2305_fan.specs.declared.Fan.{Fan}
use Rattle.emc2305_watchdog.specs.declared.Watch.{Watch}
use Rattle.emc2305_chip.specs.declared.Chip.{Chip}

-- how many fans the chip has: 1, 2, 3 or 5, by its part; of its five places the first so many are theirs, and fans past them are absent
abbrev pub fan_count : Chip → ℕ
fan_count c = fans_of c.part

-- with other fans
abbrev pub with_fans : List Fan → Chip → Chip
with_fans x c =
    record {
      powered = c.powered;
      address = c.address;
      fans = x;
      configuration = c.configuration;
      enable = c.enable;
      outputs = c.outputs;
      lock = c.lock;
      pointer = c.pointer;
      expired = c.expired;
      watch = c.watch;
      part = c.part;
    }

-- with another byte in 20h
abbrev pub with_configuration : ℕ → Chip → Chip
with_configuration x c =
    record {
      powered = c.powered;
      address = c.address;
      fans = c.fans;
      configuration = x;
      enable = c.enable;
      outputs = c.outputs;
      lock = c.lock;
      pointer = c.pointer;
      expired = c.expired;
      watch = c.watch;
      part = c.part;
    }

-- with another byte in 29h
abbrev pub with_enable : ℕ → Chip → Chip
with_enable x c =
    record {
      powered = c.powered;
      address = c.address;
      fans = c.fans;
      configuration = c.configuration;
      enable = x;
      outputs = c.outputs;
      lock = c.lock;
      pointer = c.pointer;
      expired = c.expired;
      watch = c.watch;
      part = c.part;
    }

-- with other bytes in 2Ah to 2Dh
abbrev pub with_outputs : List ℕ → Chip → Chip
with_outputs x c =
    record {
      powered = c.powered;
      address = c.address;
      fans = c.fans;
      configuration = c.configuration;
      enable = c.enable;
      outputs = x;
      lock = c.lock;
      pointer = c.pointer;
      expired = c.expired;
      watch = c.watch;
      part = c.part;
    }

-- with another byte in EFh
abbrev pub with_lock : ℕ → Chip → Chip
with_lock x c =
    record {
      powered = c.powered;
      address = c.address;
      fans = c.fans;
      configuration = c.configuration;
      enable = c.enable;
      outputs = c.outputs;
      lock = x;
      pointer = c.pointer;
      expired = c.expired;
      watch = c.watch;
      part = c.part;
    }

-- with another pointer
abbrev pub with_pointer : ℕ → Chip → Chip
with_pointer x c =
    record {
      powered = c.powered;
      address = c.address;
      fans = c.fans;
      configuration = c.configuration;
      enable = c.enable;
      outputs = c.outputs;
      lock = c.lock;
      pointer = x;
      expired = c.expired;
      watch = c.watch;
      part = c.part;
    }

-- with another WATCH
abbrev pub with_expired : Bool → Chip → Chip
with_expired x c =
    record {
      powered = c.powered;
      address = c.address;
      fans = c.fans;
      configuration = c.configuration;
      enable = c.enable;
      outputs = c.outputs;
      lock = c.lock;
      pointer = c.pointer;
      expired = x;
      watch = c.watch;
      part = c.part;
    }

-- with another watch
abbrev pub with_watch : Watch → Chip → Chip
with_watch x c =
    record {
      powered = c.powered;
      address = c.address;
      fans = c.fans;
      configuration = c.configuration;
      enable = c.enable;
      outputs = c.outputs;
      lock = c.lock;
      pointer = c.pointer;
      expired = c.expired;
      watch = x;
      part = c.part;
    }
