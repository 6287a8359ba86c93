-- The EMC2305 as a device: its chip, the chip before power-on, and its step.
use Rattle.std.specs.Prelude.{ℕ, cond, List, [], eqb}
use Rattle.eventlog.specs.declared.Event.{Event}
use Rattle.emc2305_chip.specs.declared.Chip.{Chip}
use Rattle.emc2305_chip.specs.Registers.{unpowered}
use Rattle.emc2305.specs.Step.{reply_to, stepped}
use Rattle.walks.specs.Device.{Device, Steps}

-- the reply that a step lays: none where it is refused
abbrev pub reply_given : Chip → List ℕ → Event → ℕ → List ℕ
reply_given c log event room = cond (eqb (stepped c log event room).number 0) (reply_to log event c) []

-- the EMC2305, a device
abbrev pub emc2305 : Device
emc2305 =
    record {
      State = Chip;
      begun = unpowered;
      number = λ c log event room. (stepped c log event room).number;
      next = λ c log event room. (stepped c log event room).chip;
      reply = reply_given;
    }

-- its steps, over chips
abbrev pub steps : Steps Chip
steps = record { begun = emc2305.begun; number = emc2305.number; next = emc2305.next; reply = emc2305.reply }
