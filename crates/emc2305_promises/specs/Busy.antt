-- Sequences and a log that demand 3 speaks of: fan 2 ramps up while its neighbours are busy, events are refused and samples come in.
use Rattle.std.specs.Prelude.{◌≡◌, true, false, List, [], ◌∷◌, ◌++◌, map, ℕ}
use Rattle.eventlog.specs.declared.Event.{Event}
use Rattle.eventlog.specs.declared.Event.TheVariants.{PowerOn, Ticks, Sample, Wish, Transfer}
use Rattle.eventlog.specs.Layout.{laid_out}
use Rattle.emc2305_fan.specs.Registers.{closed_loop}
use Rattle.emc2305_chip.specs.declared.Chip.{Chip}
use Rattle.emc2305_chip.specs.Registers.{unpowered}
use Rattle.emc2305.specs.Step.{stepped}
use Rattle.walks.specs.Run.{ended, run_of}
use Rattle.walks.specs.Sequence.{Handed}
use Rattle.emc2305.specs.Device.{emc2305}
use Rattle.emc2305_promises.specs.Ramp.{next, after_all, throughout, taken_ticks, fan_of, undisturbed, Ramping}
use Rattle.emc2305_promises.specs.Corollaries.{updates_made}
use Rattle.emc2305_promises.specs.Trace.{walk_after, part}

-- the bytes of their transfers
abbrev pub busy_bytes : List ℕ
busy_bytes =
    0x43 ∷ 0x68 ∷ 0x40 ∷ 0xF0 ∷ 0x30 ∷ 0xFF ∷ 0x57 ∷ 0x3F ∷ 0x80 ∷ 0xEF ∷ 0x01 ∷ 0x47 ∷ 0x01 ∷ 0x24 ∷ 0x20 ∷ 0x42 ∷ 0xAB ∷ 0x4D ∷ 0x10 ∷ []

-- an event with these lent, and a reply buffer of 32 bytes
abbrev pub with_bytes : Event → Handed
with_bytes event = record { log = busy_bytes; event = event; room = 32 }

-- in direct mode, before it: ramp control set on fan 2, Setting 240 written, its spin-up of 40 ticks, and 10 ticks more
abbrev pub ready : Chip
ready =
    after_all (map with_bytes (PowerOn 0x2C ∷ Transfer false 0x2C 0 2 ∷ Transfer false 0x2C 2 2 ∷ Ticks 50 ∷ [])) unpowered

-- fan 1 spins up, fan 3 gets another Max Step and Minimum Drive, the chip is locked
-- refused: a transfer to another address, a power-on with address 200, a read whose reply has no room
-- of fan 2 itself: a write that the lock keeps from being stored, a wish in direct mode, a good sample and one that stalls, its status read
abbrev pub busy_events : List Handed
busy_events =
    with_bytes (Transfer false 0x2C 4 2)
    ∷ with_bytes (Ticks 20)
    ∷ with_bytes (Transfer false 0x2D 2 2)
    ∷ with_bytes (PowerOn 200)
    ∷ with_bytes (Sample 2 100)
    ∷ with_bytes (Wish 2 7)
    ∷ with_bytes (Transfer false 0x2C 6 3)
    ∷ with_bytes (Ticks 5)
    ∷ record { log = busy_bytes; event = Transfer true 0x2C 14 1; room = 31 }
    ∷ with_bytes (Transfer false 0x2C 9 2)
    ∷ with_bytes (Transfer false 0x2C 11 2)
    ∷ with_bytes (Sample 2 8000)
    ∷ with_bytes (Transfer false 0x2C 13 1)
    ∷ with_bytes (Transfer true 0x2C 14 1)
    ∷ with_bytes (Ticks 65)
    ∷ []

-- the numbers of the steps
unfoldable pub numbers_of : List Handed → Chip → List ℕ
numbers_of [] c = []
numbers_of (h ∷ rest) c = (stepped c h.log h.event h.room).number ∷ numbers_of rest (next h c)

-- demand 3's conditions hold of it, with 90 ticks; three updates of 16 take the drive from 153 to 201, and the clock stands at 100 - 96
abbrev pub BusyRamp : Type 0
BusyRamp =
    Ramping 1 153 240 16 32 10 ready
    × (throughout (undisturbed 1) busy_events ready ≡ true)
    × (numbers_of busy_events ready ≡ 0 ∷ 0 ∷ 7 ∷ 10 ∷ 0 ∷ 0 ∷ 0 ∷ 0 ∷ 8 ∷ 0 ∷ 0 ∷ 0 ∷ 0 ∷ 0 ∷ 0 ∷ [])
    × (taken_ticks busy_events ready ≡ 90)
    × (updates_made 1 busy_events ready ≡ 3)
    × ((fan_of 1 (after_all busy_events ready)).drive ≡ 201)
    × ((fan_of 1 (after_all busy_events ready)).clock ≡ 4)

-- in closed loop, before it: a good reading, the loop on, a target, the spin-up of 40 ticks that it starts, a wish of 200, and 10 ticks more
abbrev pub closed_ready : Chip
closed_ready =
    after_all (map with_bytes (PowerOn 0x2C ∷ Sample 2 100 ∷ Transfer false 0x2C 15 2 ∷ Transfer false 0x2C 17 2 ∷ Ticks 40 ∷ Wish 2 200 ∷ Ticks 10 ∷ [])) unpowered

-- fan 1 spins up, a wish comes in for fan 3; of fan 2 itself: the wish that it has, and a sample that is no stall
abbrev pub closed_busy : List Handed
closed_busy = map with_bytes (Transfer false 0x2C 4 2 ∷ Wish 2 200 ∷ Sample 2 120 ∷ Wish 3 99 ∷ Ticks 60 ∷ [])

-- the conditions hold of it, with 60 ticks; two updates of 16 take the drive from 153 to 185
abbrev pub ClosedRamp : Type 0
ClosedRamp =
    (closed_loop (fan_of 1 closed_ready) ≡ true)
    × Ramping 1 153 200 16 32 10 closed_ready
    × (throughout (undisturbed 1) closed_busy closed_ready ≡ true)
    × (numbers_of closed_busy closed_ready ≡ 0 ∷ 0 ∷ 0 ∷ 0 ∷ 0 ∷ [])
    × (taken_ticks closed_busy closed_ready ≡ 60)
    × ((fan_of 1 (after_all closed_busy closed_ready)).drive ≡ 185)

-- the log samples/ramp.log: power-on; ramp control and Setting 240 for fan 2; 50 ticks; its drive is read
-- then fan 1 is started; 20 ticks; a write to another address; a sample of fan 2; 70 ticks; the pointer is set, and the drive of fan 2 read again
abbrev pub trace : List ℕ
trace =
    laid_out 1 (0x2C ∷ [])
    ++ (laid_out 5 (0x58 ∷ 0x43 ∷ 0x68 ∷ [])
    ++ (laid_out 5 (0x58 ∷ 0x40 ∷ 0xF0 ∷ [])
    ++ (laid_out 2 (50 ∷ 0 ∷ [])
    ++ (laid_out 5 (0x59 ∷ 1 ∷ [])
    ++ (laid_out 5 (0x58 ∷ 0x30 ∷ 0xFF ∷ [])
    ++ (laid_out 2 (20 ∷ 0 ∷ [])
    ++ (laid_out 5 (0x5A ∷ 0x40 ∷ 0x00 ∷ [])
    ++ (laid_out 3 (2 ∷ 100 ∷ 0 ∷ [])
    ++ (laid_out 2 (70 ∷ 0 ∷ [])
    ++ (laid_out 5 (0x58 ∷ 0x40 ∷ []) ++ laid_out 5 (0x59 ∷ 1 ∷ [])))))))))))

-- between its fifth record and its twelfth, the last, the conditions hold; the replies are the drives 153 and 201
abbrev pub TraceRamp : Type 0
TraceRamp =
    Ramping 1 153 240 16 32 10 (walk_after trace 2 5).state
    × (throughout (undisturbed 1) (part trace 2 5 7) (walk_after trace 2 5).state ≡ true)
    × (taken_ticks (part trace 2 5 7) (walk_after trace 2 5).state ≡ 90)
    × ((fan_of 1 (walk_after trace 2 12).state).drive ≡ 201)
    × ((run_of emc2305 trace 2).records ≡ 12)
    × ((ended emc2305 trace 2).walk.replies ≡ 153 ∷ 201 ∷ [])
