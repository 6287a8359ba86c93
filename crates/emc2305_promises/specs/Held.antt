-- A rotor that is held, and one that turns again: what reads of 25h and 26h show.
use Rattle.std.specs.Prelude.{◌≡◌, Bool, true, false, not, ◌&&◌, ◌||◌, List, [], ◌∷◌, ◌++◌, ℕ, zero, suc, ◌+◌, ◌≤◌, ◌<◌, ltb, eqb, length, get_or}
use Rattle.laws.specs.Repeat.{repeated}
use Rattle.eventlog.specs.declared.Event.TheVariants.{Sample}
use Rattle.eventlog.specs.Kinds.{reply_length}
use Rattle.eventlog.specs.Layout.{laid_out}
use Rattle.emc2305_fan.specs.declared.Bit.{Bit}
use Rattle.emc2305_fan.specs.declared.Bit.TheVariants.{Stall, Spin}
use Rattle.emc2305_fan.specs.declared.Fan.{Fan}
use Rattle.emc2305_fan.specs.Registers.{bit, valid_count}
use Rattle.emc2305_fan.specs.Spin.{too_slow}
use Rattle.emc2305_fan.specs.Tach.{count_high}
use Rattle.emc2305_fan.specs.Status.{standing}
use Rattle.emc2305_chip.specs.declared.Chip.{Chip}
use Rattle.emc2305_chip.specs.State.{fan_count}
use Rattle.emc2305_chip.specs.Watching.{fed_chip}
use Rattle.emc2305.specs.Transfers.{byte_read}
use Rattle.emc2305.specs.Step.{reply_to}
use Rattle.emc2305.specs.Traffic.{is_sample_of}
use Rattle.walks.specs.Run.{ended}
use Rattle.walks.specs.Sequence.{Handed}
use Rattle.emc2305.specs.Device.{emc2305}
use Rattle.emc2305_promises.specs.Ramp.{next, is_taken, after_all, throughout, fan_of, no_power_on, no_stored_write}
use Rattle.emc2305_promises.specs.Trace.{walk_after, part}

-- the register of a status bit: 25h stall, 26h spin
abbrev pub register_for : Bit → ℕ
register_for Stall = 0x25
register_for Spin = 0x26

-- byte k of the reply to an event that is taken
abbrev pub reply_byte : ℕ → Handed → Chip → ℕ
reply_byte k h c = get_or (reply_to h.log h.event c) k 0

-- the register that it is read from
abbrev pub read_from : ℕ → Handed → Chip → ℕ
read_from k h c = (repeated k (byte_read (reply_length h.log h.event)) (fed_chip c)).pointer

-- an event is taken, and byte k of its reply is read from that register
abbrev pub Reads : ℕ → ℕ → Handed → Chip → Type 0
Reads register k h c = (is_taken h c ≡ true) × (k < reply_length h.log h.event) × (read_from k h c ≡ register)

-- one of the first k bytes is
unfoldable pub reads_among : ℕ → ℕ → Handed → Chip → Bool
reads_among register zero h c = false
reads_among register (suc k) h c = reads_among register k h c || eqb (read_from k h c) register

-- no read of that register
abbrev pub no_read_of : ℕ → Handed → Chip → Bool
no_read_of register h c = not (is_taken h c && reads_among register (reply_length h.log h.event) h c)

-- no sample of this fan
abbrev pub no_sample_of : ℕ → Handed → Chip → Bool
no_sample_of i h c = not (is_taken h c && is_sample_of i h.event)

-- none that makes its reading a good one: after it the high byte is not above Valid Count
abbrev pub no_good_sample : ℕ → Handed → Chip → Bool
no_good_sample i h c = no_sample_of i h c || too_slow (fan_of i (next h c))

-- its rotor is held, and it is driven: its drive is above 0 when the event comes, which is no power-on, no good sample of it, no stored write to its registers
abbrev pub held : ℕ → Handed → Chip → Bool
held i h c = ltb 0 (fan_of i c).drive && (no_power_on h c && (no_good_sample i h c && no_stored_write i h c))

-- with the rotor held, the reading being too slow: after any events, among them any number of reads, a read still shows a bit that stood
abbrev pub HeldRotor : Type 0
HeldRotor =
    (which : Bit) (i k : ℕ) (c : Chip) (events : List Handed) (h : Handed)
    → (length c.fans ≡ 5) × (i < fan_count c)
    → too_slow (fan_of i c) ≡ true
    → throughout (held i) events c ≡ true
    → let later : Chip = after_all events c in
    held i h later ≡ true
    → Reads (register_for which) k h later
    → standing which (fan_of i c) ≡ true
    → bit i (reply_byte k h later) ≡ true

-- nothing is done to this fan: no power-on, no sample of it, no stored write to its registers
abbrev pub left_alone : ℕ → Handed → Chip → Bool
left_alone i h c = no_power_on h c && (no_sample_of i h c && no_stored_write i h c)

-- its drive is above 0 when the event comes, and nothing is done to it
abbrev pub driven : ℕ → Handed → Chip → Bool
driven i h c = ltb 0 (fan_of i c).drive && left_alone i h c

-- ticks can set the bit: that of 26h in a spin-up
abbrev pub ticks_can_set : Bit → Fan → Bool
ticks_can_set Stall f = false
ticks_can_set Spin f = f.spin.running

-- the same without any sample: a read shows the bit as it was, set or not, where ticks cannot set it
abbrev pub HeldSame : Type 0
HeldSame =
    (which : Bit) (i k : ℕ) (c : Chip) (events : List Handed) (h : Handed)
    → (length c.fans ≡ 5) × (i < fan_count c)
    → too_slow (fan_of i c) ≡ true
    → ticks_can_set which (fan_of i c) ≡ false
    → throughout (driven i) events c ≡ true
    → let later : Chip = after_all events c in
    driven i h later ≡ true
    → Reads (register_for which) k h later
    → bit i (reply_byte k h later) ≡ standing which (fan_of i c)

-- until the register is read, and nothing is done to the fan
abbrev pub unread : ℕ → ℕ → Handed → Chip → Bool
unread register i h c = no_read_of register h c && left_alone i h c

-- once it turns again, a sample being taken whose high byte is not above Valid Count: the next read of the register shows the bit as it stood before
-- the sample, and clears it
abbrev pub RotorTurns : Type 0
RotorTurns =
    (which : Bit) (i k count room : ℕ) (log : List ℕ) (c : Chip) (events : List Handed) (h : Handed)
    → (length c.fans ≡ 5) × (i < fan_count c)
    → let sample : Handed = record { log = log; event = Sample (i + 1) count; room = room } in
    is_taken sample c ≡ true
    → count_high count ≤ valid_count (fan_of i c)
    → throughout (unread (register_for which) i) events (next sample c) ≡ true
    → let later : Chip = after_all events (next sample c) in
    Reads (register_for which) k h later
    → (bit i (reply_byte k h later) ≡ standing which (fan_of i c)) × (standing which (fan_of i (next h later)) ≡ false)

-- the log samples/held-rotor.log: power-on; a good sample of fan 1, Setting 128 and the 40 ticks of its spin-up; its rotor is held, and a sample shows it
-- then the pointer is set to 25h; 25h is read; 80 ticks, which are a second, and another such sample; 25h is read; a good sample; 25h is read twice
abbrev pub held_trace : List ℕ
held_trace =
    laid_out 1 (0x2C ∷ [])
    ++ (laid_out 3 (1 ∷ 0xE8 ∷ 0x03 ∷ [])
    ++ (laid_out 5 (0x58 ∷ 0x30 ∷ 0x80 ∷ [])
    ++ (laid_out 2 (40 ∷ 0 ∷ [])
    ++ (laid_out 3 (1 ∷ 0xFF ∷ 0x1F ∷ [])
    ++ (laid_out 5 (0x58 ∷ 0x25 ∷ [])
    ++ (laid_out 5 (0x59 ∷ 1 ∷ [])
    ++ (laid_out 2 (80 ∷ 0 ∷ [])
    ++ (laid_out 3 (1 ∷ 0xFF ∷ 0x1F ∷ [])
    ++ (laid_out 5 (0x59 ∷ 1 ∷ [])
    ++ (laid_out 3 (1 ∷ 0xE8 ∷ 0x03 ∷ []) ++ (laid_out 5 (0x59 ∷ 1 ∷ []) ++ laid_out 5 (0x59 ∷ 1 ∷ []))))))))))))

-- from its fifth record to its tenth fan 1 is so held, with its bit of 25h set; the replies are 01h, 01h, 01h and 00h
abbrev pub HeldTrace : Type 0
HeldTrace =
    (too_slow (fan_of 0 (walk_after held_trace 4 5).state) ≡ true)
    × ((fan_of 0 (walk_after held_trace 4 5).state).stalled ≡ true)
    × (throughout (held 0) (part held_trace 4 5 5) (walk_after held_trace 4 5).state ≡ true)
    × ((ended emc2305 held_trace 4).walk.replies ≡ 0x01 ∷ 0x01 ∷ 0x01 ∷ 0x00 ∷ [])
