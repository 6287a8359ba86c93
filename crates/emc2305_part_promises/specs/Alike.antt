-- A chip and a five-fan part that is the same but for the fans that the chip does not have; events kept from those; the answers of the two.
use Rattle.std.specs.Prelude.{◌≡◌, Bool, false, cond, not, ◌&&◌, ◌||◌, List, [], ◌∷◌, ℕ, ◌≤◌, ◌<◌, leb, eqb, length, get_or}
use Rattle.laws.specs.Buffer.{bytes_at}
use Rattle.eventlog.specs.declared.Event.{Event}
use Rattle.eventlog.specs.Kinds.{on_transfer}
use Rattle.emc2305_parts.specs.declared.Part.{Part}
use Rattle.emc2305_parts.specs.declared.Part.TheVariants.{Emc2305}
use Rattle.emc2305_fan.specs.declared.Fan.{Fan}
use Rattle.emc2305_chip.specs.declared.Chip.{Chip}
use Rattle.emc2305_chip.specs.declared.Register.{Register}
use Rattle.emc2305_chip.specs.declared.Register.TheVariants.{OfFan, OfChip, Undefined}
use Rattle.emc2305_chip.specs.State.{fan_count, with_fans, with_pointer}
use Rattle.emc2305_chip.specs.Map.{register_of}
use Rattle.emc2305_chip.specs.Fans.{fan_at}
use Rattle.emc2305_chip.specs.Watching.{fed_chip}
use Rattle.emc2305.specs.Transfers.{passed, byte_written}
use Rattle.emc2305.specs.Step.{for_past, absent, taken, stepped}
use Rattle.emc2305.specs.Traffic.{stores_to, is_sample_of, is_wish_for}
use Rattle.walks.specs.Sequence.{Handed}
use Rattle.emc2305.specs.Device.{reply_given}
use Rattle.emc2305_promises.specs.Ramp.{next, is_taken}
use Rattle.emc2305_promises.specs.Held.{read_from}

-- the number of the step that an event meets
abbrev pub number_of : Handed → Chip → ℕ
number_of h c = (stepped c h.log h.event h.room).number

-- the reply that it lays
abbrev pub replied : Handed → Chip → List ℕ
replied h c = reply_given c h.log h.event h.room

-- a chip of another part, all else as it was
abbrev pub with_part : Part → Chip → Chip
with_part x c =
    record {
      powered = c.powered;
      address = c.address;
      fans = c.fans;
      configuration = c.configuration;
      enable = c.enable;
      outputs = c.outputs;
      lock = c.lock;
      pointer = c.pointer;
      expired = c.expired;
      watch = c.watch;
      part = x;
    }

-- a five-fan part that is the chip but for its fans
abbrev pub five_fan : List Fan → Chip → Chip
five_fan fans c = with_part Emc2305 (with_fans fans c)

-- a fan that nobody drives: neither status bit stands and no spin-up runs; the watchdog may have set its drive
abbrev pub Undriven : Fan → Type 0
Undriven f = (f.stalled ≡ false) × (f.failed ≡ false) × (f.spin.running ≡ false)

-- five fans in both: each of the first so many is the same, and nobody drives the others of the second
abbrev pub FansAlike : ℕ → List Fan → List Fan → Type 0
FansAlike count fans five =
    (length fans ≡ 5) × (length five ≡ 5)
    × ((i : ℕ) → i < count → fan_at fans i ≡ fan_at five i)
    × ((i : ℕ) → count ≤ i → i < 5 → Undriven (fan_at five i))

-- a chip, and a five-fan part that is the same but for the fans that the chip does not have, which nobody drives
abbrev pub AsFive : Chip → Chip → Type 0
AsFive c d = (d ≡ five_fan d.fans c) × FansAlike (fan_count c) c.fans d.fans

-- a register of a fan past the first so many
abbrev pub past_fan : ℕ → Register → Bool
past_fan count (OfFan i offset) = leb count i
past_fan count (OfChip own) = false
past_fan count Undefined = false

-- an address at which a five-fan part has such a register
abbrev pub of_others : ℕ → ℕ → Bool
of_others count address = past_fan count (register_of 5 address)

-- a data byte of n, kept from the fans past the first so many: there it only moves the pointer
unfoldable pub byte_kept : ℕ → ℕ → ℕ → Chip → Chip
byte_kept count n byte d = cond (of_others count d.pointer) (passed n d) (byte_written n byte d)

-- data bytes of n in turn, likewise
unfoldable pub in_turn_kept : ℕ → ℕ → List ℕ → Chip → Chip
in_turn_kept count n [] d = d
in_turn_kept count n (byte ∷ rest) d = in_turn_kept count n rest (byte_kept count n byte d)

-- a write transfer, likewise; its first byte sets the pointer
unfoldable pub sent_kept : ℕ → List ℕ → Chip → Chip
sent_kept count [] d = d
sent_kept count (pointer ∷ rest) d = in_turn_kept count (length rest) rest (with_pointer pointer d)

-- an event that is taken, where of a write the bytes to registers of those fans do nothing; a power-on of whichever part is one of the five-fan part
abbrev pub writes_kept : ℕ → List ℕ → Event → Chip → Chip
writes_kept count log event d =
    on_transfer (with_part Emc2305 (taken log event d))
    (λ reads to place n. cond reads (taken log event d) (sent_kept count (bytes_at log place n) (fed_chip d))) event

-- an event that is taken, kept from those fans: besides, a sample or a wish for one of them does nothing
abbrev pub kept_from : ℕ → List ℕ → Event → Chip → Chip
kept_from count log event d = cond (for_past count event) d (writes_kept count log event d)

-- the chip after an event that is kept from those fans; one that is refused does nothing
abbrev pub next_kept : ℕ → Handed → Chip → Chip
next_kept count h d = cond (is_taken h d) (kept_from count h.log h.event d) d

-- the five-fan part after a sequence of events, each kept from the fans that the chip does not have when it meets the event
unfoldable pub after_kept : List Handed → Chip → Chip → Chip
after_kept [] c d = d
after_kept (h ∷ rest) c d = after_kept rest (next h c) (next_kept (fan_count c) h d)

-- the two answer an event alike: the same number, but for 21 where the chip does not have the fan of a sample or a wish that the other takes; replies of
-- the same length, in which each byte is the same, but for 00h where it is read from a register of a fan that the chip does not have
abbrev pub AnswerAlike : Handed → Chip → Chip → Type 0
AnswerAlike h c d =
    (number_of h c ≡ cond (absent c.part h.event && eqb (number_of h d) 0) 21 (number_of h d))
    × (length (replied h c) ≡ length (replied h d))
    × ((k : ℕ) → k < length (replied h d)
    → get_or (replied h c) k 0 ≡ cond (of_others (fan_count c) (read_from k h d)) 0x00 (get_or (replied h d) k 0))

-- they answer each event of a sequence alike; what an event makes of the five-fan part is given, by how many fans the chip has then
unfoldable pub AnswersAlike : (ℕ → Handed → Chip → Chip) → List Handed → Chip → Chip → Type 0
AnswersAlike become [] c d = Unit {0}
AnswersAlike become (h ∷ rest) c d = AnswerAlike h c d × AnswersAlike become rest (next h c) (become (fan_count c) h d)

-- nobody drives fan i + 1: no sample of it, no wish for it, and no stored write to its registers
abbrev pub undriven_by : ℕ → Handed → Chip → Bool
undriven_by i h d = not (is_taken h d && (is_sample_of i h.event || (is_wish_for i h.event || stores_to i h.log h.event d)))
