-- What is promised of a step. docs/CLAIMS.md names the file of each proof.
use Rattle.std.specs.Prelude.{◌≡◌, ◌↔◌, Bool, true, false, List, [], ◌∷◌, ℕ, ◌+◌, ◌-◌, ◌≤◌, ◌<◌, length, get_or}
use Rattle.laws.specs.Repeat.{repeated}
use Rattle.laws.specs.Buffer.{bytes_at, laid_over}
use Rattle.eventlog.specs.declared.Event.{Event}
use Rattle.eventlog.specs.declared.Event.TheVariants.{PowerOn, Ticks, Sample, Wish, Transfer, PowerOnPart}
use Rattle.eventlog.specs.Kinds.{is_power_on, reply_length}
use Rattle.eventlog.specs.Layout.{said}
use Rattle.eventlog.specs.Numbers.{field_fault}
use Rattle.eventlog.specs.Range.{range_number}
use Rattle.emc2305_parts.specs.declared.Part.{Part}
use Rattle.emc2305_parts.specs.declared.Part.TheVariants.{Emc2305}
use Rattle.emc2305_parts.specs.Parts.{part_with}
use Rattle.emc2305_fan.specs.Status.{but_status}
use Rattle.emc2305_watchdog.specs.declared.Watch.TheVariants.{PowerUp}
use Rattle.emc2305_watchdog.specs.Watch.{fed}
use Rattle.emc2305_chip.specs.declared.Chip.{Chip}
use Rattle.emc2305_chip.specs.State.{fan_count}
use Rattle.emc2305_chip.specs.Fans.{fan_at}
use Rattle.emc2305_chip.specs.Watching.{fed_chip}
use Rattle.emc2305_chip.specs.Registers.{shown_at, is_locked, guarded, register_at}
use Rattle.emc2305.specs.Transfers.{pointer_after, sent, byte_read, reply_of, read_out}
use Rattle.emc2305.specs.Step.{before_power, absent, elsewhere, step_number, taken, reply_to, stepped, reply_after}
use Rattle.emc2305.specs.Traffic.{stores_to}

-- the chip after a step, with a reply buffer of so many bytes
abbrev pub after : List ℕ → Event → ℕ → Chip → Chip
after log event room c = (stepped c log event room).chip

-- each number exactly when documents 01 and 02 say, from the part, the powered flag, the address, the log, the event and the buffer's length alone
abbrev pub StepNumbers : Type 0
StepNumbers =
    (part : Part) (powered : Bool) (address : ℕ) (log : List ℕ) (event : Event) (room : ℕ)
    → ((number : ℕ) → field_fault number ≡ true → step_number part powered address log event room ≡ number ↔ range_number log event ≡ number)
    × (step_number part powered address log event room ≡ 6 ↔ (range_number log event ≡ 0) × (before_power powered event ≡ true))
    × (step_number part powered address log event room ≡ 21
    ↔ (range_number log event ≡ 0) × (before_power powered event ≡ false) × (absent part event ≡ true))
    × (step_number part powered address log event room ≡ 7
    ↔ (range_number log event ≡ 0) × (before_power powered event ≡ false) × (absent part event ≡ false) × (elsewhere address event ≡ true))
    × (step_number part powered address log event room ≡ 8
    ↔ (range_number log event ≡ 0) × (before_power powered event ≡ false) × (absent part event ≡ false) × (elsewhere address event ≡ false)
    × (room < reply_length log event))
    × (step_number part powered address log event room ≡ 0
    ↔ (range_number log event ≡ 0) × (before_power powered event ≡ false) × (absent part event ≡ false) × (elsewhere address event ≡ false)
    × (reply_length log event ≤ room))

-- a step answers that number, of its chip's part, flag and address
abbrev pub Numbered : Type 0
Numbered =
    (c : Chip) (log : List ℕ) (event : Event) (room : ℕ)
    → (stepped c log event room).number ≡ step_number c.part c.powered c.address log event room

-- a refused step changes nothing
abbrev pub Refused : Type 0
Refused =
    (c : Chip) (log : List ℕ) (event : Event) (reply : List ℕ) → ((stepped c log event (length reply)).number ≡ 0 → ⊥)
    → (after log event (length reply) c ≡ c) × ((stepped c log event (length reply)).laid ≡ 0) × (reply_after c log event reply ≡ reply)

-- a step that is taken: the chip, and the reply laid at the front of the buffer, which keeps its length
abbrev pub TakenStep : Type 0
TakenStep =
    (c : Chip) (log : List ℕ) (event : Event) (reply : List ℕ) → (stepped c log event (length reply)).number ≡ 0
    → (after log event (length reply) c ≡ taken log event c)
    × ((stepped c log event (length reply)).laid ≡ length (reply_to log event c))
    × (reply_after c log event reply ≡ laid_over (reply_to log event c) reply)
    × (length (reply_after c log event reply) ≡ length reply)

-- a step goes by what an event says alone: two that say the same, each in range in its own log, have the same answer and the same reply
abbrev pub SameEvents : Type 0
SameEvents =
    (c : Chip) (a b : List ℕ) (e f : Event) (room : ℕ) → range_number a e ≡ 0 → range_number b f ≡ 0 → said a e ≡ said b f
    → (stepped c a e room ≡ stepped c b f room) × (reply_to a e c ≡ reply_to b f c)

-- every step leaves a chip with five places for fans
abbrev pub FiveFans : Type 0
FiveFans =
    (c : Chip) (log : List ℕ) (event : Event) (room : ℕ) → length c.fans ≡ 5
    → length (after log event room c).fans ≡ 5

-- the part after each event that is taken: that of a power-on; any other event leaves it
abbrev pub PartAfter : Type 0
PartAfter =
    (c : Chip) (log : List ℕ)
    → ((address : ℕ) → (taken log (PowerOn address) c).part ≡ Emc2305)
    × ((address fans : ℕ) → (taken log (PowerOnPart address fans) c).part ≡ part_with fans)
    × ((event : Event) → is_power_on event ≡ false → (taken log event c).part ≡ c.part)

-- no event but a power-on changes a fan that is absent
abbrev pub AbsentFans : Type 0
AbsentFans =
    (c : Chip) (log : List ℕ) (event : Event) (room i : ℕ) → is_power_on event ≡ false → fan_count c ≤ i
    → fan_at (after log event room c).fans i ≡ fan_at c.fans i

-- a sample or a wish leaves every other fan as it was; a transfer every fan to whose registers it stores nothing, but for what a read does to status bits
abbrev pub OtherFans : Type 0
OtherFans =
    (c : Chip) (log : List ℕ) (room i : ℕ)
    → ((fan count : ℕ) → (i ≡ fan - 1 → ⊥) → fan_at (after log (Sample fan count) room c).fans i ≡ fan_at c.fans i)
    × ((fan drive : ℕ) → (i ≡ fan - 1 → ⊥) → fan_at (after log (Wish fan drive) room c).fans i ≡ fan_at c.fans i)
    × ((to place n : ℕ) → stores_to i log (Transfer false to place n) c ≡ false
    → fan_at (after log (Transfer false to place n) room c).fans i ≡ fan_at c.fans i)
    × ((to place n : ℕ) → but_status (fan_at (after log (Transfer true to place n) room c).fans i) ≡ but_status (fan_at c.fans i))

-- locked: no event but a power-on changes EFh or a locked register, and it stays locked
abbrev pub Locked : Type 0
Locked =
    (c : Chip) (log : List ℕ) (event : Event) (room : ℕ) → is_locked c ≡ true → is_power_on event ≡ false
    → (is_locked (after log event room c) ≡ true)
    × ((address : ℕ) → guarded (register_at c address) ≡ true → shown_at (after log event room c) address ≡ shown_at c address)

-- the pointer after any transfer: as it was, where there are no bytes; else by the first byte and the count of data bytes
abbrev pub Pointer : Type 0
Pointer =
    (c : Chip)
    → (sent [] c ≡ c)
    × ((pointer : ℕ) (rest : List ℕ) → pointer < 256 → (sent (pointer ∷ rest) c).pointer ≡ pointer_after (length rest) (length rest) pointer)
    × ((n : ℕ) → c.pointer < 256 → (read_out n c).pointer ≡ pointer_after n n c.pointer)

-- a read of n bytes: as many in the reply, each that of the register in turn, in the state that the ones before it left
abbrev pub ReplyBytes : Type 0
ReplyBytes =
    (c : Chip) (n : ℕ) → c.pointer < 256
    → (length (reply_of n c n) ≡ n)
    × ((k : ℕ) → k < n → get_or (reply_of n c n) k 0 ≡ shown_at (repeated k (byte_read n) c) (pointer_after n k c.pointer))

-- n ticks are n times one tick
abbrev pub TickByTick : Type 0
TickByTick = (c : Chip) (log : List ℕ) (m n : ℕ) → taken log (Ticks (m + n)) c ≡ taken log (Ticks n) (taken log (Ticks m) c)

-- a transfer that is taken feeds the watch, which does nothing in the power-up watch; then its bytes are sent, or read out and laid as the reply
abbrev pub TakenTransfer : Type 0
TakenTransfer =
    (c : Chip) (log : List ℕ) (to place n : ℕ)
    → (taken log (Transfer false to place n) c ≡ sent (bytes_at log place n) (fed_chip c))
    × (taken log (Transfer true to place n) c ≡ read_out (get_or log place 0) (fed_chip c))
    × (reply_to log (Transfer true to place n) c ≡ reply_of (get_or log place 0) (fed_chip c) (get_or log place 0))

-- the watch after each event that is taken but ticks and writes: a power-on starts it; a sample or a wish leaves it; a read feeds it
abbrev pub WatchAfter : Type 0
WatchAfter =
    (c : Chip) (log : List ℕ)
    → ((address : ℕ) → (taken log (PowerOn address) c).watch ≡ PowerUp 0)
    × ((address fans : ℕ) → (taken log (PowerOnPart address fans) c).watch ≡ PowerUp 0)
    × ((fan count : ℕ) → (taken log (Sample fan count) c).watch ≡ c.watch)
    × ((fan drive : ℕ) → (taken log (Wish fan drive) c).watch ≡ c.watch)
    × ((to place n : ℕ) → (taken log (Transfer true to place n) c).watch ≡ fed c.watch)
