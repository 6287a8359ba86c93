-- No fan waits: what becomes of a fan goes by what reaches that fan alone.
use Rattle.std.specs.Prelude.{◌≡◌, true, false, cond, List, [], ◌∷◌, ◌++◌, ℕ, zero, suc, ◌+◌, ◌%◌, ◌<◌, eqb, length, get_or, replicate}
use Rattle.laws.specs.Buffer.{bytes_at}
use Rattle.laws.specs.Repeat.{repeated}
use Rattle.eventlog.specs.declared.Event.{Event}
use Rattle.eventlog.specs.Kinds.{on_ticks, on_sample, on_wish, on_transfer}
use Rattle.emc2305_fan.specs.declared.Bit.{Bit}
use Rattle.emc2305_fan.specs.declared.Bit.TheVariants.{Stall, Spin}
use Rattle.emc2305_fan.specs.declared.Fan.{Fan}
use Rattle.emc2305_fan.specs.Drive.{wished}
use Rattle.emc2305_fan.specs.Tick.{ticked}
use Rattle.emc2305_fan.specs.Stored.{written}
use Rattle.emc2305_fan.specs.Tach.{sampled}
use Rattle.emc2305_fan.specs.Status.{but_status, bit_read}
use Rattle.emc2305_chip.specs.declared.Chip.{Chip}
use Rattle.emc2305_chip.specs.State.{fan_count, with_fans, with_pointer}
use Rattle.emc2305_chip.specs.Watching.{fed_chip}
use Rattle.emc2305.specs.Transfers.{byte_written, byte_read}
use Rattle.emc2305.specs.Traffic.{byte_stores_to}
use Rattle.walks.specs.Sequence.{Handed}
use Rattle.emc2305_promises.specs.Ramp.{next, is_taken, after_all, throughout, fan_of, watch_off}

-- what reaches a fan: a tick, a sample, a wish, a stored byte at an offset, a read of 25h or of 26h
pub data Own : Type 0 where
  tick : Own
  sample : ℕ → Own
  wish : ℕ → Own
  store : ℕ → ℕ → Own
  read : Bit → Own

-- what something that reaches a fan makes of it; no power-up watch runs
abbrev pub move_by : Own → Fan → Fan
move_by tick f = ticked f
move_by (sample count) f = sampled count false f
move_by (wish drive) f = wished drive f
move_by (store offset byte) f = written offset byte f
move_by (read which) f = bit_read which f

-- what all that reaches a fan makes of it, one after the other
unfoldable pub played : List Own → Fan → Fan
played [] f = f
played (own ∷ rest) f = played rest (move_by own f)

-- what reaches fan i + 1 of a data byte that is written at the pointer: the byte, where it is stored to one of its registers
abbrev pub of_byte : ℕ → ℕ → Chip → List Own
of_byte i byte c = cond (byte_stores_to i c) (store (c.pointer % 16) byte ∷ []) []

-- what reaches it of data bytes in turn, n in all
unfoldable pub of_bytes : ℕ → ℕ → List ℕ → Chip → List Own
of_bytes i n [] c = []
of_bytes i n (byte ∷ rest) c = of_byte i byte c ++ of_bytes i n rest (byte_written n byte c)

-- what reaches it of the bytes of a write transfer, of which the first sets the pointer
unfoldable pub of_write : ℕ → List ℕ → Chip → List Own
of_write i [] c = []
of_write i (pointer ∷ rest) c = of_bytes i (length rest) rest (with_pointer pointer c)

-- what reaches it of a byte that is read at an address: that it is one of 25h and 26h
abbrev pub of_read : ℕ → List Own
of_read address = cond (eqb address 0x25) (read Stall ∷ []) (cond (eqb address 0x26) (read Spin ∷ []) [])

-- what reaches it of the first k bytes of a read transfer of n
unfoldable pub of_reads : ℕ → ℕ → Chip → List Own
of_reads n zero c = []
of_reads n (suc k) c = of_reads n k c ++ of_read (repeated k (byte_read n) c).pointer

-- what reaches it of ticks: each of them
abbrev pub of_ticks : Event → List Own
of_ticks = on_ticks [] (λ count. replicate count tick)

-- what reaches fan i + 1 of a sample: one for it
abbrev pub of_sample : ℕ → Event → List Own
of_sample i = on_sample [] (λ fan count. cond (eqb fan (i + 1)) (sample count ∷ []) [])

-- what reaches fan i + 1 of a wish: one for it
abbrev pub of_wish : ℕ → Event → List Own
of_wish i = on_wish [] (λ fan drive. cond (eqb fan (i + 1)) (wish drive ∷ []) [])

-- what reaches it of a transfer: what its bytes bring, read or written
abbrev pub of_transfer : ℕ → List ℕ → Event → Chip → List Own
of_transfer i log event c =
    on_transfer []
    (λ reads to place n.
    cond reads (of_reads (get_or log place 0) (get_or log place 0) (fed_chip c)) (of_write i (bytes_at log place n) (fed_chip c))) event

-- what reaches it of an event that is taken; a power-on starts the power-up watch, and is none of those spoken of here
abbrev pub of_event : ℕ → List ℕ → Event → Chip → List Own
of_event i log event c = of_ticks event ++ (of_sample i event ++ (of_wish i event ++ of_transfer i log event c))

-- what reaches it of a sequence: nothing of an event that is refused
unfoldable pub own_traffic : ℕ → List Handed → Chip → List Own
own_traffic i [] c = []
own_traffic i (h ∷ rest) c = cond (is_taken h c) (of_event i h.log h.event c) [] ++ own_traffic i rest (next h c)

-- after any events over which the watch is off, a fan is what its own traffic makes of it
abbrev pub Alone : Type 0
Alone =
    (i : ℕ) (c : Chip) (events : List Handed)
    → length c.fans ≡ 5
    → i < fan_count c
    → throughout watch_off events c ≡ true
    → fan_of i (after_all events c) ≡ played (own_traffic i events c) (fan_of i c)

-- two sequences, on chips that have this fan in common, that agree on its own traffic leave it the same, whatever they do to other fans
abbrev pub NoFanWaits : Type 0
NoFanWaits =
    (i : ℕ) (c d : Chip) (events others : List Handed)
    → (length c.fans ≡ 5) × (length d.fans ≡ 5) × (i < fan_count c) × (i < fan_count d)
    → throughout watch_off events c ≡ true
    → throughout watch_off others d ≡ true
    → fan_of i c ≡ fan_of i d
    → own_traffic i events c ≡ own_traffic i others d
    → fan_of i (after_all events c) ≡ fan_of i (after_all others d)

-- traffic without the reads of 25h and 26h
unfoldable pub but_reads : List Own → List Own
but_reads [] = []
but_reads (tick ∷ rest) = tick ∷ but_reads rest
but_reads (sample count ∷ rest) = sample count ∷ but_reads rest
but_reads (wish drive ∷ rest) = wish drive ∷ but_reads rest
but_reads (store offset byte ∷ rest) = store offset byte ∷ but_reads rest
but_reads (read which ∷ rest) = but_reads rest

-- two sequences that agree on all of its traffic but these reads leave it the same but for its bits of 25h and 26h
abbrev pub StatusAside : Type 0
StatusAside =
    (i : ℕ) (c d : Chip) (events others : List Handed)
    → (length c.fans ≡ 5) × (length d.fans ≡ 5) × (i < fan_count c) × (i < fan_count d)
    → throughout watch_off events c ≡ true
    → throughout watch_off others d ≡ true
    → but_status (fan_of i c) ≡ but_status (fan_of i d)
    → but_reads (own_traffic i events c) ≡ but_reads (own_traffic i others d)
    → but_status (fan_of i (after_all events c)) ≡ but_status (fan_of i (after_all others d))

-- two chips that are alike but for their other fans, which may be in any state
abbrev pub AlikeBut : ℕ → Chip → Chip → Type 0
AlikeBut i c d = (with_fans d.fans c ≡ d) × (fan_of i c ≡ fan_of i d)

-- over the same events, the watch being off, the same reaches the fan in both, and it becomes the same: the state of the others makes no difference
abbrev pub OthersAside : Type 0
OthersAside =
    (i : ℕ) (c d : Chip) (events : List Handed)
    → (length c.fans ≡ 5) × (length d.fans ≡ 5) × (i < fan_count c)
    → AlikeBut i c d
    → throughout watch_off events c ≡ true
    → (throughout watch_off events d ≡ true)
    × (own_traffic i events c ≡ own_traffic i events d)
    × (fan_of i (after_all events c) ≡ fan_of i (after_all events d))
