-- What a theorem says of an event: whether it stores to a fan's registers, and whether it is a sample, or a sample or a wish for a fan.
use Rattle.std.specs.Prelude.{Bool, true, false, cond, ◌&&◌, ◌||◌, List, [], ◌∷◌, ℕ, ◌+◌, eqb, length}
use Rattle.laws.specs.Buffer.{bytes_at}
use Rattle.eventlog.specs.declared.Event.{Event}
use Rattle.eventlog.specs.Kinds.{on_sample, on_wish, on_transfer}
use Rattle.emc2305_chip.specs.declared.Chip.{Chip}
use Rattle.emc2305_chip.specs.State.{with_pointer}
use Rattle.emc2305_chip.specs.Map.{is_of_fan}
use Rattle.emc2305_chip.specs.Watching.{fed_chip}
use Rattle.emc2305_chip.specs.Registers.{register_at, stores_at}
use Rattle.emc2305.specs.Transfers.{byte_written}

-- a data byte written at the pointer is a stored write to a register of fan i + 1
abbrev pub byte_stores_to : ℕ → Chip → Bool
byte_stores_to i c = is_of_fan i (register_at c c.pointer) && stores_at c c.pointer

-- one of the data bytes, of n in all, is a stored write to a register of fan i + 1
unfoldable pub any_stores_to : ℕ → ℕ → List ℕ → Chip → Bool
any_stores_to i n [] c = false
any_stores_to i n (byte ∷ rest) c = byte_stores_to i c || any_stores_to i n rest (byte_written n byte c)

-- one of the bytes of a write transfer, of which the first sets the pointer, is such a stored write
unfoldable pub sent_stores_to : ℕ → List ℕ → Chip → Bool
sent_stores_to i [] c = false
sent_stores_to i (pointer ∷ rest) c = any_stores_to i (length rest) rest (with_pointer pointer c)

-- an event, where it is taken, holds a stored write to a register of fan i + 1
abbrev pub stores_to : ℕ → List ℕ → Event → Chip → Bool
stores_to i log event c =
    on_transfer false (λ reads to place n. cond reads false (sent_stores_to i (bytes_at log place n) (fed_chip c))) event

-- an event is a sample
abbrev pub is_sample : Event → Bool
is_sample = on_sample false (λ fan count. true)

-- an event is a sample of fan i + 1
abbrev pub is_sample_of : ℕ → Event → Bool
is_sample_of i = on_sample false (λ fan count. eqb fan (i + 1))

-- an event is a wish for fan i + 1
abbrev pub is_wish_for : ℕ → Event → Bool
is_wish_for i = on_wish false (λ fan drive. eqb fan (i + 1))
