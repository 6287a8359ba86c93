-- Transfers: the pointer, data bytes written, bytes read.
use Rattle.std.specs.Prelude.{cond, List, [], ◌∷◌, ◌++◌, ℕ, zero, suc, ◌+◌, ◌%◌, leb, length}
use Rattle.laws.specs.Repeat.{repeated}
use Rattle.emc2305_chip.specs.declared.Chip.{Chip}
use Rattle.emc2305_chip.specs.State.{with_pointer}
use Rattle.emc2305_chip.specs.Registers.{shown_at, cleared_at, written_at}

-- the pointer after a data byte of n: with one it stays, with two or more it goes up by one, FFh to 00h
unfoldable pub pointer_past : ℕ → ℕ → ℕ
pointer_past n pointer = cond (leb n 1) pointer ((pointer + 1) % 256)

-- the pointer after k of n data bytes
abbrev pub pointer_after : ℕ → ℕ → ℕ → ℕ
pointer_after n k pointer = cond (leb n 1) pointer ((pointer + k) % 256)

-- the chip with the pointer past a data byte of n
abbrev pub passed : ℕ → Chip → Chip
passed n c = with_pointer (pointer_past n c.pointer) c

-- a data byte of n is written to the register at the pointer
unfoldable pub byte_written : ℕ → ℕ → Chip → Chip
byte_written n byte c = passed n (written_at c.pointer byte c)

-- data bytes of n act in turn
unfoldable pub in_turn : ℕ → List ℕ → Chip → Chip
in_turn n [] c = c
in_turn n (byte ∷ rest) c = in_turn n rest (byte_written n byte c)

-- a write transfer: the first byte sets the pointer; with no byte nothing changes
unfoldable pub sent : List ℕ → Chip → Chip
sent [] c = c
sent (pointer ∷ rest) c = in_turn (length rest) rest (with_pointer pointer c)

-- a byte of n is read from the register at the pointer
unfoldable pub byte_read : ℕ → Chip → Chip
byte_read n c = passed n (cleared_at c.pointer c)

-- the first k bytes of a reply of n, each read in the state that the ones before it left
unfoldable pub reply_of : ℕ → Chip → ℕ → List ℕ
reply_of n c zero = []
reply_of n c (suc k) =
    let before : Chip = repeated k (byte_read n) c in
    reply_of n c k ++ (shown_at before before.pointer ∷ [])

-- the chip after a read of n bytes
abbrev pub read_out : ℕ → Chip → Chip
read_out n c = repeated n (byte_read n) c
