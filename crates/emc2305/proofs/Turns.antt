-- Laws for the loops: ticks, data bytes, reply bytes.
use mathlib.Core.Path.{◌≡◌, refl, ◌∙◌}
use mathlib.Core.List.{List}
use Prim.Native.Nat.{ℕ, zero, suc, ◌+◌, ◌≤◌, ◌<◌}
use native.Mathlib.Omega.{arith}
use native.Mathlib.Numerals.{add-one}
use lib.ListN.{length, get_or, drop, set, drop_of_length-le, length-append}
use lib.Seq.{drop-cons}
use Rattle.laws.specs.Buffer.{laid_over}
use Rattle.laws.specs.Repeat.{repeated}
use Rattle.laws.proofs.Buffer.{laid_one}
use Rattle.emc2305_chip.specs.declared.Chip.{Chip}
use Rattle.emc2305_chip.specs.Registers.{shown_at}
use Rattle.emc2305.specs.Transfers.{byte_written, in_turn, byte_read, reply_of}

-- one data byte more
pub turn_next : (n i : ℕ) (bytes : List ℕ) (c next : Chip) → i < length bytes → next ≡ byte_written n (get_or bytes i 0) c
    → in_turn n (drop (i + 1) bytes) next ≡ in_turn n (drop i bytes) c
unfolding in_turn
turn_next n i bytes c next h e = rw (drop-cons bytes i 0 h, add-one i, e) refl

pub turn_over : (n i : ℕ) (bytes : List ℕ) (c : Chip) → length bytes ≤ i → in_turn n (drop i bytes) c ≡ c
unfolding in_turn
turn_over n i bytes c h = rw (drop_of_length-le bytes {i = i} h) refl

-- the reply has as many bytes as were read
pub reply_length_lem : (n : ℕ) (c : Chip) (k : ℕ) → length (reply_of n c k) ≡ k
unfolding reply_of
reply_length_lem n c zero = refl
reply_length_lem n c (suc k) = length-append (reply_of n c k) _ ∙ rw (reply_length_lem n c k) (omega arith)

-- one reply byte more
pub reply_next : (n i : ℕ) (c now : Chip) (first reply : List ℕ) (byte : ℕ) → now ≡ repeated i (byte_read n) c
    → reply ≡ laid_over (reply_of n c i) first → i < length first → byte ≡ shown_at now now.pointer → set reply i byte ≡ laid_over (reply_of n c (i + 1)) first
unfolding reply_of
reply_next n i c now first reply byte e f h g =
    rw (f, g, e, add-one i) (laid_one (reply_of n c i) _ first i (reply_length_lem n c i) h)
