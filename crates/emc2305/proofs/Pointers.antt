-- The pointer over a transfer, and the bytes of a reply.
use mathlib.Core.Path.{◌≡◌, refl, ap, ◌∙◌}
use mathlib.Core.Bool.{true}
use mathlib.Core.List.{List, [], ◌∷◌}
use Prim.Native.Nat.{ℕ, zero, suc, ◌+◌, ◌<◌}
use native.Mathlib.Omega.{arith}
use native.Mathlib.Nat.{zero-add, add-zero, suc-add, add-suc}
use lib.Dec.{leb, eqb}
use lib.ListN.{length, get_or, get_or-append}
use lib.Seq.{get_or_at}
use borrow.Author.Tests.{eqb-true, eqb-false}
use Rattle.laws.specs.Repeat.{repeated}
use Rattle.laws.proofs.Tests.{by_test}
use Rattle.emc2305_chip.specs.declared.Chip.{Chip}
use Rattle.emc2305_chip.specs.declared.Register.{Register}
use Rattle.emc2305_chip.specs.State.{with_pointer}
use Rattle.emc2305_chip.specs.Registers.{register_at, fan_stored, shown_at, cleared_at, written_at}
use Rattle.emc2305_chip.proofs.Moves.{cleared_keeps, stored_keeps, written_keeps}
use Rattle.emc2305.specs.Transfers.{pointer_past, pointer_after, passed, byte_written, in_turn, sent, byte_read, reply_of}
use Rattle.emc2305.specs.Promises.{Pointer, ReplyBytes}
use Rattle.emc2305.proofs.Turns.{reply_length_lem}

-- neither a read nor a write moves the pointer itself
read_stays : (address : ℕ) (c : Chip) → (cleared_at address c).pointer ≡ c.pointer
unfolding cleared_at
read_stays address c = cleared_keeps (λ (d : Chip). d.pointer) c refl (λ which. refl) (register_at c address)

write_stays : (address byte : ℕ) (c : Chip) → (written_at address byte c).pointer ≡ c.pointer
unfolding fan_stored
write_stays address byte c =
    let v : Chip → ℕ = λ d. d.pointer in
    written_keeps v address byte c
    (λ t. stored_keeps v (λ (r : Register). true) byte c (λ e. refl) refl (λ i. refl) (λ i offset e. refl) (λ e. refl) (register_at c address) refl)

-- where no byte was passed, and where one more was
none_passed : (n p : ℕ) → p < 256 → p ≡ pointer_after n 0 p
none_passed n p h = by_test (leb n 1) (λ t. rw t) (λ t. rw t (omega arith))

one_passed : (n : ℕ) (c : Chip) (p k : ℕ) → c.pointer ≡ pointer_after n k p → (passed n c).pointer ≡ pointer_after n (suc k) p
unfolding pointer_past
one_passed n c p k e = by_test (leb n 1) (λ t. rw t (rw t at e)) (λ t. rw t (rw (rw t at e) (omega arith)))

-- after bytes are written in turn, behind k that were before
turns_pass : (n p k : ℕ) (bytes : List ℕ) (c : Chip) → c.pointer ≡ pointer_after n k p → (in_turn n bytes c).pointer ≡ pointer_after n (k + length bytes) p
unfolding in_turn byte_written
turns_pass n p k [] c e = rw (add-zero k) e
turns_pass n p k (byte ∷ rest) c e =
    turns_pass n p (suc k) rest (byte_written n byte c)
    (one_passed n (written_at c.pointer byte c) p k (write_stays c.pointer byte c ∙ e))
    ∙ rw (suc-add k (length rest), add-suc k (length rest))

-- after k bytes are read
pub reads_pass : (n k : ℕ) (c : Chip) → c.pointer < 256 → (repeated k (byte_read n) c).pointer ≡ pointer_after n k c.pointer
unfolding repeated byte_read
reads_pass n zero c h = none_passed n c.pointer h
reads_pass n (suc k) c h =
    let d = repeated k (byte_read n) c in
    one_passed n (cleared_at d.pointer d) c.pointer k (read_stays d.pointer d ∙ reads_pass n k c h)

pub pointer_moves : Pointer
unfolding sent
pointer_moves c = (
  refl,
  λ pointer rest h.
      let n = length rest in
      turns_pass n pointer 0 rest (with_pointer pointer c) (none_passed n pointer h) ∙ rw (zero-add n),
  λ n h. reads_pass n n c h,
)

-- each byte is that of the register at the pointer, in whatever number of bytes
pub reply_at : (n : ℕ) (c : Chip) (m k : ℕ) → k < m
    → let d : Chip = repeated k (byte_read n) c in
    get_or (reply_of n c m) k 0 ≡ shown_at d d.pointer
unfolding reply_of
reply_at n c zero k h = absurd (omega arith)
reply_at n c (suc m) k h =
    let d = repeated m (byte_read n) c in
    let l = reply_length_lem n c m in
    by_test (eqb k m) (λ t. rw (eqb-true k m t) (get_or_at (reply_of n c m) (shown_at d d.pointer) [] 0 m l))
    (λ t.
    let e = eqb-false k m t in
    get_or-append (reply_of n c m) (shown_at d d.pointer ∷ []) 0 k (omega arith) ∙ reply_at n c m k (omega arith))

pub reply_bytes : ReplyBytes
reply_bytes c n h = (
  reply_length_lem n c n,
  λ k l. reply_at n c n k l ∙ ap (shown_at (repeated k (byte_read n) c)) (reads_pass n k c h),
)
