-- What the bytes of a read do to a fan's status, and what they show of it (specs/Held.antt).
use mathlib.Core.Path.{◌≡◌, refl, sym, ap, ◌∙◌}
use mathlib.Core.Bool.{true, false}
use mathlib.Core.List.{List}
use Prim.Native.Nat.{ℕ, zero, suc, ◌+◌, ◌-◌, ◌%◌, ◌≤◌, ◌<◌}
use native.Mathlib.Omega.{arith}
use lib.Dec.{eqb}
use borrow.Author.Tests.{lt-leb, eqb-true, eqb-false}
use Rattle.laws.specs.Repeat.{repeated}
use Rattle.laws.proofs.Repeat.{repeated_add}
use Rattle.laws.proofs.Tests.{by_test, or_left, or_right}
use Rattle.eventlog.specs.declared.Event.{Event}
use Rattle.eventlog.specs.Kinds.{reply_length}
use Rattle.emc2305_fan.specs.declared.Bit.{Bit}
use Rattle.emc2305_fan.specs.declared.Bit.TheVariants.{Stall, Spin}
use Rattle.emc2305_fan.specs.declared.Fan.{Fan}
use Rattle.emc2305_fan.specs.Registers.{bit}
use Rattle.emc2305_fan.specs.Spin.{too_slow}
use Rattle.emc2305_fan.specs.Status.{standing, other, stuck, bit_read}
use Rattle.emc2305_fan.proofs.Statuses.{kept, status_read}
use Rattle.emc2305_chip.specs.declared.Chip.{Chip}
use Rattle.emc2305_chip.specs.State.{fan_count}
use Rattle.emc2305_chip.specs.Map.{register_of}
use Rattle.emc2305_chip.specs.Watching.{fed_chip}
use Rattle.emc2305_chip.specs.Registers.{shown_at}
use Rattle.emc2305_chip.proofs.Statuses.{status_bits}
use Rattle.emc2305.specs.Transfers.{pointer_after, byte_read, read_out}
use Rattle.emc2305.specs.Step.{taken, reply_to}
use Rattle.emc2305.proofs.Effects.{by_effect}
use Rattle.emc2305.proofs.Pointers.{reads_pass, reply_at}
use Rattle.walks.specs.Sequence.{Handed}
use Rattle.emc2305_promises.specs.Ramp.{fan_of}
use Rattle.emc2305_promises.specs.Alone.{played, of_read}
use Rattle.emc2305_promises.specs.Held.{register_for, reply_byte, read_from, Reads, reads_among}
use Rattle.emc2305_promises.proofs.OwnBytes.{read_own}
use Rattle.emc2305_promises.proofs.Events.{Has, has_reads, reads_part}

-- reads: one byte, and k of them
module _ (i : ℕ) (P : Fan → Type 0) where
  one_read : (n : ℕ) (c : Chip) → Has i c → P (fan_of i c)
      → ((which : Bit) → c.pointer ≡ register_for which → P (bit_read which (fan_of i c))) → P (fan_of i (byte_read n c))
  unfolding played
  one_read n c l p reads =
      let at = c.pointer in
      rw (read_own i n c l)
      (by_test (eqb at 0x25) (λ t. rw t (reads Stall (eqb-true at 0x25 t)))
      (λ t. rw t (by_test (eqb at 0x26) (λ u. rw u (reads Spin (eqb-true at 0x26 u))) (λ u. rw u p))))

  pub reads_keep : (n k : ℕ) (c : Chip) → Has i c → P (fan_of i c)
      → ((j : ℕ) (which : Bit) → j < k → (repeated j (byte_read n) c).pointer ≡ register_for which → P (fan_of i (repeated j (byte_read n) c))
      → P (bit_read which (fan_of i (repeated j (byte_read n) c))))
      → P (fan_of i (repeated k (byte_read n) c))
  unfolding repeated
  reads_keep n zero c l p reads = p
  reads_keep n (suc k) c l p reads =
      let before = reads_keep n k c l p (λ j which h. reads j which (omega (arith, h))) in
      one_read n (repeated k (byte_read n) c) (has_reads i n k c l) before (λ which at. reads k which (omega arith) at before)

-- a fan that is stuck is left by any read
pub stuck_reads : (i n k : ℕ) (c : Chip) → Has i c → stuck (fan_of i c) ≡ true → fan_of i (repeated k (byte_read n) c) ≡ fan_of i c
stuck_reads i n k c l s =
    reads_keep i (λ (g : Fan). g ≡ fan_of i c) n k c l refl (λ j which h at e. ap (bit_read which) e ∙ kept which (fan_of i c) s)

-- what a byte that is read from the bit's register shows
shown_bit : (which : Bit) (i : ℕ) (c : Chip) → i < fan_count c → bit i (shown_at c (register_for which)) ≡ standing which (fan_of i c)
unfolding shown_at register_of
shown_bit Stall i c h = ((status_bits c).2 i h).0
shown_bit Spin i c h = ((status_bits c).2 i h).1

pub reply_bit : (which : Bit) (i k : ℕ) (h : Handed) (c : Chip) → i < fan_count c → Reads (register_for which) k h c
    → bit i (reply_byte k h c) ≡ standing which (fan_of i (repeated k (byte_read (reply_length h.log h.event)) (fed_chip c)))
unfolding reply_to
reply_bit which i k h c l (t, short, from) =
    let n = reply_length h.log h.event in
    let d = repeated k (byte_read n) (fed_chip c) in
    ap (bit i) (reply_at n (fed_chip c) n k short ∙ ap (shown_at d) from) ∙ shown_bit which i d (rw (reads_part n k (fed_chip c)) l)

-- a register that is not read
pub not_among : (register n j : ℕ) (h : Handed) (c : Chip) → reads_among register n h c ≡ false → j < n → read_from j h c ≡ register → ⊥
unfolding reads_among
not_among register zero j h c none l e = absurd (omega arith)
not_among register (suc n) j h c none l e =
    by_test (eqb j n)
    (λ t. eqb-false (read_from n h c) register (or_right (reads_among register n h c) _ none) (rw (sym (eqb-true j n t)) e))
    (λ t. not_among register n j h c (or_left (reads_among register n h c) _ none) (omega (arith, eqb-false j n t)) e)

-- no register is read twice in one reply
pub read_once : (n j k : ℕ) (c : Chip) (register : ℕ) → register < 256 → n ≤ 32 → j < k → k < n → (repeated j (byte_read n) c).pointer ≡ register
    → (repeated k (byte_read n) c).pointer ≡ register → ⊥
read_once n j k c register byte small before inside first second =
    let d = repeated j (byte_read n) c in
    let m = k - j in
    let split : j + m ≡ k = omega arith in
    let again : (repeated m (byte_read n) d).pointer ≡ register =
    ap (λ (e : Chip). e.pointer) (sym (repeated_add j m (byte_read n) c)) ∙ ap (λ (x : ℕ). (repeated x (byte_read n) c).pointer) split ∙ second in
    let passes : pointer_after n m d.pointer ≡ (register + m) % 256 = rw (first, lt-leb n 1 (omega arith)) in
    absurd (omega (arith, sym again ∙ reads_pass n m d (rw first byte) ∙ passes))

-- one of the bits, or the other
pub by_bit : {X : Type 0} (which read : Bit) → (read ≡ which → X) → (which ≡ other read → X) → X
by_bit Stall Stall own another = own refl
by_bit Stall Spin own another = another refl
by_bit Spin Stall own another = another refl
by_bit Spin Spin own another = own refl

-- reads of the other register leave a fan that turns such, with its bit
pub slow_aside : (read : Bit) (f : Fan) → too_slow (bit_read read f) ≡ too_slow f
unfolding too_slow
slow_aside read f = ap too_slow (status_read read f).2

pub other_kept : (which read : Bit) (f : Fan) → which ≡ other read → standing which (bit_read read f) ≡ standing which f
other_kept which read f e = rw e (status_read read f).1

-- a bit that does not stand is set by no read
pub gone_kept : (which read : Bit) (f : Fan) → standing which f ≡ false → standing which (bit_read read f) ≡ false
gone_kept which read f p =
    by_bit which read (λ e. rw (e, (status_read which f).0, p)) (λ e. other_kept which read f e ∙ p)

-- a byte that is read from the bit's register
pub read_there : (which : Bit) (i n : ℕ) (c : Chip) → Has i c → c.pointer ≡ register_for which → fan_of i (byte_read n c) ≡ bit_read which (fan_of i c)
unfolding played
read_there Stall i n c l at = read_own i n c l ∙ ap (λ (a : ℕ). played (of_read a) (fan_of i c)) at
read_there Spin i n c l at = read_own i n c l ∙ ap (λ (a : ℕ). played (of_read a) (fan_of i c)) at

-- the chip after a read that is taken
pub read_taken : (log : List ℕ) (event : Event) (c : Chip) → 0 < reply_length log event → taken log event c ≡ read_out (reply_length log event) (fed_chip c)
unfolding taken
read_taken log event c =
    by_effect (λ (e : Event). 0 < reply_length log e → taken log e c ≡ read_out (reply_length log e) (fed_chip c)) (λ e on h. let none : reply_length log e ≡ 0 = on.no_transfer 0 _ in absurd (omega (arith, h)))
    (λ n h. absurd (omega (arith, h))) (λ fan n h. absurd (omega (arith, h))) (λ fan drive h. absurd (omega (arith, h))) (λ to place n h. refl)
    (λ to place n h. absurd (omega (arith, h)))
    (λ e idle h. let none : reply_length log e ≡ 0 = idle.no_transfer 0 _ in absurd (omega (arith, h)))
    event
