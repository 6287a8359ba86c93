-- `emc2305::transfers::read_out` meets its contract.
use mathlib.Core.Path.{◌≡◌, refl, sym, ap, ◌∙◌}
use Prim.Native.Nat.{ℕ}
use native.Mathlib.Omega.{arith}
use lib.ListN.{length, set, length-set}
use borrow.Author.Rules.{rules}
use Rattle.laws.specs.Repeat.{repeated}
use Rattle.laws.specs.Buffer.{laid_over}
use Rattle.laws.proofs.Repeat.{once_more}
use Rattle.emc2305_chip.specs.State.{fan_count, with_pointer}
use Rattle.emc2305_chip.specs.Registers.{register_at}
use Rattle.emc2305_chip.specs.Map.{register_of}
use Rattle.emc2305_chip.proofs.Bits.{nothing_cleared}
use Rattle.emc2305_chip.proofs.Maps.{found_at}
use Rattle.emc2305.specs.Transfers.{pointer_past, byte_read, reply_of}
use Rattle.emc2305.proofs.Turns.{reply_next}
use Rattle.emc2305.proofs.Blocks.{ReadOne, fan_read, none_read, own_read, own_shown_lem}
use Rattle.emc2305.proofs.transfers.read_out.Goals as goal
use Rattle.emc2305.proofs.transfers.read_out.Goals.{in-OfFan, in-OfChip+then-byte-ne0+then-is_cleared, in-OfChip+then-byte-ne0+else-is_cleared, in-OfChip+else-byte-ne0, in-Undefined}

pub loop-i-init : goal.loop-i-init
unfolding repeated reply_of
loop-i-init c = (refl, refl, refl, λ k o. refl)

-- the fan and the offset at the pointer
pub offset_bounds-fans-at : goal.offset_bounds-fans-at
offset_bounds-fans-at c = let at = found_at (fan_count c.loop-i.chip) c.loop-i.pointer _ _ (c.register_of.ensures ∙ ap (λ (k : ℕ). register_of k c.loop-i.pointer) c.fan_count.ensures) c.in-OfFan.is in omega (arith, at.0)

pub bounds-fans-at : goal.bounds-fans-at
bounds-fans-at c = (found_at (fan_count c.loop-i.chip) c.loop-i.pointer _ _ (c.register_of.ensures ∙ ap (λ (k : ℕ). register_of k c.loop-i.pointer) c.fan_count.ensures) c.in-OfFan.is).0

-- a byte was laid, and read as it should be
read : (c : goal.After-pointer_past-pointer)
    → (byte : ℕ)
    × (c.match-register_of.reply ≡ set c.loop-i.reply c.loop-i.i byte)
    × ReadOne c.args.n c.loop-i.pointer byte c.loop-i.chip c.match-register_of.chip c.args.chip.fans
read c =
    let l = c.loop-i in
    let a = c.args in
    let next = c.match-register_of.chip in
    let fans = a.chip.fans in
    let same = l.invariant.3 in
    let found : register_at l.chip l.pointer ≡ c.register_of.result =
    sym (c.register_of.ensures ∙ ap (λ (k : ℕ). register_of k l.pointer) c.fan_count.ensures) in
    elim c.match-register_of.branch [
      | in-OfFan w ↦
          (w.register.result, w.reply-is, fan_read a.n l.pointer w.register.result l.chip next fans same _ _ (found ∙ w.in-OfFan.is) w.register.ensures w.chip-is)
      | in-OfChip+then-byte-ne0+then-is_cleared w ↦ (
        w.own_register-byte.result,
        w.reply-is,
        own_read a.n l.pointer w.own_register-byte.result l.chip next fans same _ (found ∙ w.in-OfChip.is) w.own_register-byte.ensures (w.chip-is ∙ w.own_cleared-chip.ensures),
      )
      | in-OfChip+then-byte-ne0+else-is_cleared w ↦ (
        w.own_register-byte.result,
        w.reply-is,
        own_shown_lem a.n l.pointer w.own_register-byte.result l.chip next fans same _ (found ∙ w.in-OfChip.is) w.own_register-byte.ensures
            (sym w.is_cleared.ensures ∙ w.if-is_cleared.false) w.chip-is,
      )
      | in-OfChip+else-byte-ne0 w ↦ (
        w.own_register-byte.result,
        w.reply-is,
        own_read a.n l.pointer w.own_register-byte.result l.chip next fans same _ (found ∙ w.in-OfChip.is) w.own_register-byte.ensures
            (w.chip-is ∙ sym (nothing_cleared w.in-OfChip.own l.chip (sym w.own_register-byte.ensures ∙ w.if-byte-ne0.false))),
      )
      | in-Undefined w ↦ (0, w.reply-is, none_read a.n l.pointer 0 l.chip next fans same (found ∙ w.in-Undefined.is) refl w.chip-is)
    ]

pub loop-i-preserved : goal.loop-i-preserved
unfolding pointer_past
loop-i-preserved c =
    let l = c.loop-i in
    let a = c.args in
    let m = c.match-register_of in
    let r = read c in (
      ap (λ (p : ℕ). with_pointer p m.chip) c.pointer_past-pointer.ensures ∙ once_more _ _ _ _ _ l.invariant.0 r.2.1,
      r.1 ∙ reply_next a.n l.i a.chip _ a.reply.now _ _ l.invariant.0 l.invariant.1 (let h = l.invariant.2 in search rules) r.2.0,
      ap length r.1 ∙ length-set l.reply l.i r.0 ∙ l.invariant.2,
      r.2.2,
    )

pub returns : goal.returns
returns c =
    let a = c.args in
    let l = c.loop-i in (
      l.invariant.0 ∙ ap (λ (k : ℕ). repeated k (byte_read a.n) a.chip) (omega arith),
      l.invariant.1 ∙ ap (λ (k : ℕ). laid_over (reply_of a.n a.chip k) a.reply.now) (omega arith),
    )
