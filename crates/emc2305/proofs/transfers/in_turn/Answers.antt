-- `emc2305::transfers::in_turn` meets its contract.
use mathlib.Core.Path.{◌≡◌, refl, sym, ap, ◌∙◌}
use Prim.Native.Nat.{ℕ, ◌+◌, ◌-◌, ◌≤◌}
use native.Mathlib.Omega.{arith}
use lib.ListN.{length, get_or, drop, length-set, length-drop}
use borrow.Author.Rules.{rules}
use Rattle.laws.proofs.Buffer.{lent_is}
use Rattle.emc2305_chip.specs.State.{fan_count}
use Rattle.emc2305_chip.specs.Map.{register_of}
use Rattle.emc2305_chip.specs.Registers.{register_at}
use Rattle.emc2305_chip.proofs.Maps.{found_at}
use Rattle.emc2305.specs.Transfers.{pointer_past, pointer_after, in_turn}
use Rattle.emc2305.proofs.Turns.{turn_next, turn_over}
use Rattle.emc2305.proofs.Blocks.{held, own_byte, read_only, nowhere, row_turn}
use Rattle.emc2305.proofs.transfers.in_turn.Goals as goal
use Rattle.emc2305.proofs.transfers.in_turn.Goals.{in-OfFan+then-written, in-OfFan+else-written, in-OfChip+then-is_writable, in-OfChip+else-is_writable, in-Undefined}

-- the fan and the offset at the pointer
pub offset_bounds-fans-at : goal.offset_bounds-fans-at
offset_bounds-fans-at c = let at = found_at (fan_count c.loop-i.chip) c.loop-i.pointer _ _ (c.register_of.ensures ∙ ap (λ (k : ℕ). register_of k c.loop-i.pointer) c.fan_count.ensures) c.in-OfFan.is in omega (arith, at.0)

pub bounds-fans-at : goal.bounds-fans-at
bounds-fans-at c = (found_at (fan_count c.loop-i.chip) c.loop-i.pointer _ _ (c.register_of.ensures ∙ ap (λ (k : ℕ). register_of k c.loop-i.pointer) c.fan_count.ensures) c.in-OfFan.is).0

pub offset_bounds-fans-at-in-OfFan : goal.offset_bounds-fans-at-in-OfFan
offset_bounds-fans-at-in-OfFan c = let at = found_at (fan_count c.loop-i.chip) c.loop-i.pointer _ _ (c.register_of.ensures ∙ ap (λ (k : ℕ). register_of k c.loop-i.pointer) c.fan_count.ensures) c.in-OfFan.is in omega (arith, at.0)

pub bounds-fans-at-in-OfFan : goal.bounds-fans-at-in-OfFan
bounds-fans-at-in-OfFan c = (found_at (fan_count c.loop-i.chip) c.loop-i.pointer _ _ (c.register_of.ensures ∙ ap (λ (k : ℕ). register_of k c.loop-i.pointer) c.fan_count.ensures) c.in-OfFan.is).0

-- how many bytes were taken
counted : (c : goal.After-row_known-1)
    → (1 ≤ c.match-register_of.count) × (c.match-register_of.count ≤ length c.args.bytes.now - c.loop-i.i)
counted c =
    let bytes = c.args.bytes.now in
    let l = c.loop-i in
    let left = length-drop l.i bytes in
    let same = ap length (lent_is l.i bytes) in
    elim c.match-register_of.branch [
      | in-OfFan+then-written w ↦
          (let p = found_at _ _ _ _ c.register_of.ensures w.in-OfFan.is in
          let e = w.count-is ∙ w.write-written.ensures.count_value in (omega (arith, p.1, e, left, same), omega (arith, e, left, same)))
      | in-OfFan+else-written w ↦
          (let p = found_at _ _ _ _ c.register_of.ensures w.in-OfFan.is in
          let e = w.count-is ∙ w.write-written.ensures.count_value in (omega (arith, p.1, e, left, same), omega (arith, e, left, same)))
      | in-OfChip+then-is_writable w ↦ (let e = w.count-is in (omega (arith, e), omega (arith, e)))
      | in-OfChip+else-is_writable w ↦ (let e = w.count-is in (omega (arith, e), omega (arith, e)))
      | in-Undefined w ↦ (let e = w.count-is in (omega (arith, e), omega (arith, e)))
    ]

pub loop-i-smaller : goal.loop-i-smaller
loop-i-smaller c = let n = counted c in omega (arith, n)

-- the bytes were written as they should be
wrote : (c : goal.After-row_known-1)
    → (let l = c.loop-i in
    let bytes = c.args.bytes.now in
    let m = c.match-register_of in
    (length m.fans ≡ 5)
    × (in_turn (length bytes) (drop (l.i + m.count) bytes) (held (pointer_after (length bytes) m.count l.pointer) m.fans m.chip)
    ≡ in_turn (length bytes) (drop l.i bytes) (held l.pointer l.fans l.chip)))
unfolding pointer_past
wrote c =
    let l = c.loop-i in
    let bytes = c.args.bytes.now in
    let n = length bytes in
    let byte = get_or bytes l.i 0 in
    let p = l.pointer in
    let five = l.invariant.1 in
    let found : c.register_of.result ≡ register_at l.chip p =
    c.register_of.ensures ∙ ap (λ (k : ℕ). register_of k p) c.fan_count.ensures in
    elim c.match-register_of.branch [
      | in-OfFan+then-written w ↦
          (let at = found_at _ p _ _ found w.in-OfFan.is in
          let row = row_turn n _ _ l.i p bytes _ l.fans l.chip _ _ _ _ at.0 at.3 (omega (arith, at.0, five)) at.1 at.2 refl (lent_is l.i bytes) w.is_locked.ensures
          w.write-written.ensures.fan_value w.write-written.ensures.programmed_value w.write-written.ensures.count_value in
          (ap length w.fans-is ∙ length-set l.fans _ _ ∙ five, rw (w.count-is, w.fans-is, w.chip-is ∙ w.programmed-chip.ensures) (rw w.if-written.true at row)))
      | in-OfFan+else-written w ↦
          (let at = found_at _ p _ _ found w.in-OfFan.is in
          let row = row_turn n _ _ l.i p bytes _ l.fans l.chip _ _ _ _ at.0 at.3 (omega (arith, at.0, five)) at.1 at.2 refl (lent_is l.i bytes) w.is_locked.ensures
          w.write-written.ensures.fan_value w.write-written.ensures.programmed_value w.write-written.ensures.count_value in
          (ap length w.fans-is ∙ length-set l.fans _ _ ∙ five, rw (w.count-is, w.fans-is, w.chip-is) (rw w.if-written.false at row)))
      | in-OfChip+then-is_writable w ↦ (
        ap length w.fans-is ∙ five,
        rw (w.count-is, w.fans-is, w.chip-is ∙ w.own_written-chip.ensures)
            (turn_next n l.i bytes _ _ (search rules) (own_byte n p byte l.fans l.chip _ (sym found ∙ w.in-OfChip.is))),
      )
      | in-OfChip+else-is_writable w ↦ (
        ap length w.fans-is ∙ five,
        rw (w.count-is, w.fans-is, w.chip-is)
            (turn_next n l.i bytes _ _ (search rules) (read_only n p byte l.fans l.chip _ (sym found ∙ w.in-OfChip.is) (sym w.is_writable.ensures ∙ w.if-is_writable.false))),
      )
      | in-Undefined w ↦ (
        ap length w.fans-is ∙ five,
        rw (w.count-is, w.fans-is, w.chip-is) (turn_next n l.i bytes _ _ (search rules) (nowhere n p byte l.fans l.chip (sym found ∙ w.in-Undefined.is))),
      )
    ]

pub loop-i-preserved : goal.loop-i-preserved
loop-i-preserved c =
    let l = c.loop-i in
    let bytes = c.args.bytes.now in
    let m = c.match-register_of in
    let n = counted c in
    let w = wrote c in (
      omega (arith, n),
      w.0,
      ap (λ (p : ℕ). in_turn (length bytes) (drop (l.i + m.count) bytes) (held p m.fans m.chip)) c.pointer_past-pointer.ensures ∙ w.1 ∙ l.invariant.2,
    )

pub returns : goal.returns
returns c =
    let bytes = c.args.bytes.now in
    let l = c.loop-i in
    sym (turn_over (length bytes) l.i bytes (held l.pointer l.fans l.chip) (search rules)) ∙ l.invariant.2
