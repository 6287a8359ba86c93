use Rattle.std.proofs.Common.{rules, arith, ap, List, ℕ, [], ◌∷◌, ◌++◌, ◌≡◌, ◌+◌, ◌*◌, ◌<◌, length, set}
use borrow.Author.Tests.{ltb-true, ltb-false}
use Rattle.laws.specs.Buffer.{laid_over}
use Rattle.laws.proofs.Buffer.{lent_from, back_from}
use Rattle.laws.proofs.Laid.{Laid, byte_on, piece_on}
use Rattle.text.specs.Text.{decimal, hex_bytes, line_of}
use Rattle.text.proofs.Lengths.{hex_length}
use Rattle.text.proofs.Lines.{line_counts, line_pieces}
use Rattle.text.proofs.Wholes.{nothing, end_room, end_whole}
use Rattle.text.proofs.line.Goals as goal
use Rattle.text.proofs.line.Goals.{then-out-end-via-then-out-end, then-out-end-via-else-out-end+then-out-end-2}

pub returns-then-out-end : goal.returns-then-out-end
returns-then-out-end c =
    let a = c.args in
    let l = line_counts a.place (search rules) a.number a.reply.now in
    let n = ap (λ (n : ℕ). length (decimal n)) c.from-number.ensures in
    nothing (line_of a.place a.number a.reply.now) a.out.now
    (elim c.then-out-end.branch [
      | then-out-end-via-then-out-end w ↦ omega arith
      | then-out-end-via-else-out-end+then-out-end-2 w ↦ omega (arith, ltb-true)
    ])

-- the place is laid, a space behind it, the number behind them, and the reply
module _ (place number : ℕ) (reply out : List ℕ) (space width bytes : ℕ) (first second third : List ℕ)
    (spaces : space ≡ length (decimal place)) (widths : width ≡ length (decimal number)) (reads : bytes ≡ length (hex_bytes reply))
    (placed : first ≡ laid_over (decimal place) out)
    (numbered : second ≡ laid_over (decimal number) (lent_from (space + 1) (set first space 0x20)))
    (replied : third ≡ laid_over (hex_bytes reply) (lent_from (space + 1 + width) (back_from (space + 1) (set first space 0x20) second)))
    (fits : space + 1 + width + 3 * length reply < length out) where
  laid : Laid out (back_from (space + 1 + width) (back_from (space + 1) (set first space 0x20) second) third) (space + 1 + width + bytes)
      (decimal place ++ (0x20 ∷ []) ++ decimal number ++ hex_bytes reply)
  laid =
      let spaced = byte_on out first space (decimal place) (record { counts = spaces; holds = placed }) 0x20 (omega arith) in
      piece_on _ _ _ _ (piece_on _ _ _ _ spaced (decimal number) second width widths numbered) (hex_bytes reply) third bytes reads replied

  ends : space + 1 + width + bytes < length out
  ends = omega (arith, hex_length reply)

pub bounds-out-last : goal.bounds-out-last
bounds-out-last c =
    let a = c.args in
    let fits : c.digits-space.result + 1 + c.digits-width.result + 3 * length a.reply.now < length a.out.now = omega (arith, ltb-false) in
    end_room _ _ _ _
    (laid a.place c.from-number.result a.reply.now a.out.now _ _ _ _ _ _ c.digits-space.ensures.counts c.digits-width.ensures.counts c.lay_bytes.ensures.0
    c.lay_digits.ensures c.lay_digits-2.ensures c.lay_bytes.ensures.1 fits)
    (ends a.place c.from-number.result a.reply.now a.out.now _ _ _ _ _ _ c.digits-space.ensures.counts c.digits-width.ensures.counts c.lay_bytes.ensures.0
    c.lay_digits.ensures c.lay_digits-2.ensures c.lay_bytes.ensures.1 fits)

pub returns : goal.returns
returns c =
    let a = c.args in
    let fits : c.digits-space.result + 1 + c.digits-width.result + 3 * length a.reply.now < length a.out.now = omega (arith, ltb-false) in
    rw (← c.from-number.ensures)
    (end_whole _ _ _ _
    (laid a.place c.from-number.result a.reply.now a.out.now _ _ _ _ _ _ c.digits-space.ensures.counts c.digits-width.ensures.counts c.lay_bytes.ensures.0
    c.lay_digits.ensures c.lay_digits-2.ensures c.lay_bytes.ensures.1 fits)
    (ends a.place c.from-number.result a.reply.now a.out.now _ _ _ _ _ _ c.digits-space.ensures.counts c.digits-width.ensures.counts c.lay_bytes.ensures.0
    c.lay_digits.ensures c.lay_digits-2.ensures c.lay_bytes.ensures.1 fits) _ (line_pieces _ (search rules) _ _))
