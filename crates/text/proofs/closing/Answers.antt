use Rattle.std.proofs.Common.{rules, arith, List, ℕ, Option, Some, None, [], ◌++◌, ◌+◌, ◌*◌, ◌^◌, ◌≤◌, ◌<◌, ap, length, length-append}
use borrow.Author.Tests.{eq-eqb, ne_eqb}
use Rattle.laws.proofs.Buffer.{lent_from, back_from}
use Rattle.laws.proofs.Laid.{Laid}
use Rattle.text.specs.Text.{decimal, line_of, row_rest, end_word, stop_word, stop_line}
use Rattle.text.proofs.Lines.{last_pieces, closing_counts}
use Rattle.text.proofs.Wholes.{Whole, nothing, whole, as_text, some_laid, none_fits, taken, not_taken}
use Rattle.text.proofs.closing.Goals as goal

pub returns-then-number-eq0 : goal.returns-then-number-eq0
returns-then-number-eq0 c =
    let a = c.args in
    rw (eq-eqb a.number 0 c.if-number-eq0.true)
    (as_text _ _ a.out.now _ _ (last_pieces a.place (search rules) end_word) c.worded_row.ensures)

pub returns-then-out-digits : goal.returns-then-out-digits
returns-then-out-digits c =
    let a = c.args in
    let n = ap (λ (n : ℕ). length (decimal n)) c.from.ensures in
    rw (ne_eqb a.number 0 c.if-number-eq0.false)
    (nothing (line_of a.place a.number [] ++ stop_line a.place) a.out.now
    (omega (arith, closing_counts a.place (search rules) a.number)))

-- both lines fit: the first is laid, and the second behind it
module _ (place number : ℕ) (small : place < 2 ^ 64) (out lined part : List ℕ)
    (fits : 2 * length (decimal place) + length (decimal number) + 8 ≤ length out) where
  abbrev first : List ℕ
  first = line_of place number []

  abbrev second : List ℕ
  second = stop_line place

  both : length (first ++ second) ≤ length out
  both = omega (arith, closing_counts place small number)

  first_fits : length first ≤ length out
  first_fits = omega (arith, both, length-append first second)

  pub no_line : Whole first out None lined → ⊥
  no_line w = omega (arith, none_fits first out lined w, first_fits)

  module _ (n : ℕ) (lines : Whole first out (Some n) lined) where
    laid : Laid out lined n first
    laid = some_laid first out lined n lines

    pub within : n ≤ length out
    within = omega (arith, laid.counts, first_fits)

    last : (p : Option ℕ) → Whole (stop_word ++ decimal place ++ row_rest []) (lent_from n lined) p part → Whole second (lent_from n lined) p part
    last p w = as_text _ _ (lent_from n lined) p part (last_pieces place small stop_word) w

    pub no_last : Whole (stop_word ++ decimal place ++ row_rest []) (lent_from n lined) None part → ⊥
    no_last w = omega (arith, not_taken out lined n first laid within second part (last None w), both)

    pub both_laid : (m : ℕ) → Whole (stop_word ++ decimal place ++ row_rest []) (lent_from n lined) (Some m) part
        → Whole (first ++ second) out (Some (n + m)) (back_from n lined part)
    both_laid m w = whole (first ++ second) out (n + m) (back_from n lined part) both (taken out lined n first laid within second part m (last (Some m) w))

pub returns-in_err-last : goal.returns-in_err-last
returns-in_err-last c =
    let a = c.args in
    let n = ap (λ (n : ℕ). length (decimal n)) c.from.ensures in
    absurd
    (no_last a.place a.number (search rules) a.out.now c.line.new.out c.worded_row-2.new.out (omega arith) c.in_ok-first.first c.in_ok-first.ensures
    c.in_err-last.ensures)

pub returns : goal.returns
returns c =
    let a = c.args in
    let n = ap (λ (n : ℕ). length (decimal n)) c.from.ensures in
    rw (ne_eqb a.number 0 c.if-number-eq0.false)
    (both_laid a.place a.number (search rules) a.out.now c.line.new.out c.worded_row-2.new.out (omega arith) c.in_ok-first.first c.in_ok-first.ensures
    c.in_ok-last.last c.in_ok-last.ensures)
