use Rattle.std.proofs.Common.{rules, ℕ, [], ◌∷◌, ◌++◌, ap, ◌∙◌}
use borrow.Author.Tests.{eq-eqb, ne_eqb}
use Rattle.text.specs.Text.{place_text, end_word, stop_word, row_rest}
use Rattle.text.proofs.Lines.{last_pieces, stop_pieces}
use Rattle.text.proofs.Wholes.{as_text}
use Rattle.text.proofs.report_end.Goals as goal

pub returns-then-number-eq0 : goal.returns-then-number-eq0
returns-then-number-eq0 c =
    let a = c.args in
    rw (eq-eqb a.number 0 c.if-number-eq0.true)
    (as_text _ _ a.out.now _ _ (last_pieces a.place (search rules) end_word) c.worded_row.ensures)

pub returns-else-number-eq0 : goal.returns-else-number-eq0
returns-else-number-eq0 c =
    let a = c.args in
    let e = ap (λ (n : ℕ). stop_word ++ place_text a.place ++ row_rest (n ∷ [])) c.from-number.ensures in
    rw (ne_eqb a.number 0 c.if-number-eq0.false)
    (as_text _ _ a.out.now _ _ (stop_pieces a.place (search rules) stop_word (c.from-number.result ∷ []) ∙ e) c.worded_row-else-number-eq0.ensures)
