use Rattle.std.proofs.Common.{◌≡◌, ◌+◌, ◌++◌, List, ℕ, sym, refl, ap, length, drop, arith, length-append}
use borrow.Author.Tests.{leb-true}
use Rattle.laws.proofs.Laid.{Laid, piece_on}
use Rattle.text.specs.Text.{decimal, row_rest}
use Rattle.text.proofs.Wholes.{whole}
use Rattle.text.proofs.worded_row.Goals as goal

-- it fits: the word is copied to the front, the first number laid behind it, and the rest behind them
pub returns : goal.returns
returns c =
    let a = c.args in
    let word = a.word.now in
    let text = word ++ decimal a.first ++ row_rest a.rest.now in
    let copied = ap (λ (l : List ℕ). l ++ drop (length word) a.out.now) c.copy_from_slice.ensures.after in
    let worded : Laid a.out.now (c.copy_from_slice.new.self ++ drop (length word) a.out.now) (length word) word = record { counts = refl; holds = copied } in
    let rowed =
    piece_on _ _ _ _ (piece_on _ _ _ _ worded _ _ _ c.digits-width.ensures.counts c.lay_digits.ensures) _ _ _ c.lay.ensures.0 c.lay.ensures.1 in
    let fits = leb-true _ _ (sym c.if-not-fits.ensures) in
    let counts : length text ≡ length word + length (decimal a.first) + length (row_rest a.rest.now) = simp length-append in
    whole text a.out.now _ _ (omega (arith, fits, counts)) rowed
