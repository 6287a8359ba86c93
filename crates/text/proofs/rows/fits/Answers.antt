use Rattle.std.proofs.Common.{◌+◌, length, drop, sym, ap, arith}
use borrow.Author.Tests.{lt-leb}
use Rattle.laws.proofs.Tests.{leb_same}
use Rattle.text.specs.Text.{row_rest}
use Rattle.text.proofs.Rowed.{rest_counts, rest_ends, rest_some}
use Rattle.text.proofs.rows.fits.Goals as goal

pub returns-then-left-width : goal.returns-then-left-width
returns-then-left-width c =
    let a = c.args in
    let i = c.loop-n.n-index in
    let e = rest_counts a.rest.now i (omega arith) in
    sym (lt-leb (length (row_rest a.rest.now)) a.room (omega (arith, rest_some (drop (i + 1) a.rest.now))))

pub loop-n-preserved : goal.loop-n-preserved
loop-n-preserved c = omega (arith, rest_counts c.args.rest.now c.loop-n.n-index (omega arith))

pub returns : goal.returns
returns c =
    let a = c.args in
    let e = ap length (rest_ends a.rest.now c.loop-n.n-index (omega arith)) in
    leb_same 1 c.loop-n.left (length (row_rest a.rest.now)) a.room (λ h. omega arith) (λ h. omega arith)
