use Rattle.std.proofs.Common.{◌+◌, ◌*◌, ◌≡◌, refl, arith}
use Rattle.laws.proofs.Laid.{piece_on}
use Rattle.text.specs.Text.{hex_bytes}
use Rattle.text.proofs.Lengths.{hex_next}
use Rattle.text.proofs.hex.lay_bytes.Goals as goal

pub loop-i-init : goal.loop-i-init
unfolding hex_bytes
loop-i-init c = record { counts = refl; holds = refl }

pub loop-i-preserved : goal.loop-i-preserved
loop-i-preserved c =
    let i = c.loop-i.i in
    let three : 3 * (i + 1) ≡ 3 * i + 3 = omega arith in
    rw (three, hex_next c.args.bytes.now i (omega arith)) (piece_on _ _ _ _ c.loop-i.invariant _ _ 3 refl c.lay_byte.ensures)
