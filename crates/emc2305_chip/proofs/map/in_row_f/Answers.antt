use Rattle.std.proofs.Common.{ℕ, ◌+◌, arith, sym, ap, ◌∙◌}
use borrow.Author.Tests.{ne_eqb}
use Rattle.emc2305_chip.specs.declared.Own.TheVariants.{Identity}
use Rattle.emc2305_chip.specs.declared.Register.TheVariants.{OfChip}
use Rattle.emc2305_chip.proofs.Maps.{maps_identity, maps_high}
use Rattle.emc2305_chip.proofs.map.in_row_f.Goals as goal

pub returns-in-12-to-15 : goal.returns-in-12-to-15
returns-in-12-to-15 c fans =
    let a = 0xF0 + c.args.offset in
    sym (maps_identity fans a (omega arith) (omega arith) ∙ ap (λ (k : ℕ). OfChip (Identity k)) (omega arith))

pub returns-in_default : goal.returns-in_default
returns-in_default c fans =
    let a = 0xF0 + c.args.offset in
    sym (maps_high fans a (omega arith) (omega arith) (ne_eqb a 0xEF (omega arith)))
