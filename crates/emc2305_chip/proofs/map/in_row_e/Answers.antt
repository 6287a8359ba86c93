use Rattle.std.proofs.Common.{◌+◌, arith, sym}
use borrow.Author.Tests.{ne_eqb}
use Rattle.emc2305_chip.specs.Map.{register_of}
use Rattle.emc2305_chip.proofs.Maps.{maps_high}
use Rattle.emc2305_chip.proofs.map.in_row_e.Goals as goal

pub returns-in-15 : goal.returns-in-15
unfolding register_of
returns-in-15 c fans = rw c.in-15.is

pub returns-in_default : goal.returns-in_default
returns-in_default c fans =
    let a = 0xE0 + c.args.offset in
    sym (maps_high fans a (omega arith) (omega arith) (ne_eqb a 0xEF (omega arith)))
