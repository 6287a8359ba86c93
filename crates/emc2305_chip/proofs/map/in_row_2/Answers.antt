use Rattle.std.proofs.Common.{ℕ, ◌+◌, arith, sym, ap, ◌∙◌}
use borrow.Author.Tests.{ne_eqb}
use Rattle.emc2305_chip.specs.declared.Own.TheVariants.{Output}
use Rattle.emc2305_chip.specs.declared.Register.TheVariants.{OfChip}
use Rattle.emc2305_chip.specs.Map.{register_of}
use Rattle.emc2305_chip.proofs.Maps.{maps_output, maps_low, maps_gap}
use Rattle.emc2305_chip.proofs.map.in_row_2.Goals as goal

pub returns-in-0 : goal.returns-in-0
unfolding register_of
returns-in-0 c fans = rw c.in-0.is

pub returns-in-4 : goal.returns-in-4
unfolding register_of
returns-in-4 c fans = rw c.in-4.is

pub returns-in-5 : goal.returns-in-5
unfolding register_of
returns-in-5 c fans = rw c.in-5.is

pub returns-in-6 : goal.returns-in-6
unfolding register_of
returns-in-6 c fans = rw c.in-6.is

pub returns-in-7 : goal.returns-in-7
unfolding register_of
returns-in-7 c fans = rw c.in-7.is

pub returns-in-9 : goal.returns-in-9
unfolding register_of
returns-in-9 c fans = rw c.in-9.is

pub returns-in-10-to-13 : goal.returns-in-10-to-13
returns-in-10-to-13 c fans =
    let a = 0x20 + c.args.offset in
    sym (maps_output fans a (omega arith) (omega arith) ∙ ap (λ (k : ℕ). OfChip (Output k)) (omega arith))

-- the gaps below 2Ah
pub returns-in_default : goal.returns-in_default
returns-in_default c fans =
    let a = 0x20 + c.args.offset in
    sym
    (maps_low fans a (omega arith) (ne_eqb a 0x20 (omega arith)) (ne_eqb a 0x24 (omega arith)) (ne_eqb a 0x25 (omega arith))
    (ne_eqb a 0x26 (omega arith)) (ne_eqb a 0x27 (omega arith)) (ne_eqb a 0x29 (omega arith)))

-- 2Eh and 2Fh
pub returns-in_default-2 : goal.returns-in_default-2
returns-in_default-2 c fans = sym (maps_gap fans (0x20 + c.args.offset) (omega arith) (omega arith))
