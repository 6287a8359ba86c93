use Rattle.std.proofs.Common.{rules, sym}
use Rattle.emc2300_duty.specs.Duty.{automatic}
use Rattle.emc2300_duty.proofs.Linked.{over_three}
use Rattle.emc2300_duty.proofs.outputs.automatic.Goals as goal

pub returns : goal.returns
unfolding automatic
returns c =
    let a = c.args in
    rw (sym c.if-limit_reached.ensures, sym c.if-linked_fault.ensures, c.linked_duty.ensures, over_three a.mode a.minimum a.zones (search rules))
