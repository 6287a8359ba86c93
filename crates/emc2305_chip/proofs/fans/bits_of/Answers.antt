use Rattle.std.proofs.Common.{ℕ, ◌≡◌, ◌*◌, ◌%◌, ◌^◌, ◌&&◌, cond, arith, ap, ◌∙◌}
use Rattle.std.proofs.Math.Dec.{ltb}
use Rattle.emc2305_chip.specs.Fans.{bits_of}
use Rattle.emc2305_chip.proofs.Bits.{none_yet, all_places, weighed_is, bits_next, bits_fit}
use Rattle.emc2305_chip.proofs.fans.bits_of.Goals as goal

pub loop-i-init : goal.loop-i-init
unfolding bits_of
loop-i-init c = rw (none_yet c.fans-n.result)

weighed : (c : goal.After-from) → c.from.result * 2 ^ c.loop-i.i % 256 ≡ cond (ltb c.loop-i.i c.fans-n.result && c.stands.result) (2 ^ c.loop-i.i) 0
weighed c = weighed_is (ltb c.loop-i.i c.fans-n.result && c.stands.result) c.loop-i.i c.from.result c.loop-i-test.true c.from.ensures

pub overflow_add-byte : goal.overflow_add-byte
overflow_add-byte c =
    let l = c.loop-i in
    omega (arith, bits_fit c.args.bit c.args.fans c.fans-n.result l.i l.byte _ c.stands.result l.invariant (weighed c) c.loop-i-test.true)

pub loop-i-preserved : goal.loop-i-preserved
loop-i-preserved c =
    let l = c.loop-i in
    bits_next c.args.bit c.args.fans c.fans-n.result l.i l.byte _ c.stands.result l.invariant (weighed c) c.stands.ensures

pub returns : goal.returns
returns c =
    c.loop-i.invariant
    ∙ ap (λ (k : ℕ). bits_of c.args.bit c.args.fans k) (all_places c.args.part c.fans-n.result c.loop-i.i c.fans-n.ensures c.loop-i-test.false)
