use Rattle.std.proofs.Common.{ℕ, ◌≡◌, arith, ap, ◌∙◌, rules}
use Rattle.laws.specs.Lists.{first_moved}
use Rattle.laws.proofs.Lists.{moved_next}
use Rattle.emc2305_parts.specs.Parts.{fans_of}
use Rattle.emc2305_chip.specs.Fans.{no_fan}
use Rattle.emc2305_chip.proofs.fans.each.Goals as goal

-- one fan more
pub loop-i-preserved : goal.loop-i-preserved
loop-i-preserved g c m f = moved_next _ _ _ _ no_fan _ (c.loop-i.invariant m f) (f _ _ c.change.ensures) (search rules)

pub returns : goal.returns
returns g c m f =
    let e : c.loop-i.i ≡ fans_of c.args.part = omega arith in
    c.loop-i.invariant m f ∙ ap (λ (k : ℕ). first_moved k m c.args.fans) e
