-- The promises of a fan (specs/Promises.antt) that no other file here proves.
use native.Mathlib.Omega.{arith}
use Rattle.emc2305_fan.specs.Promises.{ReadingRule}

pub reading_rule : ReadingRule
reading_rule c h = omega arith
