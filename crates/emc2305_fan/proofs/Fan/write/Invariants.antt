use Rattle.std.proofs.Common.{◌≡◌, ◌+◌, drop, ◌||◌}
use Rattle.emc2305_fan.specs.Stored.{bytes_taken, bytes_program}
use Rattle.emc2305_fan.proofs.Fan.write.Given as goal

-- the bytes that are left do to the fan as it now is what all of them do to the first one
abbrev pub invariant-loop-i : goal.invariant-loop-i
invariant-loop-i l = record {
  taken : bytes_taken l.locked (l.first + l.i) (drop l.i l.own) l.fan ≡ bytes_taken l.locked l.first l.own l.fn.self;
  program : (l.programmed || bytes_program l.locked (l.first + l.i) (drop l.i l.own) l.fan) ≡ bytes_program l.locked l.first l.own l.fn.self;
}
