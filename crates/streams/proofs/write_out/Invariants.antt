use Rattle.std.proofs.Common.{◌≡◌, ◌≤◌, length, take}
use Rattle.std.specs.Io.KnownBytes.{Appends}
use Rattle.streams.proofs.write_out.Given as goal

abbrev pub invariant-loop : goal.invariant-loop
invariant-loop g l =
    record {
      first : length l.text ≡ 0 → l.counter ≡ 0;
      within : l.done ≤ length l.text;
      bytes : Appends (g.W.Write.contents l.initial.output) (g.W.Write.contents l.output) (take l.done l.text);
    }
