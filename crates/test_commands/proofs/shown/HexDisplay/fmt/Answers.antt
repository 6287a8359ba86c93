use Rattle.std.proofs.Common.{◌≡◌, ◌<◌, false, Some, Ok, get_or, subst, refl, rules}
use Rattle.std.proofs.Output.{has_written_append, has_written_of_eq}
use Rattle.std.proofs.lemmas.Fmt.{hex_byte}
use Rattle.std.specs.Fmt.{DisplaysOnOk, digits_output, radix_digits, styled_digits_output}
use Rattle.test_commands.specs.Shown.{two_digits}
use Rattle.test_commands.proofs.Digits.{one_more}
use Rattle.test_commands.proofs.shown.HexDisplay.fmt.Goals as goal

pub loop-byte-preserved : goal.loop-byte-preserved
loop-byte-preserved g c p =
    let byte = get_or c.args.self.now.0.now c.loop-byte.byte-index 0 in
    let so_far = c.loop-byte.invariant p in
    let small : byte < 256 = search rules in
    let digits : digits_output c.in_radix.result ≡ Some (radix_digits 16 false byte) = search rules in
    let text : styled_digits_output c.in_radix.result c.laid_out.result ≡ Some (two_digits byte) =
    rw (c.laid_out.ensures, digits, hex_byte false byte small) in
    let writes = subst (λ o. DisplaysOnOk g.W.Write.write_str_gives c.loop-byte.f (Ok c.in_ok-write.field-0) o c.write.new.self) text c.in_ok-write.ensures.writes in
    has_written_of_eq _ _ _ _ _ (one_more c.args.self.now.0.now c.loop-byte.byte-index (search rules))
    (has_written_append _ _ _ _ _ _ so_far (writes so_far.plain refl))
