-- `--help` in a buffer.
use Rattle.std.proofs.Common.{ℕ, ◌≡◌, ◌≤◌, List, length, take, ap, sym, ◌∙◌}
use Rattle.std.proofs.Math.Seq.{length-take-le}
use Rattle.streams.specs.Arguments.{help_word, IsPrefixLen}

pub help_held : (len : ℕ) (buffer : List ℕ) → len ≤ length buffer → take len buffer ≡ help_word
    → IsPrefixLen 6 buffer × (take 6 buffer ≡ help_word)
help_held len buffer h e =
    let n : len ≡ 6 = sym (length-take-le len buffer h) ∙ ap (λ (l : List ℕ). length l) e in
    rw (← n) ((h, sym (length-take-le len buffer h)), e)
