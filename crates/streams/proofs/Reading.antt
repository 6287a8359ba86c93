-- What an input has left after some reads, where that is known.
use Rattle.std.proofs.Common.{ℕ, ◌≡◌, ◌+◌, ◌≤◌, List, ◌++◌, length, take, ap, sym, ◌∙◌, append_assoc}
use Rattle.std.proofs.Math.Seq.{length-take-le, take-append-add}
use Rattle.std.proofs.lemmas.List.{take-append-le}
use Rattle.std.specs.Prelude.{Option, None, Some}
use Rattle.std.specs.Io.KnownBytes.{Consumes}

-- what a read puts behind the front of a space
pub front_more : (space buf rest : List ℕ) (len got : ℕ) → len ≤ length space → got ≤ length buf
    → take (len + got) (take len space ++ (buf ++ rest)) ≡ take len space ++ take got buf
front_more space buf rest len got h k =
    ap (λ (n : ℕ). take (n + got) (take len space ++ (buf ++ rest))) (sym (length-take-le len space h))
    ∙ take-append-add (take len space) (buf ++ rest) got
    ∙ ap (λ (l : List ℕ). take len space ++ l) (take-append-le got buf rest k)

-- some bytes were read, and then more
pub more_read : (a b c : Option (List ℕ)) (s t whole : List ℕ) → whole ≡ s ++ t → Consumes a b s → Consumes b c t → Consumes a c whole
more_read None b c s t whole e h k = tt
more_read (Some xs) None c s t whole e h k = absurd h
more_read (Some xs) (Some ys) None s t whole e h k = absurd k
more_read (Some xs) (Some ys) (Some zs) s t whole e h k =
    h ∙ ap (λ (l : List ℕ). s ++ l) k ∙ sym (append_assoc s t zs) ∙ ap (λ (l : List ℕ). l ++ zs) (sym e)
