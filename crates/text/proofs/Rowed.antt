-- What follows in a row, number by number: how much room it takes, and how far it is laid.
use mathlib.Core.Path.{◌≡◌, refl, sym, ap, ◌∙◌}
use mathlib.Core.List.{List, [], ◌∷◌, ◌++◌, append_assoc}
use Prim.Native.Nat.{ℕ, ◌+◌, ◌≤◌, ◌<◌}
use native.Mathlib.Omega.{arith}
use native.Mathlib.Numerals.{add-one}
use lib.ListN.{length, get_or, set, drop, length-append, drop_of_length-le}
use lib.Seq.{drop-cons}
use Rattle.laws.specs.Buffer.{laid_over}
use Rattle.laws.proofs.Buffer.{lent_from, back_from}
use Rattle.laws.proofs.Laid.{Laid, byte_on, piece_on, same_length, room_left_lem, all_laid}
use Rattle.text.specs.Text.{decimal, row_rest}

module _ (rest : List ℕ) (i : ℕ) where
  -- a number more
  module _ (more : i < length rest) where
    pub rest_next : row_rest (drop i rest) ≡ (0x20 ∷ decimal (get_or rest i 0)) ++ row_rest (drop (i + 1) rest)
    unfolding row_rest
    rest_next = rw (add-one i, drop-cons rest i 0 more) refl

    pub rest_counts : length (row_rest (drop i rest)) ≡ 1 + length (decimal (get_or rest i 0)) + length (row_rest (drop (i + 1) rest))
    rest_counts = ap length rest_next ∙ length-append (0x20 ∷ decimal (get_or rest i 0)) (row_rest (drop (i + 1) rest)) ∙ omega arith

  -- none more
  pub rest_ends : length rest ≤ i → row_rest (drop i rest) ≡ 0x0A ∷ []
  unfolding row_rest
  rest_ends h = ap row_rest (drop_of_length-le rest {i = i} h)

pub rest_some : (rest : List ℕ) → 0 < length (row_rest rest)
unfolding row_rest
rest_some [] = omega arith
rest_some (n ∷ rest) = omega arith

-- how far it is laid: what is still to come is what follows from a number on
pub record Rowed (rest out cur : List ℕ) (at i : ℕ) : Type 0 where
  pub done : List ℕ
  pub is : done ++ row_rest (drop i rest) ≡ row_rest rest
  pub laid : Laid out cur at done

pub none_rowed : (rest out : List ℕ) → Rowed rest out out 0 0
none_rowed rest out = record { done = []; is = refl; laid = record { counts = refl; holds = refl } }

module _ (rest out cur : List ℕ) (at i : ℕ) (rowed : Rowed rest out cur at i) (room : length (row_rest rest) ≤ length out) where
  to_come_lem : at + length (row_rest (drop i rest)) ≡ length (row_rest rest)
  to_come_lem = omega (arith, rowed.laid.counts, length-append rowed.done (row_rest (drop i rest)), ap length rowed.is)

  -- the line's end at least is still to come
  pub within : at < length out
  within = omega (arith, to_come_lem, rest_some (drop i rest))

  pub keeps : length cur ≡ length out
  keeps = same_length out cur at rowed.done rowed.laid (omega (arith, within))

  pub here : at < length cur
  here = rw keeps within

  -- a number more
  module _ (more : i < length rest) where
    abbrev piece : List ℕ
    piece = 0x20 ∷ decimal (get_or rest i 0)

    pub next_within : at + length piece ≤ length out
    next_within = omega (arith, to_come_lem, rest_counts rest i more)

    pub next_room : length piece ≤ length (lent_from at cur)
    next_room = rw (room_left_lem out cur at rowed.done rowed.laid (omega (arith, within))) (omega (arith, next_within))

    pub one_rowed : (part : List ℕ) (n : ℕ) → n ≡ length piece → part ≡ laid_over piece (lent_from at cur)
        → Rowed rest out (back_from at cur part) (at + n) (i + 1)
    one_rowed part n counts lays =
        record {
          done = rowed.done ++ piece;
          is =
              append_assoc rowed.done piece (row_rest (drop (i + 1) rest))
              ∙ ap (λ (l : List ℕ). rowed.done ++ l) (sym (rest_next rest i more)) ∙ rowed.is;
          laid = piece_on out cur at rowed.done rowed.laid piece part n counts lays;
        }

  pub all_rowed : length rest ≤ i → (at + 1 ≡ length (row_rest rest)) × (set cur at 0x0A ≡ laid_over (row_rest rest) out)
  all_rowed last =
      all_laid out (set cur at 0x0A) (at + 1) (rowed.done ++ (0x0A ∷ [])) (byte_on out cur at rowed.done rowed.laid 0x0A within) (row_rest rest)
      (ap (λ (l : List ℕ). rowed.done ++ l) (sym (rest_ends rest i last)) ∙ rowed.is)
