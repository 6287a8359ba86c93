-- A text laid whole or not at all, and in what is left of a buffer.
use mathlib.Core.Path.{◌≡◌, refl, sym, subst, ◌∙◌}
use mathlib.Core.List.{List, [], ◌∷◌, ◌++◌}
use Prim.Native.Nat.{ℕ, ◌+◌, ◌-◌, ◌≤◌, ◌<◌}
use native.Mathlib.Omega.{arith}
use lib.Dec.{leb}
use lib.ListN.{length, set, length-set, length-append}
use borrow.Author.Tests.{leb-true, leb-false, le-leb, lt-leb}
use Rattle.laws.proofs.Buffer.{lent_from, back_from}
use Rattle.laws.proofs.Tests.{by_test}
use Rattle.std.specs.Prelude.{Option, Some, None, unwrap_or}
use Rattle.std.specs.Option.{is_some}
use Rattle.text.specs.Whole.{laid_whole, piece_of}
use Rattle.laws.proofs.Laid.{Laid, Fitted, byte_on, piece_on, same_length, room_left_lem, all_laid}

-- what a function has to answer of a text, and the buffer afterwards
abbrev pub Whole : List ℕ → List ℕ → Option ℕ → List ℕ → Type 0
Whole text out p last = (p ≡ piece_of text (length out)) × (last ≡ laid_whole text out)

-- a text that fits and is laid, and one that does not fit
module _ (text out : List ℕ) where
  pub whole : (n : ℕ) (last : List ℕ) → length text ≤ length out → Laid out last n text → Whole text out (Some n) last
  whole n last h laid = let t = le-leb (length text) (length out) h in (rw (t, laid.counts) refl, rw t laid.holds)

  pub nothing : length out < length text → Whole text out None out
  nothing h = let f = lt-leb (length text) (length out) h in (rw f refl, rw f refl)

-- the same text, said in another way
pub as_text : (text other out : List ℕ) (p : Option ℕ) (last : List ℕ) → text ≡ other → Whole text out p last → Whole other out p last
as_text text other out p last e w = subst (λ (l : List ℕ). Whole l out p last) e w

-- a text that was laid fitted, and one that was not did not
module _ (text out last : List ℕ) where
  pub some_fits : (n : ℕ) → Whole text out (Some n) last → length text ≤ length out
  some_fits n w =
      by_test (leb (length text) (length out)) (λ t. leb-true (length text) (length out) t)
      (λ f. absurd (let e : Some n ≡ None = w.0 ∙ rw f refl in cc))

  pub some_laid : (n : ℕ) → Whole text out (Some n) last → Laid out last n text
  some_laid n w =
      let t = le-leb (length text) (length out) (some_fits n w) in
      record { counts = let e : Some n ≡ Some (length text) = w.0 ∙ rw t refl in cc; holds = w.1 ∙ rw t refl }

  pub none_fits : Whole text out None last → length out < length text
  none_fits w =
      by_test (leb (length text) (length out)) (λ t. absurd (let e : None ≡ Some (length text) = w.0 ∙ rw t refl in cc))
      (λ f. leb-false (length text) (length out) f)

  pub none_laid : Whole text out None last → last ≡ out
  none_laid w = w.1 ∙ rw (lt-leb (length text) (length out) (none_fits w)) refl

-- by whether it was laid, and how many bytes of it
pub fitted : (text out : List ℕ) (p : Option ℕ) (last : List ℕ) → Whole text out p last → Fitted text out (is_some p) (unwrap_or p 0) last
fitted text out (Some n) last w =
    let t = le-leb (length text) (length out) (some_fits text out last n w) in
    record { fits_is = sym t; len_is = (some_laid text out last n w).counts ∙ rw t refl; lays = w.1 }
fitted text out None last w =
    let f = lt-leb (length text) (length out) (none_fits text out last w) in
    record { fits_is = sym f; len_is = rw f refl; lays = w.1 }

-- a text in what is left of a buffer, behind another
module _ (out₀ out : List ℕ) (laid : ℕ) (text₀ : List ℕ) (lain : Laid out₀ out laid text₀) (within : laid ≤ length out₀) (text part : List ℕ) where
  abbrev room : length (lent_from laid out) ≡ length out₀ - laid
  room = room_left_lem out₀ out laid text₀ lain within

  -- it was laid there
  pub taken : (n : ℕ) → Whole text (lent_from laid out) (Some n) part → Laid out₀ (back_from laid out part) (laid + n) (text₀ ++ text)
  taken n w =
      let l = some_laid text (lent_from laid out) part n w in
      piece_on out₀ out laid text₀ lain text part n l.counts l.holds

  -- or both do not fit together
  pub not_taken : Whole text (lent_from laid out) None part → length out₀ < length (text₀ ++ text)
  not_taken w = omega (arith, none_fits text (lent_from laid out) part w, room, lain.counts, length-append text₀ text)

-- the end of a line, behind what is laid of it
module _ (out cur : List ℕ) (at : ℕ) (done : List ℕ) (laid : Laid out cur at done) (room : at < length out) where
  pub end_room : at < length cur
  end_room = rw (same_length out cur at done laid (omega arith)) room

  pub end_keeps : length (set cur at 0x0A) ≡ length out
  end_keeps = length-set cur at 0x0A ∙ same_length out cur at done laid (omega arith)

  pub end_whole : (text : List ℕ) → done ++ (0x0A ∷ []) ≡ text → Whole text out (Some (at + 1)) (set cur at 0x0A)
  end_whole text is =
      let l = all_laid out (set cur at 0x0A) (at + 1) (done ++ (0x0A ∷ [])) (byte_on out cur at done laid 0x0A room) text is in
      whole text out (at + 1) (set cur at 0x0A) (omega (arith, l.0)) (record { counts = l.0; holds = l.1 })
