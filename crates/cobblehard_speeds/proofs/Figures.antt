-- The figures of a report by their place among the 25, and laid one behind the other up to the end of a buffer.
use mathlib.Core.Path.{◌≡◌, refl, sym, ap, ◌∙◌}
use mathlib.Core.List.{List, [], ◌∷◌, ◌++◌}
use Prim.Native.Nat.{ℕ, zero, suc, min, ◌+◌, ◌*◌, ◌/◌, ◌%◌, ◌≤◌, ◌<◌}
use native.Mathlib.Omega.{arith}
use native.Mathlib.Nat.{zero-add, suc-add}
use native.Mathlib.Numerals.{add-one}
use lib.Dec.{ltb}
use lib.ListN.{length, get_or, take, set, length-append, get_or-append}
use lib.Seq.{take-suc, take_all}
use borrow.Author.Tests.{ltb-true, ltb-false}
use Rattle.laws.specs.Buffer.{laid_over}
use Rattle.laws.proofs.Laid.{Laid, byte_on, same_length}
use Rattle.laws.proofs.Tests.{by_test}
use Rattle.reports.specs.declared.Figures.{Figures}
use Rattle.reports.specs.Lines.{no_figures, figures_row, figures_rows, all_figures}
use Rattle.cobblehard_speeds.specs.Face.{figures_laid}

-- an entry of the second of two lists
got_behind : (xs ys : List ℕ) (i : ℕ) → get_or (xs ++ ys) (length xs + i) 0 ≡ get_or ys i 0
got_behind [] ys i = ap (λ (k : ℕ). get_or ys k 0) (zero-add i)
got_behind (x ∷ xs) ys i = rw (suc-add (length xs) i) (got_behind xs ys i)

pub rows_length : (n : ℕ) (fans : List Figures) → length (figures_rows n fans) ≡ 5 * n
unfolding figures_rows
rows_length zero fans = refl
rows_length (suc n) fans =
    length-append (figures_rows n fans) (figures_row (get_or fans n no_figures)) ∙ omega (arith, rows_length n fans)

-- the figure at a place: that of the fan by its fifth part, and among the fan's by what is left
got_row : (n : ℕ) (fans : List Figures) (i : ℕ) → i < 5 * n → get_or (figures_rows n fans) i 0 ≡ get_or (figures_row (get_or fans (i / 5) no_figures)) (i % 5) 0
unfolding figures_rows
got_row zero fans i h = absurd (omega arith)
got_row (suc n) fans i h =
    let rows = figures_rows n fans in
    let row = figures_row (get_or fans n no_figures) in
    let l : length rows ≡ 5 * n = rows_length n fans in
    by_test (ltb i (5 * n)) (λ y. let s = ltb-true i (5 * n) y in get_or-append rows row 0 i (omega (arith, l)) ∙ got_row n fans i s)
    (λ f.
    let s = ltb-false i (5 * n) f in
    let whole : i / 5 ≡ n = omega arith in
    let at : length rows + i % 5 ≡ i = omega (arith, l) in
    rw whole (ap (λ (k : ℕ). get_or (rows ++ row) k 0) (sym at) ∙ got_behind rows row (i % 5)))

pub got_figure : (fans : List Figures) (i : ℕ) → i < 25 → get_or (all_figures fans) i 0 ≡ get_or (figures_row (get_or fans (i / 5) no_figures)) (i % 5) 0
got_figure fans i h = got_row 5 fans i h

-- how far it has come: the first i figures are laid
pub record Filling (fans : List Figures) (out₀ out : List ℕ) (i : ℕ) : Type 0 where
  pub few : i ≤ 25
  pub within : i ≤ length out₀
  pub lain : Laid out₀ out i (take i (all_figures fans))

module _ (fans : List Figures) (out₀ out : List ℕ) (i : ℕ) (f : Filling fans out₀ out i) where
  pub keeps : length out ≡ length out₀
  keeps = same_length out₀ out i (take i (all_figures fans)) f.lain f.within

  pub figure_on : i < 25 → i < length out → (x : ℕ) → x ≡ get_or (all_figures fans) i 0 → Filling fans out₀ (set out i x) (i + 1)
  figure_on h l x is =
      record {
        few = omega arith;
        within = omega (arith, keeps);
        lain =
            rw (add-one i, take-suc (all_figures fans) i 0 (omega (arith, rows_length 5 fans)), ← is, ← (add-one i))
            (byte_on out₀ out i (take i (all_figures fans)) f.lain x (omega (arith, keeps)));
      }

  -- all of them, or as many as there is room for
  filled_all : 25 ≤ i → out ≡ figures_laid fans out₀
  unfolding figures_laid
  filled_all h =
      let all = all_figures fans in
      let l = rows_length 5 fans in
      f.lain.holds
      ∙ ap (λ (done : List ℕ). laid_over done out₀)
      (take_all i all (omega (arith, l)) ∙ sym (take_all (length out₀) all (omega (arith, l, f.within))))

  filled_up : length out₀ ≤ i → out ≡ figures_laid fans out₀
  unfolding figures_laid
  filled_up h =
      let e : i ≡ length out₀ = omega (arith, f.within) in
      f.lain.holds ∙ ap (λ (n : ℕ). laid_over (take n (all_figures fans)) out₀) e

  pub filled : min (length out₀) 25 ≤ i → out ≡ figures_laid fans out₀
  filled h = by_test (ltb i 25) (λ y. let s = ltb-true i 25 y in filled_up (omega arith)) (λ n. filled_all (ltb-false i 25 n))
