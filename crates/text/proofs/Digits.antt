-- The digits of a number, laid from the last one to the first.
use mathlib.Core.Path.{◌≡◌, refl, sym, ap, ◌∙◌}
use mathlib.Core.List.{List, [], ◌∷◌, ◌++◌, append_assoc, append-nil}
use Prim.Native.Nat.{ℕ, suc, ◌+◌, ◌/◌, ◌%◌, ◌^◌, ◌≤◌, ◌<◌}
use native.Mathlib.Omega.{arith}
use lib.Dec.{ltb}
use lib.ListN.{length, get_or, set, take, drop, length-append, take-append-drop}
use borrow.Author.Tests.{ltb-true, ltb-false}
use lib.Seq.{take-suc, set_at, length-take-le}
use Rattle.laws.specs.Buffer.{laid_over}
use Rattle.laws.proofs.Tests.{by_test}
use Rattle.text.specs.Text.{digit, decimal}
use Rattle.text.proofs.Lengths.{decimal_digit, decimal_more}

no_length : (l : List ℕ) → length l ≡ 0 → l ≡ []
no_length [] e = refl
no_length (x ∷ l) e = absurd (omega arith)

-- the last digits of a number stand where they belong; those in front of them are still to be laid, and are the digits of the rest
pub record Shown (n : ℕ) (out cur : List ℕ) (rest at : ℕ) : Type 0 where
  pub small : rest < 10 ^ 20
  pub head : List ℕ
  pub tail : List ℕ
  pub is : decimal n ≡ head ++ tail
  pub counts : at ≡ length head
  pub rests : 0 < at → head ≡ decimal rest
  pub within : at ≤ length out
  pub holds : cur ≡ take at out ++ (tail ++ drop (length (decimal n)) out)

pub none_shown : (n : ℕ) (out : List ℕ) (len : ℕ) → n < 10 ^ 20 → len ≡ length (decimal n) → len ≤ length out → Shown n out out n len
none_shown n out len small counts fits =
    record {
      small = small;
      head = decimal n;
      tail = [];
      is = sym (append-nil (decimal n));
      counts = counts;
      rests = λ h. refl;
      within = fits;
      holds = rw counts (sym (take-append-drop (length (decimal n)) out));
    }

-- a byte set right before what is laid
set_before : (out after : List ℕ) (k x : ℕ) → suc k ≤ length out → set (take (suc k) out ++ after) k x ≡ take k out ++ (x ∷ after)
set_before out after k x h =
    ap (λ (l : List ℕ). set (l ++ after) k x) (take-suc out k 0 h)
    ∙ ap (λ (l : List ℕ). set l k x) (append_assoc (take k out) (get_or out k 0 ∷ []) after)
    ∙ set_at (take k out) (get_or out k 0) after x k (length-take-le k out (omega arith))

module _ (n : ℕ) (out cur : List ℕ) (rest k : ℕ) (shown : Shown n out cur rest (suc k)) where
  abbrev head_is : shown.head ≡ decimal rest
  head_is = shown.rests (omega arith)

  -- all of the digits but the last are those of the tenth part, or there are none
  abbrev front : List ℕ → Type 0
  front head = (shown.head ≡ head ++ (digit (rest % 10) ∷ [])) × (0 < k → head ≡ decimal (rest / 10))

  front_more : 10 ≤ rest → front (decimal (rest / 10))
  front_more more = (head_is ∙ decimal_more rest more shown.small, λ h. refl)

  front_none : rest < 10 → front []
  front_none last =
      let d : shown.head ≡ digit rest ∷ [] = head_is ∙ decimal_digit rest last in
      let e : rest % 10 ≡ rest = omega arith in
      (rw e d, λ h. absurd (omega (arith, shown.counts, ap length d)))

  fronts : (head : List ℕ) × front head
  fronts =
      by_test (ltb rest 10) (λ t. ([], front_none (ltb-true rest 10 t))) (λ f. (decimal (rest / 10), front_more (ltb-false rest 10 f)))

  -- a digit more
  one_shown_from : (head : List ℕ) → front head → Shown n out (set cur k (48 + rest % 10)) (rest / 10) k
  one_shown_from head f =
      record {
        small = omega (arith, shown.small);
        head = head;
        tail = digit (rest % 10) ∷ shown.tail;
        is = shown.is ∙ ap (λ (l : List ℕ). l ++ shown.tail) f.0 ∙ append_assoc head (digit (rest % 10) ∷ []) shown.tail;
        counts = omega (arith, shown.counts, ap length f.0, length-append head (digit (rest % 10) ∷ []));
        rests = f.1;
        within = omega (arith, shown.within);
        holds = rw shown.holds (set_before out (shown.tail ++ drop (length (decimal n)) out) k (48 + rest % 10) shown.within);
      }

  pub one_shown : Shown n out (set cur k (48 + rest % 10)) (rest / 10) k
  one_shown = one_shown_from fronts.0 fronts.1

-- none is still to be laid
pub all_shown : (n : ℕ) (out cur : List ℕ) (rest : ℕ) → Shown n out cur rest 0 → cur ≡ laid_over (decimal n) out
all_shown n out cur rest shown =
    let e : shown.head ≡ [] = no_length shown.head (sym shown.counts) in
    shown.holds ∙ ap (λ (l : List ℕ). l ++ drop (length (decimal n)) out) (sym (shown.is ∙ ap (λ (l : List ℕ). l ++ shown.tail) e))
