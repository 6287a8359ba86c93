-- Laws on bytes laid over a buffer.
use mathlib.Core.Path.{◌≡◌, sym, ap, ◌∙◌}
use mathlib.Core.List.{List, [], ◌∷◌, ◌++◌, append_assoc, append-nil}
use Prim.Native.Nat.{ℕ, suc, ◌+◌, ◌-◌, ◌≤◌, ◌<◌}
use native.Mathlib.Omega.{arith}
use native.Mathlib.Nat.{zero-add}
use native.Mathlib.Numerals.{add-one}
use lib.ListN.{length, get_or, take, drop, set, length-append, length-drop, drop_of_length-le}
use lib.Seq.{take-length, sets, sets-eq, take_all, take-append_seam, drop-append_seam, drop-drop, length-take-le, drop-cons, set_at}
use Rattle.laws.specs.Buffer.{bytes_at, laid_over}

-- bytes that are stored one after the other from the front are laid over it
pub laid_stores : (bytes buffer : List ℕ) → length bytes ≤ length buffer → sets buffer 0 bytes ≡ laid_over bytes buffer
laid_stores bytes buffer h = sets-eq bytes buffer 0 (omega arith) ∙ simp zero-add

pub length_laid : (bytes buffer : List ℕ) → length bytes ≤ length buffer → length (laid_over bytes buffer) ≡ length buffer
length_laid bytes buffer h = simp (length-append, length-drop) (omega arith)

-- what is laid in two goes: the second part over what lies past the first
pub laid_next : (first second buffer : List ℕ) → laid_over (first ++ second) buffer ≡ first ++ laid_over second (drop (length first) buffer)
laid_next first second buffer = simp (append_assoc, length-append, drop-drop)

-- a buffer whose part from k on was lent and has come back
abbrev pub lent_from : ℕ → List ℕ → List ℕ
lent_from k buffer = take (length buffer - k) (drop k buffer)

abbrev pub back_from : ℕ → List ℕ → List ℕ → List ℕ
back_from k buffer part = take k buffer ++ (part ++ drop (length buffer - k) (drop k buffer))

-- a part up to the end is all that stands from there on
pub lent_is : (k : ℕ) (buffer : List ℕ) → lent_from k buffer ≡ drop k buffer
lent_is k buffer = take_all (length buffer - k) (drop k buffer) (omega (arith, length-drop k buffer))

back_is : (k : ℕ) (buffer part : List ℕ) → back_from k buffer part ≡ take k buffer ++ part
back_is k buffer part =
    ap (λ (tail : List ℕ). take k buffer ++ (part ++ tail)) (drop_of_length-le (drop k buffer) {i = length buffer - k} (omega (arith, length-drop k buffer)))
    ∙ ap (λ (l : List ℕ). take k buffer ++ l) (append-nil part)

-- the first part is laid over the front, and the second over the part that is lent from there on
pub laid_behind : (first second buffer laid : List ℕ) → laid ≡ laid_over first buffer
    → back_from (length first) laid (laid_over second (lent_from (length first) laid)) ≡ laid_over (first ++ second) buffer
laid_behind first second buffer laid e =
    back_is (length first) laid (laid_over second (lent_from (length first) laid))
    ∙ rw (lent_is (length first) laid, e, take-append_seam first (drop (length first) buffer), drop-append_seam first (drop (length first) buffer))
    (sym (laid_next first second buffer))

-- the buffer keeps its length over the loan
pub length_back : (k : ℕ) (buffer part : List ℕ) → k ≤ length buffer → length part ≡ length (lent_from k buffer) → length (back_from k buffer part) ≡ length buffer
length_back k buffer part h e =
    let t : length (lent_from k buffer) ≡ length buffer - k = ap length (lent_is k buffer) ∙ length-drop k buffer in
    ap length (back_is k buffer part) ∙ length-append (take k buffer) part ∙ omega (arith, length-take-le k buffer h)

-- a part that is lent for reading
pub part_is : (place n : ℕ) (log : List ℕ) → take (place + n - place) (drop place log) ≡ bytes_at log place n
part_is place n log =
    let e : place + n - place ≡ n = omega arith in
    ap (λ (k : ℕ). take k (drop place log)) e

-- one byte is stored at the front, and the rest laid over the part that is lent behind it
pub laid_cons : (x : ℕ) (rest buffer last : List ℕ) → 1 ≤ length buffer → last ≡ laid_over rest (lent_from 1 (set buffer 0 x))
    → back_from 1 (set buffer 0 x) last ≡ laid_over (x ∷ rest) buffer
laid_cons x rest buffer last h e = rw e (laid_behind (x ∷ []) rest buffer (set buffer 0 x) (laid_stores (x ∷ []) buffer h))

-- a whole slice that is copied to the front of a buffer is laid over it
pub laid_copy : (src dst last : List ℕ) → last ≡ take (length src) src ++ drop (length src) dst → last ≡ laid_over src dst
laid_copy src dst last e = e ∙ ap (λ (l : List ℕ). l ++ drop (length src) dst) (take-length src)

-- one byte more, set right behind what is laid
pub laid_one : (bytes : List ℕ) (x : ℕ) (buffer : List ℕ) (i : ℕ) → length bytes ≡ i → i < length buffer
    → set (laid_over bytes buffer) i x ≡ laid_over (bytes ++ (x ∷ [])) buffer
laid_one bytes x buffer i e h =
    let q : length (bytes ++ (x ∷ [])) ≡ suc i = length-append bytes (x ∷ []) ∙ ap (λ (k : ℕ). k + 1) e ∙ add-one i in
    ap (λ (l : List ℕ). set (bytes ++ l) i x) (ap (λ (k : ℕ). drop k buffer) e ∙ drop-cons buffer i 0 h)
    ∙ set_at bytes (get_or buffer i 0) (drop (suc i) buffer) x i e
    ∙ sym (append_assoc bytes (x ∷ []) (drop (length (bytes ++ (x ∷ []))) buffer) ∙ ap (λ (k : ℕ). bytes ++ (x ∷ drop k buffer)) q)
