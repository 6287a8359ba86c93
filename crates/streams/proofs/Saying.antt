-- What an output holds after some writes, where that is known.
use Rattle.std.proofs.Common.{ℕ, ◌+◌, List, [], ◌++◌, take, drop, ap, sym, ◌∙◌, append_assoc}
use Rattle.std.proofs.Math.Seq.{take-add}
use Rattle.std.proofs.lemmas.List.{append-nil}
use Rattle.std.specs.Prelude.{Option, None, Some, Result, Ok, Err, OnOk, OnErr}
use Rattle.std.specs.Io.KnownBytes.{Appends, Keeps}
use Rattle.streams.specs.Said.{Began, Grows, SaysOf, colon, line_end}
use Rattle.laws.proofs.Buffer.{lent_from, lent_is}

pub still_held : (a b c : Option (List ℕ)) (text : List ℕ) → Appends a b text → Keeps b c → Appends a c text
still_held None b c text h k = tt
still_held (Some xs) None c text h k = absurd h
still_held (Some xs) (Some ys) None text h k = absurd k
still_held (Some xs) (Some ys) (Some zs) text h k = cc

-- the text was taken so far, and then more of what was left
pub more_held : (a b c : Option (List ℕ)) (text : List ℕ) (done put : ℕ) → Appends a b (take done text) → Appends b c (take put (lent_from done text))
    → Appends a c (take (done + put) text)
more_held None b c text done put h k = tt
more_held (Some xs) None c text done put h k = absurd h
more_held (Some xs) (Some ys) None text done put h k = absurd k
more_held (Some xs) (Some ys) (Some zs) text done put h k =
    k
    ∙ ap (λ (l : List ℕ). ys ++ take put l) (lent_is done text)
    ∙ ap (λ (l : List ℕ). l ++ take put (drop done text)) h
    ∙ append_assoc xs (take done text) (take put (drop done text))
    ∙ ap (λ (l : List ℕ). xs ++ l) (sym (take-add done put text))

-- one text behind another
appended : (a b c : Option (List ℕ)) (s t : List ℕ) → Appends a b s → Appends b c t → Appends a c (s ++ t)
appended None b c s t h k = tt
appended (Some xs) None c s t h k = absurd h
appended (Some xs) (Some ys) None s t h k = absurd k
appended (Some xs) (Some ys) (Some zs) s t h k = k ∙ ap (λ (l : List ℕ). l ++ t) h ∙ append_assoc xs s t

-- the parts of a line, one behind the other
pub says_of : (a b c d e : Option (List ℕ)) (what words : List ℕ) → Appends a b what → Appends b c colon → Appends c d words → Appends d e line_end
    → SaysOf a e what
says_of a b c d e what words h i j k =
    (words, appended a b e what (colon ++ (words ++ line_end)) h (appended b c e colon (words ++ line_end) i (appended c d e words line_end j k)))

pub grows_not : (a : Option (List ℕ)) → Grows a a
grows_not None = ([], tt)
grows_not (Some xs) = ([], sym (append-nil xs))

pub grows_more : (a b c : Option (List ℕ)) (text : List ℕ) → Grows a b → Appends b c text → Grows a c
grows_more a b c text grown more = (grown.0 ++ text, appended a b c grown.0 text grown.1 more)

-- written whole or not
pub grows_either : {A E : Type 0} (a b c : Option (List ℕ)) (text : List ℕ) (r : Result A E) → Grows a b → OnOk r (Appends b c text)
    → OnErr r (Began b c text) → Grows a c
grows_either a b c text (Ok x) grown whole failed = grows_more a b c text grown whole
grows_either a b c text (Err x) grown whole failed = grows_more a b c (take failed.0 text) grown failed.2
