-- What the readers give, in the words of the stored answer; what a proved call gives, in those of its reply. Assumes nothing.
use mathlib.Core.Path.{◌≡◌, refl, ◌∙◌, ap, ap₂}
use mathlib.Core.Bool.{Bool, true, false, cond, ◌&&◌}
use mathlib.Core.List.{List, ◌++◌, append-nil}
use Prim.Native.Nat.{ℕ, ◌+◌, ◌-◌, ◌*◌, ◌<◌, ◌≤◌}
use native.Mathlib.Omega.{arith}
use borrow.Author.Tests.{le-leb, lt-leb, leb-true}
use lib.Dec.{leb}
use lib.ListN.{length, take, drop, length-drop}
use lib.Seq.{drop-length, take_all, length-take-le}
use Rattle.laws.specs.FieldAt.{firsts}
use Rattle.listing.specs.Inputs.{WordsRead, words_in}
use Rattle.listing.specs.InputLaws.{words_there}
use Rattle.std.specs.Prelude.{Some, None}
use Rattle.vectors.specs.Stored.{number_bytes, whole_size, is_whole, size_of, Whole}

-- A list whose every place was stored.
pub firsts_all : (f : ℕ → ℕ) (i : ℕ) (out before : List ℕ) → i ≡ length before → out ≡ firsts f i ++ drop i before → out ≡ firsts f (length before)
firsts_all f i out before e o =
    o
    ∙ ap (λ n. firsts f n ++ drop n before) e
    ∙ ap (λ l. firsts f (length before) ++ l) (drop-length before)
    ∙ append-nil (firsts f (length before))

-- Words that are there are read.
pub words_fill : (r : Bool) (bs : List ℕ) (at : ℕ) (before after : List ℕ) → at + 4 * length before ≤ length bs →
    WordsRead (take (length bs - at) (drop at bs)) before after r → after ≡ words_in bs at (length before)
words_fill r bs at before after h s = by r (rw all at s)
  where
    all : take (length bs - at) (drop at bs) ≡ drop at bs
    all = take_all (length bs - at) (drop at bs) (omega (arith, length-drop at bs))

    by : (r : Bool) → WordsRead (drop at bs) before after r → after ≡ words_in bs at (length before)
    by true read = let there = words_there (length before) at bs h in cc
    by false cut =
        let there = words_there (length before) at bs h in
        let short = cut.0 in
        let z : ◌≡◌ {A = ℕ} 0 1 = cc in
        absurd (omega arith)

-- The same into the front of the output.
pub words_stand : (r : Bool) (bs : List ℕ) (at n : ℕ) (out part : List ℕ) → n ≤ length out → at + 4 * n ≤ length bs →
    WordsRead (take (length bs - at) (drop at bs)) (take n out) part r → part ++ drop n out ≡ words_in bs at n ++ drop n out
words_stand r bs at n out part room h s =
    let few : length (take n out) ≡ n = length-take-le n out room in
    ap (λ l. l ++ drop n out) (words_fill r bs at (take n out) part (omega arith) s ∙ ap (words_in bs at) few)

-- ---- the size of a stored answer
module _ (bs : List ℕ) where
  sized : (b : Bool) → is_whole bs ≡ b → size_of bs ≡ cond b (Some (whole_size bs)) None
  sized b e = ap (λ w. cond w (Some (whole_size bs)) None) e

  pub size_whole : number_bytes ≤ length bs → whole_size bs ≤ length bs → size_of bs ≡ Some (whole_size bs)
  size_whole h k = sized true (ap₂ ◌&&◌ (le-leb _ _ h) (le-leb _ _ k))

  pub size_short : number_bytes ≤ length bs → length bs < whole_size bs → size_of bs ≡ None
  size_short h k = sized false (ap₂ ◌&&◌ (le-leb _ _ h) (lt-leb _ _ k))

  pub size_none : length bs < number_bytes → size_of bs ≡ None
  size_none h = sized false (ap (λ a. a && leb (whole_size bs) (length bs)) (lt-leb _ _ h))

  -- One that has a size is whole.
  pub record Sized (size : ℕ) : Type 0 where
    pub whole : Whole bs
    pub is : size ≡ whole_size bs
    pub test : is_whole bs ≡ true

  pub sized_of : {size : ℕ} → Some size ≡ size_of bs → Sized size
  sized_of {size} e = by (leb number_bytes (length bs)) (leb (whole_size bs) (length bs)) refl refl e
    where
      by : (a b : Bool) → leb number_bytes (length bs) ≡ a → leb (whole_size bs) (length bs) ≡ b → Some size ≡ cond (a && b) (Some (whole_size bs)) None → Sized size
      by true true p q k = record { whole = record { numbers = leb-true _ _ p; bytes = leb-true _ _ q }; is = cc; test = ap₂ ◌&&◌ p q }
      by true false p q k = cc
      by false b p q k = cc

  pub not_whole : None ≡ size_of bs → is_whole bs ≡ false
  not_whole e = by (is_whole bs) refl e
    where
      by : (b : Bool) → is_whole bs ≡ b → None ≡ cond b (Some (whole_size bs)) None → is_whole bs ≡ false
      by true p k = cc
      by false p k = p
