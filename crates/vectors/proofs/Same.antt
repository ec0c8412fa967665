-- Lists of words that are the same, or not. Assumes nothing.
use mathlib.Core.Path.{◌≡◌, refl, ap}
use mathlib.Core.Bool.{◌&&◌}
use mathlib.Core.List.{List, [], ◌∷◌}
use Prim.Native.Nat.{ℕ}
use lib.Dec.{eqb}
use lib.Pointwise.{pointwise}
use Rattle.vectors.specs.Words.{same_words}

pub same_by_words : (xs ys : List ℕ) → pointwise eqb xs ys ≡ same_words xs ys
unfolding same_words
same_by_words [] [] = refl
same_by_words [] (y ∷ ys) = refl
same_by_words (x ∷ xs) [] = refl
same_by_words (x ∷ xs) (y ∷ ys) = ap (λ b. eqb x y && b) (same_by_words xs ys)
