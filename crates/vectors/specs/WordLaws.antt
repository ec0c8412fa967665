-- `same_words` says yes exactly where two lists are equal. Assumes nothing.
use Rattle.std.specs.Prelude.{◌≡◌, refl, true, false, ◌&&◌, List, [], ◌∷◌, ℕ, eqb}
use Rattle.std.proofs.Common.{ap₂, eq-eqb, eqb-true}
use Rattle.std.proofs.lemmas.Bool.{false≢true, and_parts}
use Rattle.vectors.specs.Words.{same_words}

pub same_equal : (xs ys : List ℕ) → same_words xs ys ≡ true → xs ≡ ys
unfolding same_words
same_equal [] [] e = refl
same_equal [] (y ∷ ys) e = absurd (false≢true e)
same_equal (x ∷ xs) [] e = absurd (false≢true e)
same_equal (x ∷ xs) (y ∷ ys) e =
    let parts = and_parts (eqb x y) (same_words xs ys) e in
    ap₂ ◌∷◌ (eqb-true x y parts.0) (same_equal xs ys parts.1)

pub equal_same : (xs : List ℕ) → same_words xs xs ≡ true
unfolding same_words
equal_same [] = refl
equal_same (x ∷ xs) = ap₂ ◌&&◌ (eq-eqb x x refl) (equal_same xs)
