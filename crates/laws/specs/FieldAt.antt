-- Lists of fields in words, for fields of any width: a field by its number, and what a list has to be so that it can be packed.
use Rattle.std.specs.Prelude.{List, [], ◌∷◌, ◌++◌, ℕ, zero, suc, ◌/◌, ◌%◌, ◌^◌, ◌<◌, get_or}
use Rattle.model.specs.Fields.{split, per_word}

-- Field number i of the list whose words these begin with, 0 past the words.
unfoldable pub field_at : ℕ → List ℕ → ℕ → ℕ
field_at width ws i = get_or (split width (per_word width) (get_or ws (i / per_word width) 0)) (i % per_word width) 0

-- The first n values of a function; and of a list, 0 where there are fewer.
unfoldable pub firsts : (ℕ → ℕ) → ℕ → List ℕ
firsts f zero = []
firsts f (suc n) = firsts f n ++ f n ∷ []

abbrev pub padded : ℕ → List ℕ → List ℕ
padded zero vs = []
padded (suc n) [] = 0 ∷ padded n []
padded (suc n) (v ∷ vs) = v ∷ padded n vs

-- The fields of words of n fields each, one word after the other.
abbrev pub unpacked : ℕ → ℕ → List ℕ → List ℕ
unpacked width n [] = []
unpacked width n (w ∷ ws) = split width n w ++ unpacked width n ws

-- Two lists field by field, to the end of the shorter.
abbrev pub fieldwise : (ℕ → ℕ → ℕ) → List ℕ → List ℕ → List ℕ
fieldwise f [] qs = []
fieldwise f (p ∷ ps) [] = []
fieldwise f (p ∷ ps) (q ∷ qs) = f p q ∷ fieldwise f ps qs

-- Each value fits the width.
abbrev pub Narrow : ℕ → List ℕ → Type 0
Narrow width [] = Unit {0}
Narrow width (v ∷ vs) = (v < 2 ^ width) × Narrow width vs
