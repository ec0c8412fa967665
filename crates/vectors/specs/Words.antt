-- Whether two lists of words are the same, what stands in an output before a call, and a set of facts as words.
use Rattle.std.specs.Prelude.{Bool, true, false, cond, ◌&&◌, List, [], ◌∷◌, ℕ, ◌+◌, ◌/◌, ◌%◌, ◌^◌, eqb, length, get_or}
use Rattle.laws.specs.FieldAt.{firsts}

-- Whether two lists are the same, word by word.
unfoldable pub same_words : List ℕ → List ℕ → Bool
same_words [] [] = true
same_words [] (y ∷ ys) = false
same_words (x ∷ xs) [] = false
same_words (x ∷ xs) (y ∷ ys) = eqb x y && same_words xs ys

-- What stands in an output of n words before a call.
abbrev pub marks : ℕ → List ℕ
marks n = firsts (λ k. 0x0F0F0F0F + k) n

-- A 64-bit number as two words, the upper half first.
abbrev pub half_of : ℕ → ℕ → ℕ
half_of number place = cond (eqb place 0) (number / 2 ^ 32) (number % 2 ^ 32)

-- The k-th half of a set's numbers.
abbrev pub half_at : List ℕ → ℕ → ℕ
half_at set k = half_of (get_or set (k / 2) 0) (k % 2)

-- The output, if it has 32 words, becomes a set's sixteen numbers.
abbrev pub halves : List ℕ → List ℕ
halves set = firsts (half_at set) 32

abbrev pub set_words : List ℕ → List ℕ → List ℕ
set_words set before = cond (eqb (length before) 32) (halves set) before
