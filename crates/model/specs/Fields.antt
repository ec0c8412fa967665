-- Fields of a word, most significant first, for any width. Document 01, "What a call receives".
use Rattle.std.specs.Prelude.{List, [], ◌∷◌, ℕ, zero, suc, ◌+◌, ◌-◌, ◌*◌, ◌/◌, ◌%◌, ◌^◌, length, drop}

-- The field of `width` bits that has `below` bits below it; and a value put there.
abbrev pub bits : ℕ → ℕ → ℕ → ℕ
bits below width w = w / 2 ^ below % 2 ^ width

abbrev pub above : ℕ → ℕ → ℕ
above below v = v * 2 ^ below

-- The n fields of `width` bits of a word, the leftmost first; and the word with these fields, 0 where the list ends early.
abbrev pub split : ℕ → ℕ → ℕ → List ℕ
split width zero w = []
split width (suc n) w = (w / 2 ^ (width * n)) ∷ split width n (w % 2 ^ (width * n))

abbrev pub joined : ℕ → ℕ → List ℕ → ℕ
joined width zero vs = 0
joined width (suc n) [] = 0
joined width (suc n) (v ∷ vs) = above (width * n) v + joined width n vs

-- A list in m words of n fields each.
abbrev pub packed : ℕ → ℕ → ℕ → List ℕ → List ℕ
packed width n zero vs = []
packed width n (suc m) vs = joined width n vs ∷ packed width n m (drop n vs)

-- How many words of n fields hold k fields.
abbrev pub words_for : ℕ → ℕ → ℕ
words_for n k = (k + (n - 1)) / n

-- A word has 32 bits. A list of fields takes as many words as hold it; unused tail fields are 0.
abbrev pub word_bits : ℕ
word_bits = 32

abbrev pub per_word : ℕ → ℕ
per_word width = word_bits / width

abbrev pub pack : ℕ → List ℕ → List ℕ
pack width vs = packed width (per_word width) (words_for (per_word width) (length vs)) vs
