-- The numbers and words of the program's input, and what reading words leaves. Document 01, "Listing".
use Rattle.std.specs.Prelude.{◌≡◌, Bool, true, false, List, ℕ, ◌+◌, ◌*◌, length, drop, get_or}
use Rattle.model.specs.Reading.{refuse, got}
use Rattle.model.specs.Listing.{words_from}
use Rattle.laws.specs.FieldAt.{firsts}

-- The 32 bits at a position.
abbrev pub word_in : List ℕ → ℕ → ℕ
word_in bs at = ((get_or bs at 0 * 256 + get_or bs (at + 1) 0) * 256 + get_or bs (at + 2) 0) * 256 + get_or bs (at + 3) 0

-- The words from a position.
abbrev pub words_in : List ℕ → ℕ → ℕ → List ℕ
words_in bs at n = firsts (λ k. word_in bs (at + 4 * k)) n

-- What reading as many words as the output has leaves in it: the words; or, where the bytes end early, the output as it was.
abbrev pub WordsRead : List ℕ → List ℕ → List ℕ → Bool → Type 0
WordsRead bs before after true = words_from (length before) bs ≡ got after (drop (4 * length before) bs)
WordsRead bs before after false = (words_from (length before) bs ≡ refuse 6) × (after ≡ before)
