-- What the first word of a grant says. Document 01, "8 Grant: kind, shape (1), obligation count (7), zero (4), outcome (16)". Past the end it reads 0.
use Rattle.std.specs.Prelude.{ℕ, ◌+◌, ◌%◌, ◌^◌, List, get_or}
use Rattle.model.specs.Fields.{bits, words_for}
use Rattle.model.specs.Outcome.{outcome_bits}

abbrev pub outcome_at : List ℕ → ℕ → ℕ
outcome_at ws at = get_or ws at 0 % 2 ^ outcome_bits

abbrev pub obligations_at : List ℕ → ℕ → ℕ
obligations_at ws at = bits (4 + outcome_bits) 7 (get_or ws at 0)

-- Two words, then the obligations, four a word, then the condition.
abbrev pub before_condition_at : List ℕ → ℕ → ℕ
before_condition_at ws at = 2 + words_for 4 (obligations_at ws at)
