-- The fields of one word of a packed list.
use Rattle.std.specs.Prelude.{List, [], ◌∷◌, ℕ, zero, suc, get_or}

-- The n values from index k on, 0 past the end.
abbrev pub values_from : List ℕ → ℕ → ℕ → List ℕ
values_from vs k zero = []
values_from vs k (suc n) = get_or vs k 0 ∷ values_from vs (suc k) n
