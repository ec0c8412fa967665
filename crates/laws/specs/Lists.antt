-- Lists of numbers: in which none is repeated, and in which few are.
use Rattle.std.specs.Prelude.{◌≡◌, false, cond, List, [], ◌∷◌, ℕ, suc, ◌<◌}
use Rattle.model.specs.Decision.{held}

-- None is repeated; each has Q; each is below n.
abbrev pub Distinct : List ℕ → Type 0
Distinct [] = Unit {0}
Distinct (o ∷ os) = (held o os ≡ false) × Distinct os

abbrev pub Every : (ℕ → Type 0) → List ℕ → Type 0
Every Q [] = Unit {0}
Every Q (o ∷ os) = Q o × Every Q os

abbrev pub Below : ℕ → List ℕ → Type 0
Below n os = Every (λ o. o < n) os

-- How many stand again later in the list.
abbrev pub repeats : List ℕ → ℕ
repeats [] = 0
repeats (o ∷ os) = cond (held o os) (suc (repeats os)) (repeats os)
