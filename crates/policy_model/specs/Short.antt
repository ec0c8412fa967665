-- A short condition, checked by a count of the nodes that are due: where fewer nodes than levels have arms, none is too deep.
-- What `short_condition` promises rests on it, and no other contract does.
use Rattle.std.specs.Prelude.{Bool, cond, Option, Some, None, List, [], ◌∷◌, ℕ, zero, suc, ◌+◌, ◌-◌, ◌^◌, ltb, get_or}
use Rattle.model.specs.Facts.{fact_count}
use Rattle.model.specs.Writing.{count_bits}
use Rattle.model.specs.Reading.{kind_of, rest_of}
use Rattle.policy_model.specs.Span.{arms_of}

-- By the kind of a condition, what its other bits are below.
abbrev pub condition_limits : List ℕ
condition_limits = 1 ∷ 1 ∷ fact_count ∷ 1 ∷ 2 ^ count_bits ∷ 2 ^ count_bits ∷ []

-- Whether a word is the first one of a condition, with no field wrong.
unfoldable pub is_condition : ℕ → Bool
is_condition w = ltb (rest_of w) (get_or condition_limits (kind_of w) 0)

-- The levels that are left after a node: one with arms takes one.
abbrev pub levels_after : ℕ → ℕ → ℕ
levels_after levels zero = levels
levels_after levels (suc arms) = levels - 1

-- The position after so many nodes that are due.
unfoldable pub counted : List ℕ → ℕ → ℕ → ℕ → Option ℕ
counted [] at zero levels = Some at
counted [] at (suc due) levels = None
counted (w ∷ ws) at zero levels = Some at
counted (w ∷ ws) at (suc due) zero = None
counted (w ∷ ws) at (suc due) (suc levels) = cond (is_condition w) (counted ws (at + 1) (due + arms_of w) (levels_after (suc levels) (arms_of w))) None
