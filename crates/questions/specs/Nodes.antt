-- What a policy's first word says to the questions, by its kind, and the words of a tree node by node. Document 01, "What a call receives" and the end of "How a
-- request is turned back".
use Rattle.std.specs.Prelude.{Bool, false, cond, ◌||◌, List, [], ◌∷◌, ℕ, zero, suc, ◌+◌, eqb}
use Rattle.model.specs.Fields.{bits}
use Rattle.model.specs.Outcome.{outcome_bits}
use Rattle.model.specs.Decision.{permits, denies}
use Rattle.model.specs.Policy.{Policy, permit, deny, grant, all, any, or_else, stored}
use Rattle.model.specs.Reading.{kind_of}
use Rattle.model.specs.Products.{Outcome}
use Rattle.policy_model.specs.Span.{own_of}

-- The kind of the top node.
abbrev pub kind_at : Policy Outcome → ℕ
kind_at (permit o) = 6
kind_at deny = 7
kind_at (grant g c) = 8
kind_at (all ts) = 9
kind_at (any ts) = 10
kind_at (or_else a b) = 11
kind_at (stored (permits p)) = 12
kind_at (stored (denies d)) = 13

-- It is one of two.
abbrev pub one_of : ℕ → ℕ → Policy Outcome → Bool
one_of one other t = eqb (kind_at t) one || eqb (kind_at t) other

-- An 8 or 12 whose obligation count, 7 bits above zero (4) and outcome (16), is not 0.
unfoldable pub obligation_at : ℕ → Bool
obligation_at w = cond (eqb (bits (4 + outcome_bits) 7 w) 0) false (eqb (kind_of w) 8 || eqb (kind_of w) 12)

-- Whether a node of these words has obligations, after so many words that are passed: node by node, those of conditions too.
unfoldable pub words_oblige : List ℕ → ℕ → Bool
words_oblige [] passed = false
words_oblige (w ∷ ws) (suc passed) = words_oblige ws passed
words_oblige (w ∷ ws) zero = obligation_at w || words_oblige ws (own_of w ws)
