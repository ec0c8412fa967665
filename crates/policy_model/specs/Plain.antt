-- A Grant without label, reason and obligations, on one fact: the commonest policy, told by its three words. Document 01, "What a call receives".
use Rattle.std.specs.Prelude.{Bool, false, ◌&&◌, List, [], ◌∷◌, ℕ, ◌+◌, ◌/◌, ◌%◌, ◌^◌, eqb}
use Rattle.std.proofs.Math.Option.{none}
use Rattle.model.specs.Fields.{bits}
use Rattle.model.specs.Facts.{fact_count}
use Rattle.model.specs.Outcome.{outcome_bits}
use Rattle.model.specs.Condition.{has}
use Rattle.model.specs.Policy.{Policy, grant}
use Rattle.model.specs.Reading.{kind_of, shape_of}
use Rattle.model.specs.Products.{Outcome}

-- A Grant's first word with no obligation; no label and no reason; a Has.
unfoldable pub plain_grant : List ℕ → Bool
plain_grant [] = false
plain_grant (w ∷ []) = false
plain_grant (w ∷ v ∷ []) = false
plain_grant (w ∷ v ∷ u ∷ ws) = eqb (kind_of w) 8 && (eqb (bits outcome_bits 11 w) 0 && (eqb v 0 && eqb (u / fact_count) 524288))

-- The shape's bit of the first word; the policy of the first word and the third.
abbrev pub shape_bit : ℕ → ℕ
shape_bit w = bits (7 + 4 + outcome_bits) 1 w

abbrev pub plain_policy : ℕ → ℕ → Policy Outcome
plain_policy w u = grant (record { outcome = w % 2 ^ outcome_bits; obligations = []; label = none; reason = none; shape = shape_of (shape_bit w) }) (has (u % fact_count))
