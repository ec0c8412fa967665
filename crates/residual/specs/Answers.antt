-- What the writers of a residual's parts leave in the output that they are lent.
use Rattle.std.specs.Prelude.{◌≡◌, List, [], ◌∷◌, ◌++◌, ℕ, ◌+◌, ◌-◌, ◌≤◌, length, take, drop}
use Rattle.std.proofs.Math.Option.{none}
use Rattle.model.specs.Facts.{Table}
use Rattle.model.specs.Decision.{Decision as Decided, permits}
use Rattle.model.specs.Policy.{stored}
use Rattle.model.specs.Products.{Outcome}
use Rattle.decision.specs.declared.Decision.{Decision}
use Rattle.decision.specs.Meaning.{decision_of, Sound}
use Rattle.record.specs.Nodes.{decision_words}
use Rattle.sizes.specs.Laid.{most_words, too_many, capped, Laid}
use Rattle.residual.specs.Weight.{weight}

-- A permit with nothing but its outcome and one fact.
abbrev pub on_fact : ℕ → ℕ → Decided Outcome
on_fact o f = permits (record { outcome = o; obligations = []; label = none; facts = f ∷ [] })

-- The node of a decision was laid. The bytes of the decision's obligations stand in its buffer as they stood.
pub record NodeLaid (W : List ℕ) (T : Table) (d : Decision) (before after : List ℕ) (out : List ℕ) (r : ℕ) : Type 0 where
  pub bound : r ≤ too_many
  pub laid : Sound W before d → Laid (weight (stored (decision_of W T before d))) (decision_words (decision_of W T before d)) out r
  pub bytes : Sound W before d → take d.united after ≡ take d.united before

-- A list of nodes and pending arms was made, if it is not too long, there is room, and all of the nodes were there.
pub record ListPut (lead : ℕ) (front : List ℕ) (kept size : ℕ) (before after : List ℕ) (r : ℕ) : Type 0 where
  pub size_is : r ≡ capped (kept + size)
  pub put : r ≤ most_words → r ≤ length before → kept ≤ length front → take r after ≡ lead ∷ (take kept front ++ take (size - 1) (drop 1 before))
