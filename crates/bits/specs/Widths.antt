-- The widths of fields that depend on what the node says. Request 11.
use Rattle.std.specs.Prelude.{Bool, cond, Option, None, Some, ◌||◌, [], ◌∷◌, ℕ, ◌+◌, ◌^◌, eqb, leb, ltb, get_or}
use Rattle.model.specs.Fields.{bits}
use Rattle.model.specs.Facts.{fact_bits}
use Rattle.model.specs.Outcome.{outcome_bits}
use Rattle.model.specs.Writing.{count_bits, mark_bits}
use Rattle.model.specs.Tight.{kind_bits}

-- A Grant, a PermitWithTrace and a DenyWithTrace have lists.
unfoldable pub has_lists : ℕ → Bool
has_lists kind = eqb kind 8 || leb 12 kind

-- What follows the kind of a node without lists: the fact of a Has, the count of a list, the outcome of a Permit.
unfoldable pub plain_width : ℕ → ℕ
plain_width kind = get_or (0 ∷ 0 ∷ fact_bits ∷ 0 ∷ count_bits ∷ count_bits ∷ outcome_bits ∷ 0 ∷ 0 ∷ count_bits ∷ count_bits ∷ []) kind 0

-- A node without lists: its kind and what follows. One with lists has no such width.
unfoldable pub plain_node_width : ℕ → Option ℕ
plain_node_width kind = cond (has_lists kind) None (Some (kind_bits + plain_width kind))

-- A label or reason of 16 bits: an absent one takes its present bit only.
unfoldable pub mark_width : ℕ → ℕ
mark_width half = cond (ltb half (2 ^ mark_bits)) 1 (1 + mark_bits)

-- The outcome of a DenyWithTrace, after its present bit.
unfoldable pub denied_width : ℕ → ℕ
denied_width word = cond (eqb (bits (10 + outcome_bits) 1 word) 1) outcome_bits 0
