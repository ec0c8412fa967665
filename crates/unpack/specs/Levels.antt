-- A check of bits as one loop: what is asked of the nodes that are due at a level, and then at each level above it.
use Rattle.std.specs.Prelude.{◌≡◌, List, get_or}
use Prim.Native.Nat.{ℕ, zero, suc, ◌-◌}
use Rattle.model.specs.Reading.{Parsed, got, next}

-- What is asked of a node at so many levels, after so many words, and of so many nodes, one after the other: of the first, and then of the others.
pub record Lists (one : ℕ → ℕ → List ℕ → Parsed ℕ) (all : ℕ → ℕ → List ℕ → ℕ → Parsed ℕ) : Type 0 where
  pub first : (d n w : ℕ) (bs : List ℕ) → (n ≡ 0 → ⊥) → next (one d w bs) (λ v cs. all d v cs (n - 1)) ≡ all d w bs n
  pub none : (d n w : ℕ) (bs : List ℕ) → n ≡ 0 → got w bs ≡ all d w bs n

module _ (all : ℕ → ℕ → List ℕ → ℕ → Parsed ℕ) (depth : ℕ) where
  -- What is asked after the nodes at `level`: of those due at the level above, and so on up.
  unfoldable pub onward : List ℕ → ℕ → Parsed ℕ → Parsed ℕ
  onward above zero p = p
  onward above (suc level) p = next p (λ w bs. onward above level (all (depth - level) w bs (get_or above level 0)))

  -- What is asked of `left` nodes at `level`, after so many words, and then above it.
  abbrev pub Due : List ℕ → ℕ → ℕ → ℕ → List ℕ → Parsed ℕ
  Due above level left w bs = onward above level (all (depth - level) w bs left)
