-- What a walk adds to a set of facts, and how many facts are named. Document 01, "Required facts".
use Rattle.std.specs.Prelude.{◌≡◌, Bool, cond, List, [], ◌∷◌, ℕ, zero, suc, ◌+◌, length}
use Rattle.model.specs.Facts.{fact_count}
use Rattle.model.specs.Reading.{Parsed, refuse, got}
use Rattle.fact_set.specs.Sets.{Grown}

-- A walk from `at` over so many words, to `next`.
pub record Walked (at words next : ℕ) (names : ℕ → Bool) (before after : List ℕ) : Type 0 where
  pub ends : next ≡ at + words
  pub adds : Grown names before after

-- A walk over what stands at `at`. Of words that don't read it says nothing.
unfoldable pub Collected : {A : Type 0} → (A → ℕ) → (ℕ → A → Bool) → ℕ → List ℕ → List ℕ → Parsed A → ℕ → Type 0
Collected size names at before after (refuse n) next = Unit {0}
Collected size names at before after (got a ws) next = Walked at (size a) next (λ f. names f a) before after

-- A walk to the last word. Of words that don't read, or that go on after what was read, it says nothing.
unfoldable pub ToTheEnd : {A : Type 0} → (ℕ → A → Bool) → Parsed A → List ℕ → List ℕ → Type 0
ToTheEnd names (refuse n) before after = Unit {0}
ToTheEnd names (got a []) before after = Grown (λ f. names f a) before after
ToTheEnd names (got a (w ∷ ws)) before after = Unit {0}

-- The facts that are named among the n from `from` on, in order; and how many of the 1,024 facts are.
unfoldable pub named_from : (ℕ → Bool) → ℕ → ℕ → List ℕ
named_from named from zero = []
named_from named from (suc n) = cond (named from) (from ∷ named_from named (suc from) n) (named_from named (suc from) n)

abbrev pub how_many : (ℕ → Bool) → ℕ
how_many named = length (named_from named 0 fact_count)
