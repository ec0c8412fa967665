-- A check as one loop: what is asked of the nodes that are due at a level, and then at each level above it. Assumes nothing.
use Rattle.std.specs.Prelude.{Result, Ok, Err}
use mathlib.Core.Path.{◌≡◌, refl, sym, ◌∙◌, ap}
use mathlib.Core.List.{List}
use Prim.Native.Nat.{ℕ, zero, suc, ◌+◌, ◌-◌, ◌≤◌, ◌<◌}
use native.Mathlib.Numerals.{add-one, sub-one}
use native.Mathlib.Omega.{arith}
use lib.ListN.{length, get_or, set}
use lib.Seq.{get_or-set_same, get_or-set_other}
use Rattle.policy_model.specs.Answers.{and_then, Lists}

module _ (all : ℕ → ℕ → ℕ → Result ℕ ℕ) (depth : ℕ) where
  -- What is asked after the nodes at `level`: of those due at the level above, and so on up.
  unfoldable pub onward : List ℕ → ℕ → Result ℕ ℕ → Result ℕ ℕ
  onward above zero c = c
  onward above (suc level) c = and_then c (λ at. onward above level (all (depth - level) at (get_or above level 0)))

  -- A refusal stands.
  refused_stands : (above : List ℕ) (level n : ℕ) → Err n ≡ onward above level (Err n)
  unfolding onward
  refused_stands above zero n = refl
  refused_stands above (suc level) n = refl

  -- A level is done: the one above goes on.
  level_over : (above : List ℕ) (level at : ℕ) → (level ≡ 0 → ⊥) → onward above (level - 1) (all (depth - (level - 1)) at (get_or above (level - 1) 0)) ≡ onward above level (Ok at)
  unfolding onward
  level_over above zero at f = absurd (f refl)
  level_over above (suc level) at f = rw sub-one

  -- What is stored at a level is not asked for above it.
  stored_below : (above : List ℕ) (i v level : ℕ) (c : Result ℕ ℕ) → level ≤ i → onward (set above i v) level c ≡ onward above level c
  unfolding onward
  stored_below above i v zero c h = refl
  stored_below above i v (suc level) (Err n) h = refl
  stored_below above i v (suc level) (Ok at) h =
      stored_below above i v level (all (depth - level) at (get_or (set above i v) level 0)) (omega arith)
      ∙ ap (λ n. onward above level (all (depth - level) at n)) (get_or-set_other above i level v 0 (λ e. omega arith))

  -- A level begins, with `v` nodes due after it.
  level_begins : (above : List ℕ) (level v : ℕ) (c : Result ℕ ℕ) → level < length above → onward (set above level v) (level + 1) c ≡ onward above level (and_then c (λ at. all (depth - level) at v))
  unfolding onward
  level_begins above level v (Err n) h = rw add-one (refused_stands above level n)
  level_begins above level v (Ok at) h =
      rw (add-one, get_or-set_same above level v 0 h) (stored_below above level v level (all (depth - level) at v) (omega arith))

  -- What is asked of `left` nodes from `next` at `level`, and then above it.
  abbrev pub Due : List ℕ → ℕ → ℕ → ℕ → Result ℕ ℕ
  Due above level left next = onward above level (all (depth - level) next left)

and_done : (c : Result ℕ ℕ) (k : ℕ → Result ℕ ℕ) → ((at : ℕ) → Ok at ≡ k at) → and_then c k ≡ c
and_done (Err n) k f = refl
and_done (Ok at) k f = sym (f at)

module _ {one : ℕ → ℕ → Result ℕ ℕ} {all : ℕ → ℕ → ℕ → Result ℕ ℕ} (lists : Lists one all) (depth : ℕ) where
  -- At first one node is due.
  pub one_due : (above : List ℕ) (at : ℕ) → Due all depth above 0 1 at ≡ one depth at
  unfolding onward
  one_due above at =
      let whole : depth - 0 ≡ depth = omega arith in
      sym (lists.first (depth - 0) 1 at (λ e. omega arith)) ∙ and_done (one (depth - 0) at) (λ after. all (depth - 0) after 0) (λ after. lists.none (depth - 0) 0 after refl)
      ∙ ap (λ d. one d at) whole

  module _ (above : List ℕ) (level left next : ℕ) where
    -- One of the nodes, and then the others.
    one_then : (c : Result ℕ ℕ) → (left ≡ 0 → ⊥) → c ≡ one (depth - level) next →
        onward all depth above level (and_then c (λ at. all (depth - level) at (left - 1))) ≡ Due all depth above level left next
    one_then c f e = ap (onward all depth above level) (ap (λ x. and_then x (λ at. all (depth - level) at (left - 1))) e ∙ lists.first (depth - level) left next f)

    -- A node that is passed, one that opens a level, and one that is refused.
    pub passed : (after : ℕ) → (left ≡ 0 → ⊥) → Ok after ≡ one (depth - level) next → Due all depth above level (left - 1) after ≡ Due all depth above level left next
    passed after f e = one_then (Ok after) f e

    pub opened : (n : ℕ) → (left ≡ 0 → ⊥) → level < length above → all (depth - level - 1) (next + 1) n ≡ one (depth - level) next →
        Due all depth (set above level (left - 1)) (level + 1) n (next + 1) ≡ Due all depth above level left next
    opened n f lt e =
        let down : depth - (level + 1) ≡ depth - level - 1 = omega arith in
        let arms = all (depth - (level + 1)) (next + 1) n in
        level_begins all depth above level (left - 1) arms lt ∙ one_then arms f (ap (λ d. all d (next + 1) n) down ∙ e)

    pub turned_back_lem : (n : ℕ) → (left ≡ 0 → ⊥) → Err n ≡ one (depth - level) next → Err n ≡ Due all depth above level left next
    turned_back_lem n f e = refused_stands all depth above level n ∙ one_then (Err n) f e

    -- None is due: the level above goes on, or all is done.
    pub level_done : left ≡ 0 → (level ≡ 0 → ⊥) → Due all depth above (level - 1) (get_or above (level - 1) 0) next ≡ Due all depth above level left next
    level_done e f = level_over all depth above level next f ∙ ap (onward all depth above level) (lists.none (depth - level) left next e)

    pub all_done : left ≡ 0 → level ≡ 0 → Ok next ≡ Due all depth above level left next
    unfolding onward
    all_done e f = rw f (lists.none (depth - 0) left next e)
