-- What is asked of the nodes that are due at a level, and then at each level above it, as nodes are passed one by one.
use Rattle.std.specs.Prelude.{◌≡◌, List, length, get_or, set}
use Rattle.std.proofs.Math.Path.{refl, sym, ap}
use Rattle.std.proofs.Common.{◌∙◌, get_or-set_other}
use Prim.Native.Nat.{ℕ, zero, suc, ◌+◌, ◌-◌, ◌≤◌, ◌<◌}
use Rattle.std.proofs.Math.Numerals.{add-one, sub-one}
use native.Mathlib.Omega.{arith}
use Rattle.std.proofs.Math.Seq.{get_or-set_same}
use Rattle.model.specs.Reading.{Parsed, refuse, got, next}
use Rattle.unpack.specs.Levels.{Lists, onward, Due}

module _ (all : ℕ → ℕ → List ℕ → ℕ → Parsed ℕ) (depth : ℕ) where
  -- A refusal stands.
  refused_stands : (above : List ℕ) (level n : ℕ) → refuse n ≡ onward all depth above level (refuse n)
  unfolding onward
  refused_stands above zero n = refl
  refused_stands above (suc level) n = refl

  -- A level is done: the one above goes on.
  level_over : (above : List ℕ) (level w : ℕ) (bs : List ℕ) → (level ≡ 0 → ⊥) → onward all depth above (level - 1) (all (depth - (level - 1)) w bs (get_or above (level - 1) 0)) ≡ onward all depth above level (got w bs)
  unfolding onward
  level_over above zero w bs f = absurd (f refl)
  level_over above (suc level) w bs f = rw sub-one

  -- What is stored at a level is not asked for above it.
  stored_below : (above : List ℕ) (i v level : ℕ) (p : Parsed ℕ) → level ≤ i → onward all depth (set above i v) level p ≡ onward all depth above level p
  unfolding onward
  stored_below above i v zero p h = refl
  stored_below above i v (suc level) (refuse n) h = refl
  stored_below above i v (suc level) (got w bs) h =
      stored_below above i v level (all (depth - level) w bs (get_or (set above i v) level 0)) (omega arith)
      ∙ ap (λ n. onward all depth above level (all (depth - level) w bs n)) (get_or-set_other above i level v 0 (λ e. omega arith))

  -- A level begins, with `v` nodes due after it.
  level_begins : (above : List ℕ) (level v : ℕ) (p : Parsed ℕ) → level < length above → onward all depth (set above level v) (level + 1) p ≡ onward all depth above level (next p (λ w bs. all (depth - level) w bs v))
  unfolding onward
  level_begins above level v (refuse n) h = rw add-one (refused_stands above level n)
  level_begins above level v (got w bs) h =
      rw (add-one, get_or-set_same above level v 0 h) (stored_below above level v level (all (depth - level) w bs v) (omega arith))

and_done : (p : Parsed ℕ) (k : ℕ → List ℕ → Parsed ℕ) → ((w : ℕ) (bs : List ℕ) → got w bs ≡ k w bs) → next p k ≡ p
and_done (refuse n) k f = refl
and_done (got w bs) k f = sym (f w bs)

module _ {one : ℕ → ℕ → List ℕ → Parsed ℕ} {all : ℕ → ℕ → List ℕ → ℕ → Parsed ℕ} (lists : Lists one all) (depth : ℕ) where
  -- At first one node is due.
  pub one_due : (above : List ℕ) (w : ℕ) (bs : List ℕ) → Due all depth above 0 1 w bs ≡ one depth w bs
  unfolding onward
  one_due above w bs =
      let whole : depth - 0 ≡ depth = omega arith in
      sym (lists.first (depth - 0) 1 w bs (λ e. omega arith)) ∙ and_done (one (depth - 0) w bs) (λ v cs. all (depth - 0) v cs 0) (λ v cs. lists.none (depth - 0) 0 v cs refl)
      ∙ ap (λ d. one d w bs) whole

  module _ (above : List ℕ) (level left w : ℕ) (bs : List ℕ) where
    -- One of the nodes, and then the others.
    one_then : (p : Parsed ℕ) → (left ≡ 0 → ⊥) → p ≡ one (depth - level) w bs →
        onward all depth above level (next p (λ v cs. all (depth - level) v cs (left - 1))) ≡ Due all depth above level left w bs
    one_then p f e = ap (onward all depth above level) (ap (λ x. next x (λ v cs. all (depth - level) v cs (left - 1))) e ∙ lists.first (depth - level) left w bs f)

    -- A node that was passed, with as many below it, and one that is refused.
    pub opened : (v : ℕ) (cs : List ℕ) (n : ℕ) → (left ≡ 0 → ⊥) → level < length above → one (depth - level) w bs ≡ all (depth - level - 1) v cs n →
        Due all depth (set above level (left - 1)) (level + 1) n v cs ≡ Due all depth above level left w bs
    opened v cs n f lt e =
        let down : depth - (level + 1) ≡ depth - level - 1 = omega arith in
        let arms = all (depth - (level + 1)) v cs n in
        level_begins all depth above level (left - 1) arms lt ∙ one_then arms f (ap (λ d. all d v cs n) down ∙ sym e)

    -- A node with none below it.
    pub passed : (v : ℕ) (cs : List ℕ) (n : ℕ) → n ≡ 0 → (left ≡ 0 → ⊥) → one (depth - level) w bs ≡ all (depth - level - 1) v cs n → Due all depth above level (left - 1) v cs ≡ Due all depth above level left w bs
    passed v cs n z f e = one_then (got v cs) f (lists.none (depth - level - 1) n v cs z ∙ sym e)

    -- The same where what is left was stored at the level, as of a node with arms.
    pub passed_stored : (v : ℕ) (cs : List ℕ) (n : ℕ) → (left ≡ 0 → ⊥) → n ≡ 0 → one (depth - level) w bs ≡ all (depth - level - 1) v cs n →
        Due all depth (set above level (left - 1)) level (left - 1) v cs ≡ Due all depth above level left w bs
    passed_stored v cs n f z e = stored_below all depth above level (left - 1) level (all (depth - level) v cs (left - 1)) (omega arith) ∙ passed v cs n z f e

    pub turned_back_lem : (n : ℕ) → (left ≡ 0 → ⊥) → one (depth - level) w bs ≡ refuse n → refuse n ≡ Due all depth above level left w bs
    turned_back_lem n f e = refused_stands all depth above level n ∙ one_then (refuse n) f (sym e)

    -- None is due: the level above goes on, or all is done.
    pub level_done : left ≡ 0 → (level ≡ 0 → ⊥) → Due all depth above (level - 1) (get_or above (level - 1) 0) w bs ≡ Due all depth above level left w bs
    level_done e f = level_over all depth above level w bs f ∙ ap (onward all depth above level) (lists.none (depth - level) left w bs e)

    pub all_done : left ≡ 0 → level ≡ 0 → got w bs ≡ Due all depth above level left w bs
    unfolding onward
    all_done e f = rw f (lists.none (depth - 0) left w bs e)
