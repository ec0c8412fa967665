-- Counts of conditions: a node by its head, and arms. Assumes nothing.
use mathlib.Core.Path.{◌≡◌, refl, sym, ◌∙◌, ap, subst}
use mathlib.Core.Bool.{Bool, true, false, not, cond, beq}
use mathlib.Core.List.{List, ◌∷◌}
use Rattle.std.specs.Prelude.{Option, Some, None}
use Prim.Native.Nat.{ℕ, zero, suc, ◌+◌, ◌-◌, ◌/◌, ◌%◌, ◌≤◌, ◌<◌}
use native.Mathlib.Omega.{arith}
use lib.ListN.{length, drop, get_or}
use Rattle.model.specs.Facts.{Table}
use Rattle.model.specs.Condition.{Condition, always, never, has, not_c, all_c, any_c, Conditions, cnil, ccons, eval_condition}
use Rattle.model.specs.Visits.{visits_c}
use Rattle.model.specs.Reading.{Parsed, refuse, got, next, many, read_condition}
use Rattle.laws.proofs.FieldLaws.{fine, nothing}
use Rattle.laws.proofs.NodeLaws.{condition_none}
use Rattle.laws.proofs.TruthLaws.{truth_flip}
use Rattle.laws.specs.Size.{words_c, words_cs}
use Rattle.facts.specs.Answers.{is_present}
use Rattle.facts.specs.AnswerLaws.{has_value}
use Rattle.policy_model.specs.declared.ConditionHead.{ConditionHead}
use Rattle.policy_model.specs.declared.ConditionHead.TheVariants.{Always, Never, Has, Not, All, Any, BadKind, BadField}
use Rattle.policy_model.specs.Heads.{condition_head, condition_node}
use Rattle.policy_model.specs.HeadLaws.{condition_node_lem, condition_deep, has_word}
use Rattle.policy_model.specs.Span.{SkippedConditions}
use Rattle.policy_model.proofs.Checking.{word_at, no_word}
use Rattle.policy_model.proofs.Conditions.{condition_leaves}
use Rattle.visits.specs.declared.Visit.{Visit}
use Rattle.visits.specs.Holding.{holds_c, holds_cs, visits_cs}
use Rattle.visits.specs.Counting.{counted_by, Counts}
use Rattle.visits.proofs.Holding.{all_holds, any_holds, all_nodes, any_nodes, some_c}
use Rattle.visits.proofs.Counting.{counted_as, flipped, flipped_is, refused, none_left, leaf, below, some_arm, arms_none, arm_first, arm_over, arms_passed}

module _ (T : Table) (W : List ℕ) (at allowance n : ℕ) where
  -- The answer to the condition at `at`, of so many levels.
  abbrev pub CountsC : ℕ → Option Visit → Type 0
  CountsC depth r = Counts words_c (holds_c T) (visits_c T) at allowance n (read_condition depth (drop at W)) r

  abbrev pub CountsCs : Bool → ℕ → ℕ → Option Visit → Type 0
  CountsCs stop depth arms r = Counts words_cs (holds_cs stop T) (visits_cs stop T) at allowance n (many cnil ccons (read_condition depth) arms (drop at W)) r

  -- ---- no word, no level, no node left
  pub no_words : (depth : ℕ) (r : Option Visit) → length W ≤ at → CountsC depth r
  no_words depth r h = refused words_c (holds_c T) (visits_c T) at allowance n (read_condition depth (drop at W)) (ap (read_condition depth) (no_word W at h) ∙ condition_none depth)

  pub no_levels : (depth : ℕ) (r : Option Visit) → at < length W → depth ≡ 0 → CountsC depth r
  no_levels depth r lt z =
      refused words_c (holds_c T) (visits_c T) at allowance n (read_condition depth (drop at W))
      (ap (λ d. read_condition d (drop at W)) z ∙ ap (read_condition 0) (word_at W at lt) ∙ condition_deep (get_or W at 0) (drop (at + 1) W))

  pub no_nodes : (depth : ℕ) → allowance ≤ n → CountsC depth None
  no_nodes depth h = none_left words_c (holds_c T) (visits_c T) at allowance n (read_condition depth (drop at W)) (some_c T) h

  -- ---- a node by its head
  module _ (depth : ℕ) (lt : at < length W) (some : depth ≡ 0 → ⊥) where
    abbrev Node : ConditionHead → Parsed Condition
    Node h = condition_node (λ vs. read_condition (depth - 1) vs) h (drop (at + 1) W)

    node_is : (h : ConditionHead) → h ≡ condition_head (get_or W at 0) → read_condition depth (drop at W) ≡ Node h
    node_is h e = ap (read_condition depth) (word_at W at lt) ∙ level depth some ∙ ap Node (sym e)
      where
        level : (d : ℕ) → (d ≡ 0 → ⊥) → read_condition d (get_or W at 0 ∷ drop (at + 1) W) ≡ condition_node (λ vs. read_condition (d - 1) vs) (condition_head (get_or W at 0)) (drop (at + 1) W)
        level zero f = absurd (f refl)
        level (suc d) f =
            condition_node_lem d (get_or W at 0) (drop (at + 1) W)
            ∙ ap (λ k. condition_node (λ vs. read_condition k vs) (condition_head (get_or W at 0)) (drop (at + 1) W)) (let e : d ≡ suc d - 1 = omega arith in e)

    by_head : (h : ConditionHead) (r : Option Visit) → h ≡ condition_head (get_or W at 0) → Counts words_c (holds_c T) (visits_c T) at allowance n (Node h) r → CountsC depth r
    by_head h r e c = subst (λ q. Counts words_c (holds_c T) (visits_c T) at allowance n q r) (sym (node_is h e)) c

    pub always_counted : (r : Option Visit) → Always ≡ condition_head (get_or W at 0) → r ≡ counted_by allowance (n + 1) true (at + 1) → CountsC depth r
    unfolding condition_node
    always_counted r e p = by_head Always r e (leaf words_c (holds_c T) (visits_c T) at allowance n always (drop (at + 1) W) true (Node Always) r refl p refl refl refl)

    pub never_counted : (r : Option Visit) → Never ≡ condition_head (get_or W at 0) → r ≡ counted_by allowance (n + 1) false (at + 1) → CountsC depth r
    unfolding condition_node
    never_counted r e p = by_head Never r e (leaf words_c (holds_c T) (visits_c T) at allowance n never (drop (at + 1) W) false (Node Never) r refl p refl refl refl)

    pub has_counted : (f : ℕ) (v : Bool) (r : Option Visit) → Has f ≡ condition_head (get_or W at 0) → v ≡ is_present (T f) → r ≡ counted_by allowance (n + 1) v (at + 1) → CountsC depth r
    unfolding condition_node
    has_counted f v r e i p = by_head (Has f) r e (leaf words_c (holds_c T) (visits_c T) at allowance n (has f) (drop (at + 1) W) v (Node (Has f)) r refl p (i ∙ has_value f (T f)) refl refl)

    -- A word that one division shows to be a Has.
    pub has_word_counted : (v : Bool) (r : Option Visit) → get_or W at 0 / 1024 ≡ 524288 → v ≡ is_present (T (get_or W at 0 % 1024)) → r ≡ counted_by allowance (n + 1) v (at + 1) → CountsC depth r
    has_word_counted v r e i p = has_counted (get_or W at 0 % 1024) v r (has_word (get_or W at 0) e) i p

    pub not_counted : (inner r : Option Visit) → Not ≡ condition_head (get_or W at 0) → Counts words_c (holds_c T) (visits_c T) (at + 1) allowance (n + 1) (read_condition (depth - 1) (drop (at + 1) W)) inner →
        r ≡ flipped inner → CountsC depth r
    unfolding condition_node
    not_counted inner r e c p = by_head Not r e (rw p (flips (read_condition (depth - 1) (drop (at + 1) W)) c))
      where
        flips : (q : Parsed Condition) → Counts words_c (holds_c T) (visits_c T) (at + 1) allowance (n + 1) q inner →
            Counts words_c (holds_c T) (visits_c T) at allowance n (next q (λ c vs. got (not_c c) vs)) (flipped inner)
        flips (refuse m) c = record { says = nothing }
        flips (got x vs) c = record {
          says = fine (ap flipped c.says.it ∙ flipped_is allowance (n + 1 + visits_c T x) (holds_c T x) (at + 1 + words_c x)
              ∙ counted_as allowance (omega arith) (sym (truth_flip (eval_condition T x))) (omega arith));
        }

    -- Without arms All is false.
    pub all_none : (arms : ℕ) (r : Option Visit) → All arms ≡ condition_head (get_or W at 0) → arms ≡ 0 → r ≡ counted_by allowance (n + 1) false (at + 1) → CountsC depth r
    unfolding condition_node
    all_none arms r e z p = by_head (All arms) r e (rw z (leaf words_c (holds_c T) (visits_c T) at allowance n (all_c cnil) (drop (at + 1) W) false (Node (All 0)) r refl p refl refl refl))

    -- With arms it is what they come to.
    some_holds : (arms : ℕ) (ws : List ℕ) (cs : Conditions) (vs : List ℕ) → (arms ≡ 0 → ⊥) → many cnil ccons (λ us. read_condition (depth - 1) us) arms ws ≡ got cs vs → holds_c T (all_c cs) ≡ holds_cs false T cs
    some_holds arms ws cs vs f e =
        some_arm cnil ccons (λ us. read_condition (depth - 1) us) (λ l. holds_c T (all_c l) ≡ holds_cs false T l) (λ c l. all_holds T (ccons c l)) arms ws f cs vs e

    pub all_counted : (arms : ℕ) (r : Option Visit) → All arms ≡ condition_head (get_or W at 0) → (arms ≡ 0 → ⊥) →
        Counts words_cs (holds_cs false T) (visits_cs false T) (at + 1) allowance (n + 1) (many cnil ccons (read_condition (depth - 1)) arms (drop (at + 1) W)) r → CountsC depth r
    unfolding condition_node
    all_counted arms r e f c =
        by_head (All arms) r e
        (below words_cs (holds_cs false T) (visits_cs false T) words_c (holds_c T) (visits_c T) at allowance n (many cnil ccons (λ us. read_condition (depth - 1) us) arms (drop (at + 1) W)) all_c r
        (λ cs vs q. (some_holds arms (drop (at + 1) W) cs vs f q, (ap (λ k. 1 + k) (all_nodes T cs), refl))) c)

    pub any_counted : (arms : ℕ) (r : Option Visit) → Any arms ≡ condition_head (get_or W at 0) →
        Counts words_cs (holds_cs true T) (visits_cs true T) (at + 1) allowance (n + 1) (many cnil ccons (read_condition (depth - 1)) arms (drop (at + 1) W)) r → CountsC depth r
    unfolding condition_node
    any_counted arms r e c =
        by_head (Any arms) r e
        (below words_cs (holds_cs true T) (visits_cs true T) words_c (holds_c T) (visits_c T) at allowance n (many cnil ccons (λ us. read_condition (depth - 1) us) arms (drop (at + 1) W)) any_c r
        (λ cs vs q. (any_holds T cs, (ap (λ k. 1 + k) (any_nodes T cs), refl))) c)

    pub bad_kind : (r : Option Visit) → BadKind ≡ condition_head (get_or W at 0) → CountsC depth r
    unfolding condition_node
    bad_kind r e = by_head BadKind r e (record { says = nothing })

    pub bad_field : (r : Option Visit) → BadField ≡ condition_head (get_or W at 0) → CountsC depth r
    unfolding condition_node
    bad_field r e = by_head BadField r e (record { says = nothing })

-- ---- arms
-- The value of the arm that decides is `stop`; another leaves the rule to the arms after it.
pub go_on_at : (v h stop : Bool) (a b : ℕ) (w : Bool) → v ≡ h → beq h stop ≡ false → (a + cond (beq v stop) 0 b ≡ a + b) × (cond (beq v stop) stop w ≡ w)
go_on_at v h stop a b w e d = let t : beq v stop ≡ false = ap (λ x. beq x stop) e ∙ d in (ap (λ x. a + cond x 0 b) t, ap (λ x. cond x stop w) t)

pub stops_at : (v h stop : Bool) (a b : ℕ) (w : Bool) → v ≡ h → beq h stop ≡ true → (a + cond (beq v stop) 0 b ≡ a + 0) × (cond (beq v stop) stop w ≡ stop)
stops_at v h stop a b w e d = let t : beq v stop ≡ true = ap (λ x. beq x stop) e ∙ d in (ap (λ x. a + cond x 0 b) t, ap (λ x. cond x stop w) t)

module _ (stop : Bool) (T : Table) (W : List ℕ) (depth allowance : ℕ) where
  pub conditions_none : (at arms n : ℕ) (r : Option Visit) → arms ≡ 0 → r ≡ counted_by allowance n (not stop) at → CountsCs T W at allowance n stop depth arms r
  conditions_none at arms n r z e =
      arms_none cnil ccons words_c words_cs (holds_c T) (visits_c T) refl (λ a b. refl) (read_condition depth) (condition_leaves depth) W allowance (holds_cs stop T) (visits_cs stop T) at arms n z refl r e

  module _ (at arms n : ℕ) (some : arms ≡ 0 → ⊥) where
    pub conditions_over : CountsC T W at allowance n depth None → CountsCs T W at allowance n stop depth arms None
    conditions_over c =
        arm_over cnil ccons words_c words_cs (holds_c T) (visits_c T) refl (λ a b. refl) (read_condition depth) (condition_leaves depth) W allowance (holds_cs stop T) (visits_cs stop T) at arms n some
        (λ a b. omega arith) c

    module _ (w : Visit) (r : Option Visit) (first : CountsC T W at allowance n depth (Some w)) where
      pub conditions_more : beq w.holds stop ≡ false → CountsCs T W w.next allowance w.nodes stop depth (arms - 1) r → CountsCs T W at allowance n stop depth arms r
      conditions_more d rest =
          arm_first cnil ccons words_c words_cs (holds_c T) (visits_c T) refl (λ a b. refl) (read_condition depth) (condition_leaves depth) W allowance
          (holds_cs stop T) (holds_cs stop T) (visits_cs stop T) (visits_cs stop T) at arms n w r some first
          (λ a b v. go_on_at (holds_c T a) w.holds stop (visits_c T a) (visits_cs stop T b) (holds_cs stop T b) v d) rest

      pub conditions_stop : beq w.holds stop ≡ true → (end : ℕ) → SkippedConditions W w.next (arms - 1) end → r ≡ counted_by allowance w.nodes stop end → CountsCs T W at allowance n stop depth arms r
      conditions_stop d end k p =
          arm_first cnil ccons words_c words_cs (holds_c T) (visits_c T) refl (λ a b. refl) (read_condition depth) (condition_leaves depth) W allowance
          (holds_cs stop T) (λ _. stop) (visits_cs stop T) (λ _. 0) at arms n w r some first
          (λ a b v. stops_at (holds_c T a) w.holds stop (visits_c T a) (visits_cs stop T b) (holds_cs stop T b) v d)
          (arms_passed cnil ccons words_c words_cs (holds_c T) (visits_c T) refl (λ a b. refl) (read_condition depth) (condition_leaves depth) W allowance stop w.next (arms - 1) w.nodes end r p (k.ends depth))
