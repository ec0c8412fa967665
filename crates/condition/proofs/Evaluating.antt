-- Whether a condition is satisfied and what it consults, by its first word. Assumes nothing.
use mathlib.Core.Path.{◌≡◌, refl, sym, subst, ◌∙◌}
use mathlib.Core.Bool.{Bool, true, false, cond}
use mathlib.Core.List.{List, [], ◌∷◌}
use Prim.Native.Nat.{ℕ, zero, suc, ◌+◌, ◌/◌, ◌%◌, ◌≤◌, ◌<◌}
use native.Mathlib.Omega.{arith}
use borrow.Author.Tests.{ltb-true}
use lib.Dec.{eqb, ltb}
use lib.ListN.{length, drop, get_or}
use Rattle.model.specs.Facts.{Table, fact_count}
use Rattle.model.specs.Condition.{Condition, always, never, all_c, any_c, cnil, satisfied, eval_condition}
use Rattle.model.specs.Consulted.{Consulted, read_c}
use Rattle.model.specs.Reading.{got, kind_of, rest_of, read_condition}
use Rattle.laws.proofs.FieldLaws.{Holds, fine, nothing}
use Rattle.laws.proofs.NodeLaws.{condition_none}
use Rattle.laws.specs.Size.{words_c}
use Rattle.laws.specs.Truth.{is_satisfied}
use Rattle.facts.specs.Answers.{is_present}
use Rattle.facts.specs.AnswerLaws.{has_value}
use Rattle.policy_model.specs.declared.ConditionHead.{ConditionHead}
use Rattle.policy_model.specs.declared.ConditionHead.TheVariants.{Always, Never, Has, Not, All, Any, BadKind, BadField}
use Rattle.policy_model.specs.Heads.{condition_heads, condition_head, condition_node}
use Rattle.policy_model.specs.HeadLaws.{condition_node_lem, condition_deep, has_word}
use Rattle.policy_model.proofs.Checking.{word_at, no_word}
use Rattle.condition.specs.declared.ConditionEval.{ConditionEval}
use Rattle.condition.specs.declared.Node.TheVariants.{Value}
use Rattle.consulted.specs.Listing.{Lent, Recorded}
use Rattle.condition.specs.Evaluating.{answer_of, EvaluatesC, EvaluatesHas}
use Rattle.condition.specs.Walking.{node_of}
use Rattle.consulted.proofs.Listing.{consults_as, consults_none}

-- ---- reading at a position
module _ {Q : Condition → List ℕ → Type 0} where
  pub no_levels : (ws : List ℕ) → Holds Q (read_condition zero ws)
  no_levels [] = nothing
  no_levels (w ∷ ws) = rw (condition_deep w ws) nothing

  pub no_words : (words : List ℕ) (at depth : ℕ) → length words ≤ at → Holds Q (read_condition depth (drop at words))
  no_words words at depth h = rw (no_word words at h, condition_none depth) nothing

  pub by_head : (words : List ℕ) (at d : ℕ) (h : ConditionHead) → at < length words → h ≡ condition_head (get_or words at 0) →
      Holds Q (condition_node (λ vs. read_condition d vs) h (drop (at + 1) words)) → Holds Q (read_condition (suc d) (drop at words))
  by_head words at d h lt e g = rw (word_at words at lt, condition_node_lem) (rw e at g)

-- ---- a condition that reads no fact
pub eval_end : (T : Table) (words : List ℕ) (at depth : ℕ) (s : Lent) (r : ConditionEval) → length words ≤ at → EvaluatesC T words at depth s r s
eval_end T words at depth s r h = record { says = no_words words at depth h }

module _ (T : Table) (words : List ℕ) (at d : ℕ) (s : Lent) (r : ConditionEval) (lt : at < length words) (n : r.next ≡ at + 1) where
  leaf : (h : ConditionHead) (c : Condition) → h ≡ condition_head (get_or words at 0) → condition_node (λ vs. read_condition d vs) h (drop (at + 1) words) ≡ got c (drop (at + 1) words) →
      words_c c ≡ 1 → ((l : Consulted) → read_c T c l ≡ l) → r.satisfied ≡ is_satisfied (eval_condition T c) → EvaluatesC T words at (suc d) s r s
  leaf h c e g one same v = record {
    says = by_head words at d h lt e (rw g (fine (record { satisfied_is = v; next_is = omega arith; log = consults_as same consults_none })));
  }

  -- A value at once. Of words that don't read nothing is said.
  pub eval_value : (h : ConditionHead) (v : Bool) → Value v ≡ node_of h → h ≡ condition_head (get_or words at 0) → r.satisfied ≡ v → EvaluatesC T words at (suc d) s r s
  unfolding condition_node
  eval_value Always v is e i = leaf Always always e refl refl (λ l. refl) (cc)
  eval_value Never v is e i = leaf Never never e refl refl (λ l. refl) (cc)
  eval_value (Has f) v is e i = absurd (cc)
  eval_value Not v is e i = absurd (cc)
  eval_value (All zero) v is e i = leaf (All 0) (all_c cnil) e refl refl (λ l. refl) (cc)
  eval_value (All (suc m)) v is e i = absurd (cc)
  eval_value (Any zero) v is e i = leaf (Any 0) (any_c cnil) e refl refl (λ l. refl) (cc)
  eval_value (Any (suc m)) v is e i = absurd (cc)
  eval_value BadKind v is e i = record { says = by_head words at d BadKind lt e nothing }
  eval_value BadField v is e i = record { says = by_head words at d BadField lt e nothing }

-- ---- a Has
pub has_answer : (T : Table) (f : ℕ) (s : Lent) (v : Bool) (t : Lent) → v ≡ is_present (T f) → Recorded f (T f) s t → EvaluatesHas T f s v t
has_answer T f s v t e a = record { satisfied_is = e ∙ has_value f (T f); log = consults_as (λ l. refl) a.log }

pub eval_has_lem : (T : Table) (words : List ℕ) (at d : ℕ) (s : Lent) (v : Bool) (t : Lent) → at < length words → (f : ℕ) → Has f ≡ condition_head (get_or words at 0) →
    EvaluatesHas T f s v t → EvaluatesC T words at (suc d) s (answer_of v (at + 1)) t
unfolding condition_node
eval_has_lem T words at d s v t lt f e a = record { says = by_head words at d (Has f) lt e (fine (record { satisfied_is = a.satisfied_is; next_is = refl; log = a.log })) }

pub eval_has_word : (T : Table) (words : List ℕ) (at depth : ℕ) (s : Lent) (v : Bool) (t : Lent) → at < length words → get_or words at 0 / 1024 ≡ 524288 →
    EvaluatesHas T (get_or words at 0 % 1024) s v t → EvaluatesC T words at depth s (answer_of v (at + 1)) t
eval_has_word T words at zero s v t lt e a = record { says = no_levels (drop at words) }
eval_has_word T words at (suc d) s v t lt e a = eval_has_lem T words at d s v t lt (get_or words at 0 % 1024) (has_word (get_or words at 0) e) a

-- ---- the fact of a Has is below 1,024, and a list has below 4,096 arms
abbrev pub Below : ConditionHead → Type 0
Below Always = Unit {0}
Below Never = Unit {0}
Below (Has f) = f < fact_count
Below Not = Unit {0}
Below (All n) = n < 4096
Below (Any n) = n < 4096
Below BadKind = Unit {0}
Below BadField = Unit {0}

below_field : (b : Bool) (h : ConditionHead) → (b ≡ true → Below h) → Below (cond b h BadField)
below_field true h f = f refl
below_field false h f = tt

below_by : (k r : ℕ) → Below (get_or (condition_heads r) k BadKind)
below_by zero r = below_field (eqb r 0) Always (λ _. tt)
below_by (suc zero) r = below_field (eqb r 0) Never (λ _. tt)
below_by (suc (suc zero)) r = below_field (ltb r fact_count) (Has r) (λ e. ltb-true r fact_count e)
below_by (suc (suc (suc zero))) r = below_field (eqb r 0) Not (λ _. tt)
below_by (suc (suc (suc (suc zero)))) r = below_field (ltb r 4096) (All r) (λ e. ltb-true r 4096 e)
below_by (suc (suc (suc (suc (suc zero))))) r = below_field (ltb r 4096) (Any r) (λ e. ltb-true r 4096 e)
below_by (suc (suc (suc (suc (suc (suc k)))))) r = tt

pub below_head : (h : ConditionHead) (w : ℕ) → h ≡ condition_head w → Below h
unfolding condition_head
below_head h w e = subst Below (sym e) (below_by (kind_of w) (rest_of w))
