-- A walk over a condition in one loop: the nodes that are open, and what is still asked of them.
use Rattle.std.specs.Prelude.{Bool, true, false, not, cond, Option, Some, None, List, [], ◌∷◌, ℕ, zero, suc, ◌+◌, ◌≤◌, drop, get_or}
use Rattle.std.specs.Bool.{beq}
use Rattle.model.specs.Facts.{Table}
use Rattle.model.specs.Condition.{Conditions, cnil, ccons, eval_condition, eval_condition_all, eval_condition_any}
use Rattle.model.specs.Consulted.{Consulted, read_c, read_all_c, read_any_c}
use Rattle.model.specs.Reading.{many, read_condition}
use Rattle.laws.proofs.FieldLaws.{Holds}
use Rattle.laws.specs.Size.{words_c, words_cs}
use Rattle.laws.specs.Truth.{is_satisfied}
use Rattle.policy_model.specs.declared.ConditionHead.{ConditionHead}
use Rattle.policy_model.specs.declared.ConditionHead.TheVariants as condition
use Rattle.condition.specs.declared.ConditionEval.{ConditionEval}
use Rattle.condition.specs.declared.OpenNode.{OpenNode}
use Rattle.condition.specs.declared.OpenNode.TheVariants.{Not, Arms}
use Rattle.condition.specs.declared.Node.{Node}
use Rattle.condition.specs.declared.Node.TheVariants.{Value, Has, Open}
use Rattle.consulted.specs.Listing.{Lent}
use Rattle.condition.specs.Evaluating.{Evaluated}

-- ---- nodes
-- What a condition's head is to a walk.
abbrev pub list_node : Bool → ℕ → Node
list_node stop zero = Value false
list_node stop (suc n) = Open (Arms stop n)

abbrev pub node_of : ConditionHead → Node
node_of condition.Always = Value true
node_of condition.Never = Value false
node_of (condition.Has f) = Has f
node_of condition.Not = Open Not
node_of (condition.All n) = list_node false n
node_of (condition.Any n) = list_node true n
node_of condition.BadKind = Value false
node_of condition.BadField = Value false

-- The first `level` nodes of an array, the last of them, which is the innermost, first.
unfoldable pub opens : List OpenNode → ℕ → List OpenNode
opens above zero = []
opens above (suc level) = get_or above level Not ∷ opens above level

-- ---- list rules
-- A list rule by the value that decides it, false for All and true for Any. The empty All is none of them.
abbrev pub list_value : Bool → Table → Conditions → Bool
list_value false T cs = is_satisfied (eval_condition_all T cs)
list_value true T cs = is_satisfied (eval_condition_any T cs)

abbrev pub list_read : Bool → Table → Conditions → Consulted → Consulted
list_read false T cs l = read_all_c T cs l
list_read true T cs l = read_any_c T cs l

-- The same of an arm that has the value v and of the arms after it.
abbrev pub value_on : Bool → Table → Bool → Conditions → Bool
value_on stop T v cs = cond (beq v stop) v (list_value stop T cs)

abbrev pub read_on : Bool → Table → Bool → Conditions → Consulted → Consulted
read_on stop T v cs l = cond (beq v stop) l (list_read stop T cs l)

-- ---- what is still asked
-- The answer to a walk in which the condition before `next` has the value v and has consulted as `read` does; `d` is how many levels it may have.
unfoldable pub Known : Table → List ℕ → Lent → ConditionEval → Lent → ℕ → List OpenNode → Bool → ℕ → (Consulted → Consulted) → Type 0
Known T words s r t d [] v next read = Evaluated v next read s r t
Known T words s r t d (Not ∷ fs) v next read = Known T words s r t (suc d) fs (not v) next read
Known T words s r t d (Arms stop n ∷ fs) v next read =
    Holds
    (λ cs rest. Known T words s r t (suc d) fs (value_on stop T v cs) (next + words_cs cs) (λ l. read_on stop T v cs (read l)))
    (many cnil ccons (read_condition d) n (drop next words))

-- The answer to a walk in which a condition is to be read at `next`.
unfoldable pub Unread : Table → List ℕ → Lent → ConditionEval → Lent → ℕ → List OpenNode → ℕ → Type 0
Unread T words s r t d fs next =
    Holds
    (λ c rest. Known T words s r t d fs (is_satisfied (eval_condition T c)) (next + words_c c) (λ l. read_c T c l))
    (read_condition d (drop next words))

-- What is asked where the innermost node is done with an arm: it has its answer, or it is m then and its next arm is read.
abbrev pub Left : Table → List ℕ → Lent → ConditionEval → Lent → ℕ → List OpenNode → ℕ → OpenNode → Option ConditionEval → Type 0
Left T words s r t d fs next m (Some e) = Known T words s r t (suc d) fs e.satisfied e.next (λ l. l)
Left T words s r t d fs next m None = Unread T words s r t d (m ∷ fs) next

abbrev pub end_of : ℕ → Option ConditionEval → ℕ
end_of next (Some e) = e.next
end_of next None = next

-- An open node n whose arm before `next` has the value v: whatever answers the walk after it answers the walk before.
pub record Settles (words : List ℕ) (n : OpenNode) (v : Bool) (next : ℕ) (m : OpenNode) (a : Option ConditionEval) : Type 0 where
  pub onward : next ≤ end_of next a
  pub goes : (T : Table) (s : Lent) (r : ConditionEval) (t : Lent) (d : ℕ) (fs : List OpenNode) →
      Left T words s r t d fs next m a → Known T words s r t d (n ∷ fs) v next (λ l. l)
