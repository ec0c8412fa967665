-- What the node at a position of the words gives a decision: its clause and its obligations.
use Rattle.std.specs.Prelude.{true, cond, Option, None, Some, List, [], ℕ, ltb, length}
use Rattle.std.proofs.Math.Option.{some, none}
use Rattle.model.specs.Facts.{Table}
use Rattle.model.specs.Condition.{ConditionEval, satisfied, unsatisfied, eval_condition}
use Rattle.model.specs.Decision.{Denial, Decision, permits, denies, forbidden, generic_deny}
use Rattle.model.specs.Policy.{Policy, permit, deny, grant, all, any, or_else, stored}
use Rattle.model.specs.Writing.{obligation_bits}
use Rattle.model.specs.Reading.{Parsed, refuse, got, levels}
use Rattle.model.specs.Products.{Outcome, policy_at}
use Rattle.laws.specs.FieldAt.{field_at, firsts}
use Rattle.policy_model.specs.declared.PolicyHead.{PolicyHead}
use Rattle.policy_model.specs.declared.PolicyHead.TheVariants.{Permit, Deny, Grant, All, Any, OrElse, PermitWithTrace, DenyWithTrace, BadKind, BadField}
use Rattle.policy_model.specs.Heads.{policy_head}

-- The facts that a condition names.
abbrev pub named : ConditionEval → List ℕ
named (satisfied fs) = fs
named (unsatisfied fs) = fs

-- The decisive clause that a stored decision, or a node, gives. A permit takes of it the label and the facts.
abbrev pub clause_of_d : Decision Outcome → Denial Outcome
clause_of_d (permits p) = record { denied = none; facts = p.facts; label = p.label; reason = none; shape = forbidden }
clause_of_d (denies d) = d

abbrev pub clause_of : Table → Policy Outcome → Denial Outcome
clause_of T (permit o) = generic_deny
clause_of T deny = generic_deny
clause_of T (grant g c) = record { denied = some g.outcome; facts = named (eval_condition T c); label = g.label; reason = g.reason; shape = g.shape }
clause_of T (all ts) = generic_deny
clause_of T (any ts) = generic_deny
clause_of T (or_else a b) = generic_deny
clause_of T (stored d) = clause_of_d d

-- The obligations of a grant or of a stored permit.
abbrev pub obligations_of_d : Decision Outcome → List ℕ
obligations_of_d (permits p) = p.obligations
obligations_of_d (denies d) = []

abbrev pub obligations_of : Policy Outcome → List ℕ
obligations_of (permit o) = []
obligations_of deny = []
obligations_of (grant g c) = g.obligations
obligations_of (all ts) = []
obligations_of (any ts) = []
obligations_of (or_else a b) = []
obligations_of (stored d) = obligations_of_d d

-- The position that is named, if the words reach it.
abbrev pub reached : List ℕ → Option ℕ → Option ℕ
reached words None = None
reached words (Some at) = cond (ltb at (length words)) (Some at) None

-- The node at a position. Past the end there is none.
unfoldable pub node_at : List ℕ → ℕ → Parsed (Policy Outcome)
node_at words at = policy_at words at levels

abbrev pub clause_read : Table → Parsed (Policy Outcome) → Denial Outcome
clause_read T (refuse n) = generic_deny
clause_read T (got t ws) = clause_of T t

abbrev pub obligations_read : Parsed (Policy Outcome) → List ℕ
obligations_read (refuse n) = []
obligations_read (got t ws) = obligations_of t

-- What the node that is named gives. Where none is named, nothing.
unfoldable pub clause_at : List ℕ → Table → Option ℕ → Denial Outcome
clause_at words T None = generic_deny
clause_at words T (Some at) = clause_read T (node_at words at)

unfoldable pub obligations_at : List ℕ → Option ℕ → List ℕ
obligations_at words None = []
obligations_at words (Some at) = obligations_read (node_at words at)

-- ---- obligations as fields of the words

-- The first n obligations of the list that these words begin with.
abbrev pub obligation_fields : ℕ → List ℕ → List ℕ
obligation_fields n ws = firsts (field_at obligation_bits ws) n

-- How many obligations a node has, by its head; and by its first word.
abbrev pub head_count : PolicyHead → ℕ
head_count (Permit o) = 0
head_count Deny = 0
head_count (Grant shape n o) = n
head_count (All n) = 0
head_count (Any n) = 0
head_count OrElse = 0
head_count (PermitWithTrace n o) = n
head_count (DenyWithTrace shape denied) = 0
head_count BadKind = 0
head_count BadField = 0

unfoldable pub obligation_count_of : ℕ → ℕ
obligation_count_of w = head_count (policy_head w true)
