-- The list rule with its permits first as a state carried along the arms: what a loop keeps. Document 01, "Reducing".
use Rattle.std.specs.Prelude.{Bool, true, false, List, [], ◌∷◌, ◌++◌, ℕ, ◌+◌}
use Rattle.std.proofs.Math.Option.{Option, none, some}
use Rattle.model.specs.Facts.{Table}
use Rattle.model.specs.Levels.{OutcomeTable}
use Rattle.model.specs.Decision.{Permit, Denial, Decision, permits, denies}
use Rattle.model.specs.Policy.{Policy, all, any, stored, Policies, pnil, pcons}
use Rattle.model.specs.Evaluate.{first_deny}
use Rattle.model.specs.Partial.{ReducedPolicy, resolved, pending, Order, permits_first, AllWalk, stop, go, walked_all, AnyWalk, parts, walked_any}
use Rattle.model.specs.Consulted.{Consulted}
use Rattle.model.specs.Products.{Outcome, end_all, end_any, reduce_arms, walk_all, walk_any, encode_d}
use Rattle.evaluate.specs.Folding.{meet_next, all_of, join_next, any_of}
use Rattle.residual.specs.Weight.{weight_d}
use Rattle.partial_list.specs.declared.ListKind.{ListKind}
use Rattle.partial_list.specs.declared.ListKind.TheVariants.{All, Any}

-- ---- what the arms so far came to
pub record Walked : Type 0 where
  pub permitted : List (Permit Outcome)
  pub denied : Option (Denial Outcome)
  pub pend : Policies Outcome

abbrev pub walked : List (Permit Outcome) → Option (Denial Outcome) → Policies Outcome → Walked
walked ps first qs = record { permitted = ps; denied = first; pend = qs }

abbrev pub append : Policies Outcome → Policies Outcome → Policies Outcome
append pnil rs = rs
append (pcons q qs) rs = pcons q (append qs rs)

-- One arm more.
abbrev pub with_arm : Walked → ReducedPolicy Outcome → Walked
with_arm k (resolved (permits p)) = walked (k.permitted ++ p ∷ []) k.denied k.pend
with_arm k (resolved (denies d)) = walked k.permitted (some (first_deny k.denied d)) k.pend
with_arm k (pending q) = walked k.permitted k.denied (append k.pend (pcons q pnil))

-- A resolved deny stops All.
abbrev pub stops : ListKind → ReducedPolicy Outcome → Bool
stops All (resolved (permits p)) = false
stops All (resolved (denies d)) = true
stops All (pending q) = false
stops Any x = false

-- ---- the arms that are left
abbrev pub then_all : List (Permit Outcome) → Policies Outcome → AllWalk Outcome → AllWalk Outcome
then_all ps qs (stop d) = stop d
then_all ps qs (go os rs) = go (ps ++ os) (append qs rs)

abbrev pub or_first : Option (Denial Outcome) → Option (Denial Outcome) → Option (Denial Outcome)
or_first none second = second
or_first (some d) second = some d

abbrev pub then_any : List (Permit Outcome) → Option (Denial Outcome) → Policies Outcome → AnyWalk Outcome → AnyWalk Outcome
then_any ps first qs (parts os second rs) = parts (ps ++ os) (or_first first second) (append qs rs)

-- What a list comes to, All or Any, by what its arms came to so far and by the arms that are left; and what those consult.
abbrev pub left_of : ListKind → Option OutcomeTable → Table → Walked → Policies Outcome → ReducedPolicy Outcome
left_of All g P k ts = end_all g P (then_all k.permitted k.pend (walked_all (reduce_arms g permits_first P ts)))
left_of Any g P k ts = end_any g P (then_any k.permitted k.denied k.pend (walked_any (reduce_arms g permits_first P ts)))

abbrev pub read_of : ListKind → Option OutcomeTable → Order → Table → Policies Outcome → Consulted → Consulted
read_of All g o P ts l = walk_all g o P ts l
read_of Any g o P ts l = walk_any g o P ts l

-- The list itself: 9 All, 10 Any.
abbrev pub list_of : ListKind → Policies Outcome → Policy Outcome
list_of All ts = all ts
list_of Any ts = any ts

abbrev pub list_kind : ListKind → ℕ
list_kind All = 9
list_kind Any = 10

-- ---- the resolved parts that are kept: permits, or of an Any without permits its first deny
abbrev pub as_decisions : List (Permit Outcome) → List (Decision Outcome)
as_decisions [] = []
as_decisions (p ∷ ps) = permits p ∷ as_decisions ps

abbrev pub kept_of : List (Permit Outcome) → Option (Denial Outcome) → List (Decision Outcome)
kept_of [] none = []
kept_of [] (some d) = denies d ∷ []
kept_of (p ∷ ps) first = as_decisions (p ∷ ps)

abbrev pub nodes_of : ListKind → Walked → List (Decision Outcome)
nodes_of All k = as_decisions k.permitted
nodes_of Any k = kept_of k.permitted k.denied

-- ---- the decision of the resolved arms so far, if there was one
abbrev pub list_value : ListKind → Option OutcomeTable → List (Decision Outcome) → Decision Outcome
list_value All g ds = all_of g none ds
list_value Any g ds = any_of g none ds

abbrev pub value_by : ListKind → Option OutcomeTable → List (Decision Outcome) → Option (Decision Outcome)
value_by kind g [] = none
value_by kind g (d ∷ ds) = some (list_value kind g (d ∷ ds))

abbrev pub sofar_value : ListKind → Option OutcomeTable → Walked → Option (Decision Outcome)
sofar_value kind g k = value_by kind g (nodes_of kind k)

-- One arm more: under All they meet, under Any they join.
abbrev pub fold_next : ListKind → Option OutcomeTable → Option (Decision Outcome) → Decision Outcome → Decision Outcome
fold_next All g = meet_next g
fold_next Any g = join_next g

-- ---- the end of a list
-- Whether an arm is pending.
abbrev pub is_open : Policies Outcome → Bool
is_open pnil = false
is_open (pcons q qs) = true

-- How many arms are kept with one more that was resolved: only a permit is.
abbrev pub arms_with : Bool → ℕ → ℕ
arms_with true n = n + 1
arms_with false n = n

-- They stand before the pending arms as nodes 12 or 13.
abbrev pub with_nodes : List (Decision Outcome) → Policies Outcome → Policies Outcome
with_nodes [] qs = qs
with_nodes (d ∷ ds) qs = pcons (stored d) (with_nodes ds qs)

abbrev pub end_of : ListKind → Option OutcomeTable → Table → Walked → ReducedPolicy Outcome
end_of All g P k = end_all g P (go k.permitted k.pend)
end_of Any g P k = end_any g P (parts k.permitted k.denied k.pend)

-- ---- sizes and words of nodes and of pending arms
abbrev pub weights_d : List (Decision Outcome) → ℕ
weights_d [] = 0
weights_d (d ∷ ds) = weight_d d + weights_d ds

abbrev pub encodes_d : List (Decision Outcome) → List ℕ
encodes_d [] = []
encodes_d (d ∷ ds) = encode_d d ++ encodes_d ds
