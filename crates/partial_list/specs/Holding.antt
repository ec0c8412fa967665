-- The list rule in sheet order as a state carried along the arms: the arms so far, of which none ended the list. Request 8.
use Rattle.std.specs.Prelude.{List, [], ◌∷◌, ◌++◌}
use Rattle.std.proofs.Math.Option.{Option}
use Rattle.model.specs.Facts.{Table}
use Rattle.model.specs.Levels.{OutcomeTable}
use Rattle.model.specs.Decision.{Decision, permits, denies}
use Rattle.model.specs.Policy.{Policies}
use Rattle.model.specs.Partial.{ReducedPolicy, resolved, pending, sheet_order, up_to_deny}
use Rattle.model.specs.Products.{Outcome, end_in_order, reduce_arms}
use Rattle.partial_list.specs.declared.ListKind.{ListKind}
use Rattle.partial_list.specs.declared.ListKind.TheVariants.{All, Any}
use Rattle.partial_list.specs.Keeping.{list_of, value_by}

-- The arms that a list holds, of those that are left.
abbrev pub held_of : ListKind → List (ReducedPolicy Outcome) → List (ReducedPolicy Outcome)
held_of All rs = up_to_deny rs
held_of Any rs = rs

-- What a list comes to, by the arms so far and those that are left.
abbrev pub left_of : ListKind → Option OutcomeTable → Table → List (ReducedPolicy Outcome) → Policies Outcome → ReducedPolicy Outcome
left_of kind g P k ts = end_in_order g (list_of kind) P (k ++ held_of kind (reduce_arms g sheet_order P ts))

-- What the resolved arms so far came to.
abbrev pub decisions_of : List (ReducedPolicy Outcome) → List (Decision Outcome)
decisions_of [] = []
decisions_of (resolved d ∷ k) = d ∷ decisions_of k
decisions_of (pending q ∷ k) = decisions_of k

-- The decision of the arms so far, if there was one, where none is pending.
abbrev pub value_of : ListKind → Option OutcomeTable → List (ReducedPolicy Outcome) → Option (Decision Outcome)
value_of kind g k = value_by kind g (decisions_of k)

-- No arm so far is a deny, where the list is an All that goes on.
abbrev pub NoDeny : ListKind → List (ReducedPolicy Outcome) → Type 0
NoDeny All [] = Unit {0}
NoDeny All (resolved (permits p) ∷ k) = NoDeny All k
NoDeny All (resolved (denies d) ∷ k) = ⊥
NoDeny All (pending q ∷ k) = NoDeny All k
NoDeny Any k = Unit {0}
