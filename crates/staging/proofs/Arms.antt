-- Arms of a list that is reduced in sheet order: what carries over to those up to the first deny, and to what the list ends as.
use Rattle.std.specs.Prelude.{Bool, true, false, cond, List, [], ◌∷◌}
use Rattle.model.specs.Facts.{Table}
use Rattle.model.specs.Outcome.{Outcomes}
use Rattle.model.specs.Decision.{permits, denies}
use Rattle.model.specs.Policy.{Policy, Policies, pnil, pcons}
use Rattle.model.specs.Evaluate.{eval_policy}
use Rattle.model.specs.Partial.{ReducedPolicy, resolved, pending, as_residual, until_deny, up_to_deny, in_order, any_pending, end_in_order}

-- The arms up to a deny are those that the list begins with: R holds of the two where it holds of no arms beside any, and of an arm more on both sides.
module _ {O : Type 0} (R : Policies O → Policies O → Type 0) (none_left : (ts : Policies O) → R pnil ts) (one_more : (t : Policy O) (ts us : Policies O) → R ts us → R (pcons t ts) (pcons t us)) where
  until_deny_lem : (r : ReducedPolicy O) (rs : List (ReducedPolicy O)) (us : Policies O) → R (in_order rs) us → R (in_order (until_deny r rs)) (pcons (as_residual r) us)
  until_deny_lem (resolved (denies d)) rs us h = one_more (as_residual (resolved (denies d))) pnil us (none_left us)
  until_deny_lem (resolved (permits p)) rs us h = one_more (as_residual (resolved (permits p))) (in_order rs) us h
  until_deny_lem (pending q) rs us h = one_more q (in_order rs) us h

  pub up_to_deny_lem : (rs : List (ReducedPolicy O)) → R (in_order (up_to_deny rs)) (in_order rs)
  up_to_deny_lem [] = none_left pnil
  up_to_deny_lem (r ∷ rs) = until_deny_lem r (up_to_deny rs) (in_order rs) (up_to_deny_lem rs)

-- A list ends as itself where an arm is pending, and as its value where none is.
module _ (L : Outcomes) (Q : Policy L.O → Type 0) (list : Policies L.O → Policy L.O) (T : Table) (rs : List (ReducedPolicy L.O)) where
  pub ends_in_order : Q (list (in_order rs)) → Q (as_residual (resolved (eval_policy L T (list (in_order rs))))) → Q (as_residual (end_in_order L list T rs))
  ends_in_order h k = pick (any_pending rs) where
    pick : (b : Bool) → Q (as_residual (cond b (pending (list (in_order rs))) (resolved (eval_policy L T (list (in_order rs))))))
    pick true = h
    pick false = k
